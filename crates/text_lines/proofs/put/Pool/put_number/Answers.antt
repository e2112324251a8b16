-- What `io` writes is the number in decimal.
use mathlib.Core.Path.{◌≡◌}
use Prim.Native.Nat.{◌^◌, ◌<◌}
use borrow.Author.Rules.{rules}
use lib.ListN.{take}
use Rattle.text_lines.specs.Text.{decimal}
use Rattle.text_lines.proofs.PutLaws.{put_as}
use Rattle.text_lines.proofs.DecimalLaws.{decimal-is, fewest_count}
use Rattle.text_lines.proofs.put.Pool.put_number.Goals as goal
use Rattle.text_lines.proofs.put.Pool.put_number.Goals.{After-decimal-count}

-- after the call of `io` the first digits are the number's
written : (c : After-decimal-count) → take c.decimal-count.result c.decimal-count.new.out ≡ decimal c.args.number
written c =
    let d = c.decimal-count in
    let a = c.args in
    let n : a.number < 2 ^ 64 = search rules in
    decimal-is _ d.result _ d.ensures.len (fewest_count a.number d.result d.ensures.len n) d.ensures.digits

pub returns-clause-put : goal.returns-clause-put
returns-clause-put c =
    put_as _ _ (written (goal.at.returns-clause-put c).After-decimal-count) c.put_bytes.ensures.put
