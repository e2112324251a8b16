-- What `io` writes is the number in decimal.
use Prim.Native.Nat.{◌^◌, ◌<◌}
use borrow.Author.Rules.{rules}
use Rattle.text_lines.proofs.DecimalLaws.{decimal-count, fewest_count}
use Rattle.text_lines.proofs.put.digits_of.Goals as goal

pub returns : goal.returns
returns c =
    let d = c.decimal in
    let a = c.args in
    let n : a.number < 2 ^ 64 = search rules in
    decimal-count a.number d.result d.ensures.len (fewest_count a.number d.result d.ensures.len n)
