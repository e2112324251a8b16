-- The rows written are those of the first 128.
use mathlib.Core.Path.{◌∙◌, ap}
use mathlib.Core.List.{List}
use Prim.Native.Nat.{ℕ, ◌+◌}
use lib.ListN.{length}
use lib.Seq.{sets}
use Rattle.std.proofs.Math.Nat.{min_comm}
use Rattle.reduce_turn.specs.Turn.{turned_rows}
use Rattle.reduce_turn.proofs.Turning.{first-countable, first_rows, first-most}
use Rattle.reduce_turn.proofs.turn.write_first.Goals as goal

pub write_turned-requires : goal.write_turned-requires
write_turned-requires c =
    first-countable c.args.rows.now _ (c.min-most.ensures ∙ min_comm _ 128)

pub returns : goal.returns
returns c =
    let rows = c.args.rows.now in
    let most = (c.min-most.ensures ∙ min_comm _ 128) in
    let wrote = c.write_turned.ensures in
    let first = first_rows rows _ most in
    (first-most rows _ _ most wrote.0, (wrote.0 ∙ ap (λ (given : List ℕ). 0 + length (turned_rows given)) first, wrote.1 ∙ ap (λ (given : List ℕ). sets {A = ℕ} c.args.free.now 0 (turned_rows given)) first))
