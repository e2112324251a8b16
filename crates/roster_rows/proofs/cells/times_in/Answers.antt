-- The cells that name the choice, counted.
use mathlib.Core.Path.{◌∙◌, sym, ap}
use Prim.Native.Nat.{ℕ}
use lib.Dec.{eqb}
use lib.Seq.{take_all}
use Rattle.std.specs.List.{count_by}
use Rattle.roster_rows.proofs.Words.{counted}
use Rattle.roster_rows.proofs.cells.times_in.Goals as goal

pub returns : goal.returns
returns c =
    let l = c.loop-cell in
    l.invariant.1
    ∙ ap (count_by (λ (y : ℕ). eqb y c.args.choice)) (take_all l.cell-index c.args.cells.now c.loop-cell-test.false)
    ∙ sym (counted _ _)
