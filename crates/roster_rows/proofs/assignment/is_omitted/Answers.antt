-- A choice is omitted by the byte of 255.
use mathlib.Core.Path.{ap}
use Prim.Native.Nat.{ℕ}
use lib.Dec.{eqb}
use Rattle.plan_check.specs.Plan.{omitted}
use Rattle.roster_rows.proofs.assignment.is_omitted.Goals as goal

pub returns : goal.returns
unfolding omitted
returns c =
    ap (λ (x : ℕ). eqb x 255) c.slot_of.ensures
