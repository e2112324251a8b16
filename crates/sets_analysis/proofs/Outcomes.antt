-- No two outcomes fit what the analysis and the test of the number of levels promise.
use mathlib.Core.Path.{◌≡◌}
use mathlib.Core.Bool.{Bool}
use Prim.Native.Nat.{ℕ}
use Rattle.std.specs.Prelude.{Result}
use Rattle.base_lists.proofs.Outcome.{no_two}
use Rattle.day_rows.specs.Told.{tells, outcome}
use Rattle.day_rows.proofs.ToldLaws.{one_told-outcome}
use Rattle.day_rows.specs.Levels.{levels_in_range}
use Rattle.day_rows.specs.declared.refusal.Refusal.{Refusal}
use Rattle.sets_analysis.specs.SetsDay.{SetsDay}
use Rattle.sets_analysis.specs.Calls.{Pools, analysis_of}
use Rattle.sets_analysis.specs.declared.analysis.Analysis.{Analysis}
use Rattle.sets_analysis.specs.declared.analysis.Figures.{Figures}

-- no two outcomes fit what analyze promises: one answer, and one content of both pools
pub one_analysis : (day : SetsDay) (mode : Analysis) (lent : Pools) {a b : Result Figures Refusal} {p q : Pools} → outcome (tells a) p ≡ analysis_of day mode lent
    → outcome (tells b) q ≡ analysis_of day mode lent → (a ≡ b) × (p ≡ q)
one_analysis day mode lent = one_told-outcome

-- no two outcomes fit what levels_in_range promises
pub one-levels_in_range : (levels : ℕ) {a b : Bool} → a ≡ levels_in_range levels → b ≡ levels_in_range levels → a ≡ b
one-levels_in_range levels = no_two
