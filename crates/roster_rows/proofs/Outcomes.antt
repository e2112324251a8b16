-- No two outcomes fit what the functions of `seats` and `judge` promise (that of `assignment`: `Meaning`).
use mathlib.Core.Path.{◌≡◌}
use mathlib.Core.Bool.{Bool, ◌&&◌, ◌||◌}
use mathlib.Core.List.{List}
use Prim.Native.Nat.{ℕ}
use lib.Dec.{eqb, leb}
use Rattle.base_lists.proofs.Outcome.{no_two}
use Rattle.std.specs.Prelude.{Result}
use Rattle.day_rows.specs.Told.{tells}
use Rattle.day_rows.specs.declared.refusal.Refusal.{Refusal}
use Rattle.day_rows.proofs.ToldLaws.{one_told}
use Rattle.roster_rows.specs.Seats.{slots_apart, cells_judged}

-- slots_apart
pub one_apart : (plan cells : List ℕ) {a b : Bool} → a ≡ slots_apart plan cells → b ≡ slots_apart plan cells → a ≡ b
one_apart plan cells = no_two

-- choice_fits
pub one-fitting : (place least most seats : ℕ) {a b : Bool} → a ≡ (eqb place 255 || (leb least seats && leb seats most))
    → b ≡ (eqb place 255 || (leb least seats && leb seats most)) → a ≡ b
one-fitting place least most seats = no_two

-- judge_cells
pub one_judging : (slots : ℕ) (plan roster : List ℕ) {a b : Result (Unit {0}) Refusal} → tells a ≡ cells_judged slots plan roster
    → tells b ≡ cells_judged slots plan roster → a ≡ b
one_judging slots plan roster = one_told
