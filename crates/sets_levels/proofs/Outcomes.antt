-- No two outcomes fit what level_list promises.
use mathlib.Core.Path.{◌≡◌}
use mathlib.Core.List.{List}
use Prim.Native.Nat.{ℕ}
use Rattle.std.specs.Prelude.{Result}
use Rattle.day_rows.specs.Told.{tells, outcome}
use Rattle.day_rows.proofs.ToldLaws.{one_told-outcome}
use Rattle.day_rows.specs.declared.refusal.Refusal.{Refusal}
use Rattle.sets_analysis.specs.Calls.{Pools}
use Rattle.sets_levels.specs.Calls.{level_list_of}

-- no two outcomes fit what level_list promises: one answer, and one content of the list
pub one_list : (levels : List ℕ) (count : ℕ) (lent : Pools) (limit : ℕ) (list : List ℕ) {a b : Result ℕ Refusal} {p q : List ℕ}
    → outcome (tells a) p ≡ level_list_of levels count lent limit list → outcome (tells b) q ≡ level_list_of levels count lent limit list → (a ≡ b) × (p ≡ q)
one_list levels count lent limit list = one_told-outcome
