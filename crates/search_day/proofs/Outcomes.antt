-- No two outcomes fit: the public promise of this crate settles the answer and the plan for every input.
use mathlib.Core.Path.{◌≡◌}
use mathlib.Core.List.{List}
use Prim.Native.Nat.{ℕ}
use Rattle.std.specs.Prelude.{Result}
use Rattle.day_rows.specs.Told.{outcome}
use Rattle.day_rows.specs.declared.refusal.Refusal.{Refusal}
use Rattle.day_rows.proofs.ToldLaws.{one-outcome}
use Rattle.search_meaning.specs.declared.settings.Settings.{Settings}
use Rattle.search_meaning.specs.declared.answer.Searched.{Searched}
use Rattle.search_meaning.specs.Calls.{searched_tells}
use Rattle.search_meaning.proofs.AnswerBack.{searched_of, searched-back}
use Rattle.search_day.specs.Planning.{plan_day_of}
use Rattle.search_day.specs.declared.given.PlanCounts.{PlanCounts}

-- a day planned has one answer, and one content of the plan
pub one-plan-day : (counts : PlanCounts) (mins maxs optional levels preferences rows orders draws : List ℕ) (settings : Settings) (before : List ℕ) {a b : Result Searched Refusal} {p q : List ℕ}
    → outcome (searched_tells a) p ≡ plan_day_of counts mins maxs optional levels preferences rows orders draws settings before
    → outcome (searched_tells b) q ≡ plan_day_of counts mins maxs optional levels preferences rows orders draws settings before → (a ≡ b) × (p ≡ q)
one-plan-day counts mins maxs optional levels preferences rows orders draws settings before = one-outcome searched_tells searched_of searched-back
