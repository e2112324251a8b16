-- No two outcomes fit what the search promises: its answer and the plan at exit.
use mathlib.Core.Path.{◌≡◌}
use mathlib.Core.List.{List}
use Prim.Native.Nat.{ℕ}
use Rattle.std.specs.Prelude.{Result}
use Rattle.day_rows.specs.Told.{outcome}
use Rattle.day_rows.specs.declared.refusal.Refusal.{Refusal}
use Rattle.day_rows.proofs.ToldLaws.{one-outcome}
use Rattle.search_meaning.specs.Given.{Given}
use Rattle.search_meaning.specs.declared.settings.Settings.{Settings}
use Rattle.search_meaning.specs.declared.answer.Searched.{Searched}
use Rattle.search_meaning.specs.Calls.{searched_tells, search_of}
use Rattle.search_meaning.proofs.AnswerBack.{searched_of, searched-back}

pub one-search : (given : Given) (settings : Settings) (before : List ℕ) {a b : Result Searched Refusal} {exit other : List ℕ}
    → outcome (searched_tells a) exit ≡ search_of given settings before → outcome (searched_tells b) other ≡ search_of given settings before → (a ≡ b) × (exit ≡ other)
one-search given settings before = one-outcome searched_tells searched_of searched-back
