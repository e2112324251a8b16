-- No two outcomes fit: each public promise of this crate settles the answer for every input.
use mathlib.Core.Path.{◌≡◌}
use mathlib.Core.List.{List}
use Prim.Native.Nat.{ℕ}
use Rattle.std.specs.Prelude.{Result}
use Rattle.base_lists.proofs.Outcome.{no_two}
use Rattle.day_rows.specs.Told.{tells}
use Rattle.day_rows.specs.declared.check.Counts.{Counts}
use Rattle.day_rows.specs.declared.refusal.Refusal.{Refusal}
use Rattle.day_rows.proofs.ToldLaws.{one_told}
use Rattle.sets_analysis.specs.declared.day.SetsCounts.{SetsCounts}
use Rattle.search_meaning.specs.Given.{Given, row_counts, sets_counts}
use Rattle.search_meaning.specs.Judged.{day_judged, lent_judged}
use Rattle.search_meaning.specs.declared.counts.SearchCounts.{SearchCounts}

pub one_judge_day : (given : Given) (before : List ℕ) {a b : Result (Unit {0}) Refusal} → tells a ≡ day_judged given before → tells b ≡ day_judged given before → a ≡ b
one_judge_day given before = one_told

pub one_judge_lent : (given : Given) {a b : Result (Unit {0}) Refusal} → tells a ≡ lent_judged given → tells b ≡ lent_judged given → a ≡ b
one_judge_lent given = one_told

pub one-row-counts : (counts : SearchCounts) {a b : Counts} → a ≡ row_counts counts → b ≡ row_counts counts → a ≡ b
one-row-counts counts = no_two

pub one-day-counts : (counts : SearchCounts) {a b : SetsCounts} → a ≡ sets_counts counts → b ≡ sets_counts counts → a ≡ b
one-day-counts counts = no_two
