-- Laws of the result: it rises strictly, its rows are the turned rows and the added ones, and no two outcomes
-- fit.
use mathlib.Core.Path.{◌≡◌}
use mathlib.Core.List.Memᴰ
use mathlib.Core.List.{List, Memᴰ}
use mathlib.Core.Logic.{⊎_elim}
use Prim.Native.Nat.{ℕ}
use Rattle.base_lists.specs.Sorted.{Rises}
use Rattle.base_lists.proofs.Sorted.{unique_rises, unique_member, unique_has}
use Rattle.std.specs.Prelude.{Result}
use Rattle.day_rows.specs.Told.{outcome, tells}
use Rattle.day_rows.specs.declared.refusal.Refusal.{Refusal}
use Rattle.day_rows.specs.declared.check.Counts.{Counts}
use Rattle.day_rows.proofs.ToldLaws.{one_told-outcome}
use Rattle.reduce_turn.specs.Turn.{turned_rows}
use Rattle.reduce_added.specs.Groups.{same_choosers}
use Rattle.reduce_added.specs.Pairs.{group_pairs, mandatory_pairs}
use Rattle.reduce_added.specs.Copies.{copies_all}
use Rattle.reduce.specs.Reduction.{added_to, expanded, reduced_rows, reduce_of}
use Rattle.reduce.specs.declared.Reduction.{Reduction}

module _ (counts : Counts) (rows : List ℕ) where
  -- the result rises strictly: 'All rows sort .., and equal rows become one'
  pub result_rises : Rises (reduced_rows counts rows)
  unfolding reduced_rows
  result_rises = unique_rises (expanded counts rows)

  abbrev groups : List (List ℕ)
  groups = same_choosers counts.choices (turned_rows rows)

  -- where a row of the result comes from: it is a turned one or an added one
  pub data Source (number : ℕ) : Type 0 where
    turned : Memᴰ number (turned_rows rows) → Source number
    of_group : Memᴰ number (group_pairs groups) → Source number
    of_chooser : Memᴰ number (mandatory_pairs (turned_rows rows) counts.choosers) → Source number
    copied : Memᴰ number (copies_all groups (turned_rows rows)) → Source number

  pub result_member : {number : ℕ} → Memᴰ number (reduced_rows counts rows) → Source number
  unfolding reduced_rows expanded added_to
  result_member m =
      ⊎_elim turned
      (λ k. ⊎_elim of_group (λ j. ⊎_elim of_chooser copied (Memᴰ.append_cases (mandatory_pairs (turned_rows rows) counts.choosers) j)) (Memᴰ.append_cases (group_pairs groups) k))
      (Memᴰ.append_cases (turned_rows rows) (unique_member (expanded counts rows) m))

  -- each turned or added row is a row of the result
  pub result_has : {number : ℕ} → Source number → Memᴰ number (reduced_rows counts rows)
  unfolding reduced_rows expanded added_to
  result_has (turned m) = unique_has (expanded counts rows) (Memᴰ.append_left _ m)
  result_has (of_group m) = unique_has (expanded counts rows) (Memᴰ.append_right (turned_rows rows) (Memᴰ.append_left _ m))
  result_has (of_chooser m) =
      unique_has (expanded counts rows) (Memᴰ.append_right (turned_rows rows) (Memᴰ.append_right (group_pairs groups) (Memᴰ.append_left _ m)))
  result_has (copied m) =
      unique_has (expanded counts rows)
      (Memᴰ.append_right (turned_rows rows) (Memᴰ.append_right (group_pairs groups) (Memᴰ.append_right (mandatory_pairs (turned_rows rows) counts.choosers) m)))

-- no two outcomes fit what `reduce` promises
pub one-outcome : (counts : Counts) (rows pool : List ℕ) {r s : Result Reduction Refusal} {p q : List ℕ}
    → outcome (tells r) p ≡ reduce_of counts rows pool → outcome (tells s) q ≡ reduce_of counts rows pool → (r ≡ s) × (p ≡ q)
one-outcome counts rows pool = one_told-outcome
