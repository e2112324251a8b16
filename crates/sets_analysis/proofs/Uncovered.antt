-- Along the list of kept sets: none covers a later one, levels don't rise, so no two have the same choices.
use mathlib.Core.Path.{◌≡◌, sym, ◌∙◌, ap}
use mathlib.Core.Bool.{true, false, false≢true}
use mathlib.Core.List.{List, [], Memᴰ}
use mathlib.Core.Logic.{⊎_elim}
use Prim.Native.Nat.{ℕ, zero, suc, ◌+◌, ◌-◌, ◌≤◌, ◌<◌}
use native.Mathlib.Omega.{arith}
use borrow.Author.Tests.{ltb-true}
use lib.Dec.{ltb}
use lib.ListN.{length, get_or}
use Rattle.base_lists.specs.Flat.{list_below}
use Rattle.base_lists.proofs.Below.{all-each}
use Rattle.day_rows.specs.Levels.{levels_rise}
use Rattle.sets_analysis.specs.SetsDay.{SetsDay, sets_lengths_fit}
use Rattle.base_choice_sets.specs.Sets.{within, same_choices}
use Rattle.sets_analysis.specs.Kept.{CriticalSet, no_set, candidate_of, level_down, candidates, covered_by, skipped, kept_sets}
use Rattle.sets_analysis.proofs.Members.{none-member, refuted, in_list}
use Rattle.sets_analysis.proofs.Pairwise.{Pairwise, Distinct, pairwise_at, pairwise_cases, pairwise_all, pairwise_join, pairwise_both, pairwise_map, pairwise_sub}
use Rattle.sets_analysis.proofs.Picked.{picked-sub, picked_pairwise}
use Rattle.sets_analysis.proofs.SetOrder.{same-there, same_self, same-turned}
use Rattle.sets_analysis.proofs.Covering.{covers, covered_level}
use Rattle.sets_analysis.proofs.Origin.{kept-sets-picked, unskipped_uncovered, levels-long}

-- the set doesn't cover the later one
abbrev pub Uncovering : CriticalSet → CriticalSet → Type 0
Uncovering set later = covered_by set later ≡ false

-- the level doesn't rise to the later set
abbrev pub Falling : CriticalSet → CriticalSet → Type 0
Falling set later = later.level ≤ set.level

-- the two sets differ in a choice
abbrev pub Different : CriticalSet → CriticalSet → Type 0
Different set later = same_choices set.members later.members ≡ false

-- no kept set covers one after it, along the whole list
pub kept_uncovering : (day : SetsDay) → Pairwise Uncovering (kept_sets day)
unfolding Pairwise
kept_uncovering day =
    rw (kept-sets-picked day)
    (picked_pairwise (skipped day) Uncovering
    (λ kept set h other m. none-member (λ (o : CriticalSet). covered_by o set) kept (unskipped_uncovered day kept set h) m) [] (candidates day) _)

-- no kept set covers a later one, by their places
pub kept_uncovered : (day : SetsDay) (i j : ℕ) → i < j → j < length (kept_sets day) → covered_by (get_or (kept_sets day) i no_set) (get_or (kept_sets day) j no_set) ≡ false
kept_uncovered day = pairwise_at Uncovering (kept_sets day) no_set (kept_uncovering day)

-- ---- levels

-- of levels that rise a later one is no lower
rising_le : (levels : List ℕ) → levels_rise levels ≡ true → (i n : ℕ) → i + n < length levels → get_or levels i 0 ≤ get_or levels (i + n) 0
unfolding levels_rise
rising_le levels h i zero k = let e : i + 0 ≡ i = omega arith in rw e (omega arith)
rising_le levels h i (suc n) k =
    let e : i + suc n ≡ i + n + 1 = omega arith in
    let step : get_or levels (i + n) 0 < get_or levels (i + n + 1) 0 =
    ltb-true (get_or levels (i + n) 0) (get_or levels (i + n + 1) 0)
    (all-each (length levels - 1) (λ m. ltb (get_or levels m 0) (get_or levels (m + 1) 0)) h (i + n) (omega arith)) in
    rw e (omega (arith, rising_le levels h i n (omega arith)))

module _ (day : SetsDay) (fits : sets_lengths_fit day ≡ true) (rise : levels_rise day.levels ≡ true) where
  -- 'Levels downwards': further from the top no level is higher
  down_falls : (i j : ℕ) → i < j → j < day.counts.levels → level_down day j ≤ level_down day i
  unfolding level_down
  down_falls i j h k =
      let long : length day.levels ≡ day.counts.levels = levels-long day fits in
      let e : day.counts.levels - (i + 1) ≡ day.counts.levels - (j + 1) + (j - i) = omega arith in
      rw e (rising_le day.levels rise (day.counts.levels - (j + 1)) (j - i) (omega arith))

  -- 'Levels downwards, choosers upwards': levels don't rise along the candidates
  levels_fall : Pairwise Falling (candidates day)
  unfolding candidates candidate_of
  levels_fall =
      pairwise_join Falling day.counts.levels (λ i. list_below day.counts.choosers (candidate_of day (level_down day i)))
      (λ i h. pairwise_all Falling (list_below day.counts.choosers (candidate_of day (level_down day i)))
      (λ x y m k. rw (of_level i m, of_level i k) (omega arith)))
      (λ i j x y h l m k. rw (of_level i m, of_level j k) (down_falls i j h l))
    where
      of_level : (i : ℕ) {x : CriticalSet} → Memᴰ x (list_below day.counts.choosers (candidate_of day (level_down day i))) → x.level ≡ level_down day i
      of_level i m = ap (λ (s : CriticalSet). s.level) (in_list day.counts.choosers (candidate_of day (level_down day i)) m).2

  -- levels don't rise along the kept sets
  pub kept_falling : Pairwise Falling (kept_sets day)
  kept_falling = rw (kept-sets-picked day) (pairwise_sub Falling (picked-sub (skipped day) [] (candidates day)) levels_fall)

  -- levels don't rise along the kept sets, by their places
  pub kept_falls : (i j : ℕ) → i < j → j < length (kept_sets day) → (get_or (kept_sets day) j no_set).level ≤ (get_or (kept_sets day) i no_set).level
  kept_falls = pairwise_at Falling (kept_sets day) no_set kept_falling

  -- a kept set covers an earlier one only if both have one level
  pub kept-covers-earlier : (i j : ℕ) → i < j → j < length (kept_sets day) → covered_by (get_or (kept_sets day) j no_set) (get_or (kept_sets day) i no_set) ≡ true
      → (get_or (kept_sets day) i no_set).level ≡ (get_or (kept_sets day) j no_set).level
  kept-covers-earlier i j h k c =
      omega (arith, kept_falls i j h k, covered_level (get_or (kept_sets day) j no_set) (get_or (kept_sets day) i no_set) c)

  -- ---- no two have the same choices

  -- no kept set is within a later one
  pub kept-apart : Pairwise (λ set later. within set.members later.members ≡ false) (kept_sets day)
  kept-apart =
      pairwise_map (λ set later. Uncovering set later × Falling set later) (λ set later. within set.members later.members ≡ false)
      (λ set later h. refuted (within set.members later.members) (λ w. false≢true (sym h.0 ∙ covers set later h.1 w)))
      (kept_sets day) (pairwise_both Uncovering Falling (kept_sets day) (kept_uncovering day) kept_falling)

  -- no two kept sets have the same choices
  pub kept_different : Pairwise Different (kept_sets day)
  kept_different =
      pairwise_map (λ set later. within set.members later.members ≡ false) Different
      (λ set later h. refuted (same_choices set.members later.members) (λ s. false≢true (sym h ∙ same-there set.members later.members s)))
      (kept_sets day) kept-apart

  -- no two kept sets have the same choices, by their places
  pub kept_differ : (i j : ℕ) → i < j → j < length (kept_sets day) → same_choices (get_or (kept_sets day) i no_set).members (get_or (kept_sets day) j no_set).members ≡ false
  kept_differ = pairwise_at Different (kept_sets day) no_set kept_different

  -- no two kept sets have the same number
  pub kept-masks_differ : (i j : ℕ) → i < j → j < length (kept_sets day) → (get_or (kept_sets day) i no_set).members ≡ (get_or (kept_sets day) j no_set).members → ⊥
  kept-masks_differ i j h k e =
      false≢true (sym (kept_differ i j h k) ∙ rw e (same_self (get_or (kept_sets day) j no_set).members))

  -- kept sets with the same choices are one
  pub kept-same-choices : (one other : CriticalSet) → Memᴰ one (kept_sets day) → Memᴰ other (kept_sets day) → same_choices one.members other.members ≡ true → one ≡ other
  kept-same-choices one other m k same =
      ⊎_elim (λ e. e)
      (λ r. absurd (⊎_elim (λ h. false≢true (sym h ∙ same))
      (λ h. false≢true (sym h ∙ same-turned one.members other.members same)) r))
      (pairwise_cases Different (kept_sets day) kept_different m k)

  -- every kept set stands once
  pub kept-once : Pairwise Distinct (kept_sets day)
  kept-once =
      pairwise_map Different Distinct (λ set later h e. false≢true (sym h ∙ rw e (same_self later.members))) (kept_sets day) kept_different
