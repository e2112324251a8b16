-- The bounds as the code comes by them.
use mathlib.Core.Path.{◌≡◌, refl, sym, ◌∙◌, ap, ap₂}
use mathlib.Core.Bool.{Bool, true, false, not}
use mathlib.Core.List.{List}
use Prim.Native.Nat.{ℕ, ◌+◌, ◌-◌, ◌≤◌, ◌<◌}
use borrow.Author.Tests.{lt-ltb, le-ltb, le-leb, lt-leb}
use lib.Dec.{ltb}
use lib.ListN.{get_or, replicate}
use Rattle.base_lists.specs.Below.{all_below}
use Rattle.base_lists.proofs.Below.{all_more, one-fails}
use Rattle.day_rows.specs.declared.check.Counts.{Counts}
use Rattle.list_tables.specs.steps.Tables.{written}
use Rattle.list_rule_tables.specs.steps.Figures.{free_of}
use Rattle.list_rule_tables.proofs.SettledLaws.{written_ext}
use Rattle.list_rule_counts.specs.steps.CountRule.{raised_by, lowered_by, limits_change, settled_count, count_of, least_counts, under_counts, bounds_fit, beyond_settled, wants_of, rooms_of, broken}
use Rattle.list_rule_counts.specs.steps.Figures.{fewest_in, beyond_in}
use Rattle.list_rule_counts.proofs.StepLaws.{figure_at}

-- ---- slots whose least count is one that they can't have

module _ (least under : List ℕ) where
  pub apart-start : all_below 0 (λ slot. ltb (get_or least slot 0) (get_or under slot 0)) ≡ true
  unfolding all_below
  apart-start = refl

  pub apart-step : (slot : ℕ) → all_below slot (λ s. ltb (get_or least s 0) (get_or under s 0)) ≡ true → get_or least slot 0 < get_or under slot 0
      → all_below (slot + 1) (λ s. ltb (get_or least s 0) (get_or under s 0)) ≡ true
  apart-step slot a h = all_more (λ s. ltb (get_or least s 0) (get_or under s 0)) slot a (lt-ltb _ _ h)

  pub apart-not : (slots slot : ℕ) → slot < slots → get_or under slot 0 ≤ get_or least slot 0 → true ≡ not (all_below slots (λ s. ltb (get_or least s 0) (get_or under s 0)))
  apart-not slots slot h c =
      ap not (sym (one-fails slots (λ s. ltb (get_or least s 0) (get_or under s 0)) slot h (le-ltb (get_or least slot 0) (get_or under slot 0) c)))

  pub apart-all : (slots slot : ℕ) → slot ≡ slots → all_below slot (λ s. ltb (get_or least s 0) (get_or under s 0)) ≡ true
      → false ≡ not (all_below slots (λ s. ltb (get_or least s 0) (get_or under s 0)))
  apart-all slots slot e a = ap not (sym a ∙ ap (λ (n : ℕ). all_below n (λ s. ltb (get_or least s 0) (get_or under s 0))) e)

-- what of a figure is left to the free choices
pub beyond-in : (figures settled : List ℕ) (slot v : ℕ) → v ≡ get_or figures slot 0 - get_or settled slot 0 → v ≡ beyond_in figures settled slot
unfolding beyond_in
beyond-in figures settled slot v e = e

-- ---- a day that has bounds

module _ (counts : Counts) (rows domains : List ℕ) (c : counts.choices ≤ 64) (few : counts.slots ≤ 24) where
  fits : bounds_fit counts ≡ true
  unfolding bounds_fit
  fits = rw (le-leb _ _ c, le-leb _ _ few)

  -- what is settled, by the code's array
  module _ (settled : List ℕ)
      (s : settled ≡ written counts.slots 0 (settled_count counts.choices (free_of counts.choices domains) domains) (replicate 24 0)) where
    settled_at : (slot : ℕ) → slot < counts.slots → get_or settled slot 0 ≡ settled_count counts.choices (free_of counts.choices domains) domains slot
    settled_at slot h =
        ap (λ (x : List ℕ). get_or x slot 0) s ∙ figure_at counts.slots (settled_count counts.choices (free_of counts.choices domains) domains) few slot h

    -- each slot's figure without what is settled
    beyond-is : (figures : List ℕ) → written counts.slots 0 (beyond_in figures settled) (replicate 24 0)
        ≡ written counts.slots 0 (beyond_settled counts.choices domains figures) (replicate 24 0)
    unfolding beyond_in beyond_settled
    beyond-is figures =
        written_ext counts.slots (beyond_in figures settled) (beyond_settled counts.choices domains figures) (replicate 24 0)
        λ slot h. ap (λ (x : ℕ). get_or figures slot 0 - x) (settled_at slot h)

    module _ (ends under : List ℕ) (n : ends ≡ replicate 24 65537) (u : under ≡ limits_change lowered_by rows ends) where
      under-is : under ≡ under_counts rows
      unfolding under_counts
      under-is = u ∙ ap (λ (x : List ℕ). limits_change lowered_by rows x) n

      pub rooms_are : (rooms : List ℕ) → rooms ≡ written counts.slots 0 (beyond_in under settled) (replicate 24 0) → rooms ≡ rooms_of counts rows domains
      unfolding rooms_of
      rooms_are rooms r =
          rw fits
          (r ∙ beyond-is under ∙ ap (λ (x : List ℕ). written counts.slots 0 (beyond_settled counts.choices domains x) (replicate 24 0)) under-is)

      module _ (entry : ℕ → ℕ → ℕ → ℕ) (from : ℕ) (lacks sums least : List ℕ)
          (f : sums ≡ written counts.slots 0 (fewest_in entry from lacks settled) (replicate 24 0)) (l : least ≡ limits_change raised_by rows sums) where
        least-is : least ≡ least_counts entry counts rows from lacks domains
        unfolding least_counts fewest_in count_of
        least-is =
            l ∙ ap (λ (x : List ℕ). limits_change raised_by rows x)
            (f ∙ written_ext counts.slots (fewest_in entry from lacks settled) (count_of entry counts.choices (free_of counts.choices domains) from lacks domains) (replicate 24 0)
            λ slot h. ap (λ (x : ℕ). x + entry 0 from (get_or lacks slot 0)) (settled_at slot h))

        pub wants_are : (wants : List ℕ) → wants ≡ written counts.slots 0 (beyond_in least settled) (replicate 24 0) → wants ≡ wants_of entry counts rows from lacks domains
        unfolding wants_of
        wants_are wants w =
            rw fits
            (w ∙ beyond-is least ∙ ap (λ (x : List ℕ). written counts.slots 0 (beyond_settled counts.choices domains x) (replicate 24 0)) least-is)

        pub broken-is : (crossed : Bool) → crossed ≡ not (all_below counts.slots (λ slot. ltb (get_or least slot 0) (get_or under slot 0)))
            → crossed ≡ broken entry counts rows from lacks domains
        unfolding broken
        broken-is crossed e =
            rw fits
            (e ∙ ap₂ (λ (x y : List ℕ). not (all_below counts.slots (λ slot. ltb (get_or x slot 0) (get_or y slot 0)))) least-is under-is)

-- ---- a day of another shape

module _ (counts : Counts) (rows domains : List ℕ) where
  pub rooms_many_choices : 64 < counts.choices → replicate 24 0 ≡ rooms_of counts rows domains
  unfolding rooms_of bounds_fit
  rooms_many_choices h = rw (lt-leb _ _ h)

  pub rooms_many_slots : counts.choices ≤ 64 → 24 < counts.slots → replicate 24 0 ≡ rooms_of counts rows domains
  unfolding rooms_of bounds_fit
  rooms_many_slots c h = rw (le-leb _ _ c, lt-leb _ _ h)

module _ (entry : ℕ → ℕ → ℕ → ℕ) (counts : Counts) (rows : List ℕ) (from : ℕ) (lacks domains : List ℕ) where
  pub broken-many-choices : 64 < counts.choices → false ≡ broken entry counts rows from lacks domains
  unfolding broken bounds_fit
  broken-many-choices h = rw (lt-leb _ _ h)

  pub wants-many-choices : 64 < counts.choices → replicate 24 0 ≡ wants_of entry counts rows from lacks domains
  unfolding wants_of bounds_fit
  wants-many-choices h = rw (lt-leb _ _ h)

  pub broken-many-slots : counts.choices ≤ 64 → 24 < counts.slots → false ≡ broken entry counts rows from lacks domains
  unfolding broken bounds_fit
  broken-many-slots c h = rw (le-leb _ _ c, lt-leb _ _ h)

  pub wants-many-slots : counts.choices ≤ 64 → 24 < counts.slots → replicate 24 0 ≡ wants_of entry counts rows from lacks domains
  unfolding wants_of bounds_fit
  wants-many-slots c h = rw (le-leb _ _ c, lt-leb _ _ h)

-- ---- by the first free choice

module _ (entry : ℕ → ℕ → ℕ → ℕ) (counts : Counts) (rows lacks domains : List ℕ) (from first : ℕ) where
  pub broken-from : (value : Bool) → from ≡ first → value ≡ broken entry counts rows from lacks domains → value ≡ broken entry counts rows first lacks domains
  broken-from value f e = e ∙ ap (λ (x : ℕ). broken entry counts rows x lacks domains) f

  pub wants-from : (value : List ℕ) → from ≡ first → value ≡ wants_of entry counts rows from lacks domains → value ≡ wants_of entry counts rows first lacks domains
  wants-from value f e = e ∙ ap (λ (x : ℕ). wants_of entry counts rows x lacks domains) f
