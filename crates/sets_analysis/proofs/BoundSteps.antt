-- The bound, a law for each way through the code.
use mathlib.Core.Path.{◌≡◌, refl, sym, ◌∙◌, ap}
use mathlib.Core.Bool.{Bool, true, false, ◌&&◌, ◌||◌, cond}
use mathlib.Core.List.{List, ◌∷◌}
use Prim.Native.Nat.{ℕ, ◌+◌, ◌≤◌, ◌<◌, min}
use native.Mathlib.Omega.{arith}
use borrow.Author.Tests.{le-leb, lt-leb}
use lib.Dec.{leb}
use lib.ListN.{length, get_or, drop, drop_of_length-le}
use Rattle.base_lists.specs.All.{all_of}
use Rattle.base_lists.specs.Keep.{keep, any_of}
use Rattle.base_lists.proofs.Keep.{drop-at-place}
use Rattle.base_choice_sets.specs.Sets.{size_of}
use Rattle.sets_analysis.specs.Kept.{CriticalSet, critical_set, no_set}
use Rattle.sets_analysis.specs.Bound.{is_above, is_large, lowers, lowered_to}

pub above : (level set_level members : ℕ) → level ≤ set_level → is_above level (critical_set set_level members) ≡ true
unfolding is_above
above level set_level members h = le-leb level set_level h

pub below : (level set_level members : ℕ) → set_level < level → is_above level (critical_set set_level members) ≡ false
unfolding is_above
below level set_level members h = lt-leb level set_level h

-- a set is of that level or above, or not, as the code's test says
pub above-told : (level set_level members : ℕ) {b : Bool} → leb level set_level ≡ b → is_above level (critical_set set_level members) ≡ b
unfolding is_above
above-told level set_level members e = e

-- the sets that are left decide, with whether one of that level or above was met
unfoldable pub LowersFrom : ℕ → ℕ → List CriticalSet → Bool → ℕ → Type 0
LowersFrom slots level sets some i =
    lowers slots sets level ≡ ((some || any_of (is_above level) (drop i sets)) && all_of (is_large slots) (keep (is_above level) (drop i sets)))

module _ (slots level : ℕ) (sets : List CriticalSet) where
  pub lowers-start : LowersFrom slots level sets false 0
  unfolding LowersFrom lowers
  lowers-start = refl

  module _ (some : Bool) (i : ℕ) (x : CriticalSet) (h : i < length sets) (e : get_or sets i no_set ≡ x) (l : LowersFrom slots level sets some i) where
    from : drop i sets ≡ x ∷ drop (i + 1) sets
    from = drop-at-place sets i no_set h ∙ ap (λ (y : CriticalSet). y ∷ drop (i + 1) sets) e

    pub lowers-past : is_above level x ≡ false → LowersFrom slots level sets some (i + 1)
    unfolding LowersFrom keep any_of
    lowers-past t =
        l ∙ ap (λ (d : List CriticalSet). (some || any_of (is_above level) d) && all_of (is_large slots) (keep (is_above level) d)) from ∙ rw t

    pub lowers-small : is_above level x ≡ true → is_large slots x ≡ false → false ≡ lowers slots sets level
    unfolding LowersFrom keep any_of all_of
    lowers-small t u =
        sym
        (l
        ∙ ap (λ (d : List CriticalSet). (some || any_of (is_above level) d) && all_of (is_large slots) (keep (is_above level) d)) from
        ∙ rw (t, u) (and_false (some || true)))
      where
        and_false : (b : Bool) → (b && false) ≡ false
        and_false true = refl
        and_false false = refl

    pub lowers-large : is_above level x ≡ true → is_large slots x ≡ true → LowersFrom slots level sets true (i + 1)
    unfolding LowersFrom keep any_of all_of
    lowers-large t u =
        l
        ∙ ap (λ (d : List CriticalSet). (some || any_of (is_above level) d) && all_of (is_large slots) (keep (is_above level) d)) from
        ∙ rw (t, u) (ap (λ (b : Bool). b && all_of (is_large slots) (keep (is_above level) (drop (i + 1) sets))) (or_true some))
      where
        or_true : (b : Bool) → (b || true) ≡ true
        or_true true = refl
        or_true false = refl

  pub lowers-done : (some : Bool) (i : ℕ) → length sets ≤ i → LowersFrom slots level sets some i → some ≡ lowers slots sets level
  unfolding LowersFrom keep any_of all_of
  lowers-done some i h l =
      sym
      (l
      ∙ ap (λ (d : List CriticalSet). (some || any_of (is_above level) d) && all_of (is_large slots) (keep (is_above level) d)) (drop_of_length-le sets {i = i} h)
      ∙ all_said some)
    where
      all_said : (b : Bool) → ((b || false) && true) ≡ b
      all_said true = refl
      all_said false = refl

pub small : (slots level members size : ℕ) → size ≡ size_of members → size < slots → is_large slots (critical_set level members) ≡ false
unfolding is_large
small slots level members size e h = lt-leb slots (size_of members) (rw (sym e) h)

pub large : (slots level members size : ℕ) → size ≡ size_of members → slots ≤ size → is_large slots (critical_set level members) ≡ true
unfolding is_large
large slots level members size e h = le-leb slots (size_of members) (rw (sym e) h)

-- ---- one level after the other

module _ (slots : ℕ) (sets : List CriticalSet) (bound level : ℕ) where
  pub bound-low : bound ≤ level → bound ≡ cond (lowers slots sets level) (min bound level) bound
  bound-low h = go (lowers slots sets level)
    where
      go : (b : Bool) → bound ≡ cond b (min bound level) bound
      go true = omega arith
      go false = refl

  pub bound-kept : lowers slots sets level ≡ false → bound ≡ cond (lowers slots sets level) (min bound level) bound
  bound-kept t = rw t

  pub bound_lowered : level < bound → lowers slots sets level ≡ true → level ≡ cond (lowers slots sets level) (min bound level) bound
  bound_lowered h t = rw t (omega arith)

-- the levels that are left lower the bound so far to what all lower the first to
unfoldable pub BoundFrom : ℕ → List CriticalSet → ℕ → List ℕ → ℕ → ℕ → Type 0
BoundFrom slots sets first levels bound i = lowered_to slots sets bound (drop i levels) ≡ lowered_to slots sets first levels

module _ (slots : ℕ) (sets : List CriticalSet) (first : ℕ) (levels : List ℕ) where
  pub bound-start : (bound : ℕ) → bound ≡ first → BoundFrom slots sets first levels bound 0
  unfolding BoundFrom
  bound-start bound e = rw e

  pub bound-on : (bound bound' i : ℕ) → i < length levels → bound' ≡ cond (lowers slots sets (get_or levels i 0)) (min bound (get_or levels i 0)) bound
      → BoundFrom slots sets first levels bound i → BoundFrom slots sets first levels bound' (i + 1)
  unfolding BoundFrom lowered_to
  bound-on bound bound' i h e b =
      ap (λ (n : ℕ). lowered_to slots sets n (drop (i + 1) levels)) e
      ∙ sym (ap (lowered_to slots sets bound) (drop-at-place levels i 0 h))
      ∙ b

  pub bound-done : (bound i : ℕ) → length levels ≤ i → BoundFrom slots sets first levels bound i → bound ≡ lowered_to slots sets first levels
  unfolding BoundFrom lowered_to
  bound-done bound i h b = ap (lowered_to slots sets bound) (sym (drop_of_length-le levels {i = i} h)) ∙ b
