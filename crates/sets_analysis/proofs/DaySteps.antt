-- The tests of a day's counts and lengths, a law for each way through them.
use mathlib.Core.Path.{◌≡◌, refl, sym, ◌∙◌, ap}
use mathlib.Core.Bool.{Bool, true, false, ◌&&◌}
use mathlib.Core.List.{List}
use Prim.Native.Nat.{ℕ, ◌+◌, ◌*◌, ◌≤◌, ◌<◌}
use native.Mathlib.Nat.{mul-le-mul_right, mul-le-mul_left, le_trans}
use borrow.Author.Tests.{le-leb, lt-leb, eq-eqb, ne_eqb, leb-true}
use lib.Dec.{eqb, leb}
use lib.ListN.{length, get_or, drop}
use Rattle.base_lists.specs.Keep.{any_of}
use Rattle.base_lists.proofs.Below.{and_left, and_right}
use Rattle.base_lists.proofs.Keep.{any_here, any_on, any_none}
use Rattle.day_rows.specs.Levels.{levels_in_range}
use Rattle.sets_analysis.specs.SetsDay.{SetsDay, sets_counts_in_range, sets_lengths_fit}
use Rattle.sets_analysis.specs.declared.day.SetsCounts.{SetsCounts}

-- ---- counts

pub no_levels : (levels : ℕ) → levels < 1 → false ≡ levels_in_range levels
unfolding levels_in_range
no_levels levels h = rw (lt-leb 1 levels h)

pub levels_decide : (levels : ℕ) → 1 ≤ levels → leb levels 64 ≡ levels_in_range levels
unfolding levels_in_range
levels_decide levels h = rw (le-leb 1 levels h)

module _ (counts : SetsCounts) where
  pub many-choices : 64 < counts.choices → false ≡ sets_counts_in_range counts
  unfolding sets_counts_in_range
  many-choices h = rw (lt-leb _ _ h)

  pub many-slots : counts.choices ≤ 64 → 24 < counts.slots → false ≡ sets_counts_in_range counts
  unfolding sets_counts_in_range
  many-slots c h = rw (le-leb _ _ c, lt-leb _ _ h)

  pub many-choosers : counts.choices ≤ 64 → counts.slots ≤ 24 → 200 < counts.choosers → false ≡ sets_counts_in_range counts
  unfolding sets_counts_in_range
  many-choosers c s h = rw (le-leb _ _ c, le-leb _ _ s, lt-leb _ _ h)

  pub levels-last : {b : Bool} → counts.choices ≤ 64 → counts.slots ≤ 24 → counts.choosers ≤ 200 → b ≡ levels_in_range counts.levels → b ≡ sets_counts_in_range counts
  unfolding sets_counts_in_range
  levels-last c s h e = rw (le-leb _ _ c, le-leb _ _ s, le-leb _ _ h) e

-- what counts in range say of each count
pub record Few (counts : SetsCounts) : Type 0 where
  pub choices : counts.choices ≤ 64
  pub slots : counts.slots ≤ 24
  pub choosers : counts.choosers ≤ 200
  pub some-levels : 1 ≤ counts.levels
  pub few-levels : counts.levels ≤ 64

pub levels-known : (levels : ℕ) → levels_in_range levels ≡ true → (1 ≤ levels) × (levels ≤ 64)
unfolding levels_in_range
levels-known levels h =
    (leb-true _ _ (and_left (leb 1 levels) (leb levels 64) h), leb-true _ _ (and_right (leb 1 levels) (leb levels 64) h))

pub counts-known : (counts : SetsCounts) → sets_counts_in_range counts ≡ true → Few counts
unfolding sets_counts_in_range
counts-known counts h =
    let a = and_left (leb counts.choices 64 && leb counts.slots 24 && leb counts.choosers 200) (levels_in_range counts.levels) h in
    let b = and_left (leb counts.choices 64 && leb counts.slots 24) (leb counts.choosers 200) a in
    let l = levels-known counts.levels (and_right (leb counts.choices 64 && leb counts.slots 24 && leb counts.choosers 200) (levels_in_range counts.levels) h) in
    record {
      choices = leb-true _ _ (and_left (leb counts.choices 64) (leb counts.slots 24) b);
      slots = leb-true _ _ (and_right (leb counts.choices 64) (leb counts.slots 24) b);
      choosers = leb-true _ _ (and_right (leb counts.choices 64 && leb counts.slots 24) (leb counts.choosers 200) a);
      some-levels = l.0;
      few-levels = l.1;
    }

pub product_few : (a b m n : ℕ) → a ≤ m → b ≤ n → a * b ≤ m * n
product_few a b m n h k = le_trans (mul-le-mul_right b h) (mul-le-mul_left m k)

-- ---- lengths

module _ (day : SetsDay) where
  pub mins_differ : (length day.mins ≡ day.counts.choices → ⊥) → false ≡ sets_lengths_fit day
  unfolding sets_lengths_fit
  mins_differ h = rw (ne_eqb _ _ h)

  pub levels_differ : length day.mins ≡ day.counts.choices → (length day.levels ≡ day.counts.levels → ⊥) → false ≡ sets_lengths_fit day
  unfolding sets_lengths_fit
  levels_differ m h = rw (eq-eqb _ _ m, ne_eqb _ _ h)

  pub preferences_decide : length day.mins ≡ day.counts.choices → length day.levels ≡ day.counts.levels
      → eqb (length day.preferences) (day.counts.choosers * day.counts.choices) ≡ sets_lengths_fit day
  unfolding sets_lengths_fit
  preferences_decide m l = rw (eq-eqb _ _ m, eq-eqb _ _ l)

-- ---- a search through a list: what is left decides

unfoldable pub AnyFrom : {A : Type 0} → (A → Bool) → List A → ℕ → Type 0
AnyFrom p xs i = any_of p xs ≡ any_of p (drop i xs)

module _ {A : Type 0} (p : A → Bool) (xs : List A) where
  pub any_start : AnyFrom p xs 0
  unfolding AnyFrom
  any_start = refl

  pub any_found : (i : ℕ) (d x : A) → AnyFrom p xs i → i < length xs → get_or xs i d ≡ x → p x ≡ true → true ≡ any_of p xs
  unfolding AnyFrom
  any_found i d x a h e t = sym (a ∙ any_here p xs i d h (ap p e ∙ t))

  pub any_next : (i : ℕ) (d x : A) → AnyFrom p xs i → i < length xs → get_or xs i d ≡ x → p x ≡ false → AnyFrom p xs (i + 1)
  unfolding AnyFrom
  any_next i d x a h e t = a ∙ any_on p xs i d h (ap p e ∙ t)

  pub any_never : (i : ℕ) → AnyFrom p xs i → length xs ≤ i → false ≡ any_of p xs
  unfolding AnyFrom
  any_never i a h = sym (a ∙ any_none p xs i h)
