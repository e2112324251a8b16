-- Laws of the weights, for any weights: what fills a lack weighs no less than the entry, and sets that stand
-- in different slots weigh no more than all.
use mathlib.Core.Path.{◌≡◌, refl, ◌∙◌}
use mathlib.Core.Bool.{Bool, true, false, cond}
use mathlib.Core.List.{List}
use Prim.Native.Nat.{ℕ, zero, suc, ◌+◌, ◌-◌, ◌≤◌, ◌<◌, min}
use native.Mathlib.Nat.{add-zero}
use native.Mathlib.Omega.{arith}
use lib.ListN.{get_or}
use Rattle.base_lists.specs.Below.{sum_below}
use Rattle.day_rows.specs.declared.check.Counts.{Counts}
use Rattle.list_tables.specs.steps.Weights.{last_entry, least, least_of, sum_from}

-- sums from a number on: the first numbers apart
pub sum_join : (from count : ℕ) (f : ℕ → ℕ) → sum_below (from + count) f ≡ sum_below from f + sum_from from count f
unfolding sum_below sum_from
sum_join from zero f = rw add-zero (omega arith)
sum_join from (suc count) f =
    let e : from + suc count ≡ suc from + count = omega arith in
    let h : sum_below (suc from + count) f ≡ sum_below from f + f from + sum_from (suc from) count f = sum_join (suc from) count f in
    rw e (h ∙ omega arith)

-- sums of terms that agree are the same
pub from_ext : (from count : ℕ) (f g : ℕ → ℕ) → ((k : ℕ) → from ≤ k → k < from + count → f k ≡ g k) → sum_from from count f ≡ sum_from from count g
unfolding sum_from
from_ext from zero f g h = refl
from_ext from (suc count) f g h =
    rw (h from (omega arith) (omega arith), from_ext (suc from) count f g λ k a b. h k (omega arith) (omega arith))

-- sums of terms that are no more are no more
pub from_le : (from count : ℕ) (f g : ℕ → ℕ) → ((k : ℕ) → from ≤ k → k < from + count → f k ≤ g k) → sum_from from count f ≤ sum_from from count g
unfolding sum_from
from_le from zero f g h = omega arith
from_le from (suc count) f g h =
    omega (arith, h from (omega arith) (omega arith), from_le (suc from) count f g λ k a b. h k (omega arith) (omega arith))

-- sums below a bound: of terms that are no more, of two terms each, of zeros
pub below_le : (n : ℕ) (f g : ℕ → ℕ) → ((k : ℕ) → k < n → f k ≤ g k) → sum_below n f ≤ sum_below n g
unfolding sum_below
below_le zero f g h = omega arith
below_le (suc n) f g h = omega (arith, h n (omega arith), below_le n f g λ k hk. h k (omega arith))

pub below-add : (n : ℕ) (f g : ℕ → ℕ) → sum_below n (λ k. f k + g k) ≡ sum_below n f + sum_below n g
unfolding sum_below
below-add zero f g = refl
below-add (suc n) f g = rw (below-add n f g) (omega arith)

pub below-zeros : (n : ℕ) → sum_below n (λ k. 0) ≡ 0
unfolding sum_below
below-zeros zero = refl
below-zeros (suc n) = rw (below-zeros n)

-- a lack of 0 takes nothing
pub last-zero : (lack : ℕ) → lack ≤ 0 → last_entry lack ≡ 0
unfolding last_entry
last-zero lack h = let e : lack ≡ 0 = omega arith in rw e

-- the entry is the least: whatever set of the choices from one on has maximums that reach the
-- lack weighs at least the entry
module _ (weight most : ℕ → ℕ) (inside : ℕ → Bool) where
  pub least_weighs : (from count lack : ℕ) → lack ≤ sum_from from count (λ choice. cond (inside choice) (most choice) 0)
      → least weight most from count lack ≤ sum_from from count λ choice. cond (inside choice) (weight choice) 0
  unfolding least sum_from
  least_weighs from zero lack h = rw (last-zero lack h) (omega arith)
  least_weighs from (suc count) lack h =
      go (inside from) refl (least_weighs (suc from) count lack) (least_weighs (suc from) count (lack - most from)) h
    where
      go : (b : Bool) → inside from ≡ b
          → (lack ≤ sum_from (suc from) count (λ choice. cond (inside choice) (most choice) 0)
          → least weight most (suc from) count lack ≤ sum_from (suc from) count λ choice. cond (inside choice) (weight choice) 0)
          → (lack - most from ≤ sum_from (suc from) count (λ choice. cond (inside choice) (most choice) 0)
          → least weight most (suc from) count (lack - most from) ≤ sum_from (suc from) count λ choice. cond (inside choice) (weight choice) 0)
          → lack ≤ cond (inside from) (most from) 0 + sum_from (suc from) count (λ choice. cond (inside choice) (most choice) 0)
          → min (least weight most (suc from) count lack) (weight from + least weight most (suc from) count (lack - most from))
          ≤ cond (inside from) (weight from) 0 + sum_from (suc from) count λ choice. cond (inside choice) (weight choice) 0
      go true t without with h = let g = rw t at h in rw t (omega (arith, with (omega (arith, g))))
      go false t without with h = let g = rw t at h in rw t (omega (arith, without (omega (arith, g))))

-- weights that agree have the same least weights
pub least_ext : (weight other most : ℕ → ℕ) → ((choice : ℕ) → weight choice ≡ other choice) → (from count lack : ℕ)
    → least weight most from count lack ≡ least other most from count lack
unfolding least
least_ext weight other most h from zero lack = refl
least_ext weight other most h from (suc count) lack =
    rw (h from, least_ext weight other most h (suc from) count lack, least_ext weight other most h (suc from) count (lack - most from))

pub least_by : (weight other : ℕ → ℕ → ℕ) (counts : Counts) (maxs : List ℕ) (table from lack : ℕ) → ((choice : ℕ) → weight table choice ≡ other table choice)
    → least_of weight counts maxs table from lack ≡ least_of other counts maxs table from lack
unfolding least_of
least_by weight other counts maxs table from lack h =
    least_ext (weight table) (other table) (λ choice. get_or maxs choice 0) h from (counts.choices - from) lack

-- what stands in one slot at most is summed once over the slots
module _ (stands : ℕ → Bool) (place x : ℕ) (only : (slot : ℕ) → stands slot ≡ true → place ≡ slot) where
  not_yet : (slots : ℕ) → slots ≤ place → sum_below slots (λ slot. cond (stands slot) x 0) ≡ 0
  unfolding sum_below
  not_yet zero h = refl
  not_yet (suc n) h = go (stands n) refl (not_yet n (omega arith))
    where
      go : (b : Bool) → stands n ≡ b → sum_below n (λ slot. cond (stands slot) x 0) ≡ 0 → sum_below n (λ slot. cond (stands slot) x 0) + cond (stands n) x 0 ≡ 0
      go true t e = absurd (omega (arith, only n t))
      go false t e = rw (t, e)

  pub once : (slots : ℕ) → sum_below slots (λ slot. cond (stands slot) x 0) ≤ x
  unfolding sum_below
  once zero = omega arith
  once (suc n) = go (stands n) refl (once n)
    where
      go : (b : Bool) → stands n ≡ b → sum_below n (λ slot. cond (stands slot) x 0) ≤ x → sum_below n (λ slot. cond (stands slot) x 0) + cond (stands n) x 0 ≤ x
      go true t h = rw (t, not_yet n (omega (arith, only n t))) (omega arith)
      go false t h = rw t (omega arith)

-- the sets that stand in different slots are disjoint: over all slots each choice's weight is summed
-- at most once
module _ (weight : ℕ → ℕ) (stands : ℕ → ℕ → Bool) (place : ℕ → ℕ) (only : (choice slot : ℕ) → stands choice slot ≡ true → place choice ≡ slot) (slots : ℕ) where
  pub slots_weigh : (from count : ℕ)
      → sum_below slots (λ slot. sum_from from count λ choice. cond (stands choice slot) (weight choice) 0) ≤ sum_from from count weight
  unfolding sum_from
  slots_weigh from zero = rw (below-zeros slots) (omega arith)
  slots_weigh from (suc count) =
      let e = below-add slots (λ slot. cond (stands from slot) (weight from) 0) (λ slot. sum_from (suc from) count λ choice. cond (stands choice slot) (weight choice) 0) in
      rw e (omega (arith, once (stands from) (place from) (weight from) (only from) slots, slots_weigh (suc from) count))
