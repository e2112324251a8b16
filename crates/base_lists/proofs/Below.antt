-- Laws of tests, counts and sums below a bound: one number more, and what the Bool says of every number.
use mathlib.Core.Path.{◌≡◌, refl, sym, ◌∙◌, ap}
use mathlib.Core.Bool.{Bool, true, false, ◌&&◌, false≢true}
use Prim.Native.Nat.{ℕ, zero, suc, ◌+◌, ◌≤◌, ◌<◌}
use native.Mathlib.Decide.{ℕ_discrete}
use native.Mathlib.Numerals.{add-one}
use native.Mathlib.Nat.{not-suc-le-zero}
use native.Mathlib.Omega.{arith}
use borrow.Author.Tests.{lt-ltb, le-ltb, ltb-true, ltb-false}
use lib.Dec.{ltb}
use Rattle.base_lists.specs.Below.{one, all_below, count_below, sum_below}

-- two tests hold together exactly if each holds
pub and_both : (a b : Bool) → a ≡ true → b ≡ true → (a && b) ≡ true
and_both a b p q = rw (p, q)

pub and_left : (a b : Bool) → (a && b) ≡ true → a ≡ true
and_left true b h = refl
and_left false b h = h

pub and_right : (a b : Bool) → (a && b) ≡ true → b ≡ true
and_right true b h = h
and_right false b h = absurd (false≢true h)

-- two tests of order are one where each order follows from the other
pub same_test : (c d p q : ℕ) → (c < d → p < q) → (d ≤ c → q ≤ p) → ltb c d ≡ ltb p q
same_test c d p q up down = by (ltb c d) refl
  where
    by : (t : Bool) → ltb c d ≡ t → t ≡ ltb p q
    by true t = sym (lt-ltb p q (up (ltb-true c d t)))
    by false t = sym (le-ltb p q (down (ltb-false c d t)))

-- a test, a count and a sum with one number more, the bound written as the code's i + 1
pub all_more : (p : ℕ → Bool) (i : ℕ) → all_below i p ≡ true → p i ≡ true → all_below (i + 1) p ≡ true
unfolding all_below
all_more p i h e = rw (add-one, h, e)

pub count-more : (p : ℕ → Bool) (i : ℕ) → count_below (i + 1) p ≡ count_below i p + one (p i)
unfolding count_below
count-more p i = rw add-one

pub sum_more : (f : ℕ → ℕ) (i : ℕ) → sum_below (i + 1) f ≡ sum_below i f + f i
unfolding sum_below
sum_more f i = rw add-one

-- a test that holds of all numbers below a bound holds of each, and the other way
pub all-each : (n : ℕ) (p : ℕ → Bool) → all_below n p ≡ true → (k : ℕ) → k < n → p k ≡ true
unfolding all_below
all-each zero p h k hk = absurd (not-suc-le-zero hk)
all-each (suc n) p h k hk =
    elim (ℕ_discrete k n) [
      | yes e ↦ ap p e ∙ and_right (all_below n p) (p n) h
      | no e ↦ all-each n p (and_left (all_below n p) (p n) h) k (omega arith)
    ]

pub each_all : (n : ℕ) (p : ℕ → Bool) → ((k : ℕ) → k < n → p k ≡ true) → all_below n p ≡ true
unfolding all_below
each_all zero p h = refl
each_all (suc n) p h = and_both (all_below n p) (p n) (each_all n p λ k hk. h k (omega arith)) (h n (omega arith))

-- one number that fails makes the whole test fail
pub one-fails : (n : ℕ) (p : ℕ → Bool) (k : ℕ) → k < n → p k ≡ false → all_below n p ≡ false
one-fails n p k hk e = go (all_below n p) refl
  where
    go : (b : Bool) → all_below n p ≡ b → b ≡ false
    go true t = absurd (false≢true (sym e ∙ all-each n p t k hk))
    go false t = refl
