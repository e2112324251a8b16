-- Sums behind the rule: lacks of disjoint sets weighed together, and one term taken apart.
use mathlib.Core.Path.{◌≡◌, sym, ap}
use mathlib.Core.Bool.{Bool, true, false, ◌&&◌, cond}
use Prim.Native.Nat.{ℕ, zero, suc, ◌+◌, ◌≤◌, ◌<◌, max}
use native.Mathlib.Decide.{ℕ_discrete}
use native.Mathlib.Nat.{not-suc-le-zero}
use native.Mathlib.Omega.{arith}
use borrow.Author.Tests.{eq-eqb, ne_eqb}
use lib.Dec.{eqb}
use Rattle.base_lists.specs.Below.{sum_below}
use Rattle.base_lists.proofs.SumBelow.{sum_ext}
use Rattle.list_tables.specs.steps.Weights.{least, sum_from}
use Rattle.list_tables.proofs.WeightLaws.{from_ext, from_le, below_le, least_weighs, slots_weigh}

-- what is inside and stands in the slot
both_le : (a b : Bool) (x : ℕ) → cond (a && b) x 0 ≤ cond b (cond a x 0) 0
both_le true true x = omega arith
both_le true false x = omega arith
both_le false true x = omega arith
both_le false false x = omega arith

-- what each slot needs, where the choices inside that stand there weigh as much, is together no
-- more than the choices inside weigh
module _ (weight most : ℕ → ℕ) (inside : ℕ → Bool) (stands : ℕ → ℕ → Bool) (place : ℕ → ℕ)
    (only : (choice slot : ℕ) → stands choice slot ≡ true → place choice ≡ slot) (slots from count : ℕ) where
  needs_weigh : (need : ℕ → ℕ)
      → ((slot : ℕ) → slot < slots → need slot ≤ sum_from from count λ choice. cond (stands choice slot) (cond (inside choice) (weight choice) 0) 0)
      → sum_below slots need ≤ sum_from from count λ choice. cond (inside choice) (weight choice) 0
  needs_weigh need h =
      let w : ℕ → ℕ = λ choice. cond (inside choice) (weight choice) 0 in
      let g : ℕ → ℕ = λ slot. sum_from from count λ choice. cond (stands choice slot) (w choice) 0 in
      let a : sum_below slots need ≤ sum_below slots g = below_le slots need g h in
      let b : sum_below slots g ≤ sum_from from count w = slots_weigh w stands place only slots from count in
      omega (arith, a, b)

  -- choices inside that stand in a slot weigh no less than the entry of what they sum up to
  slot_weighs : (amount : ℕ → ℕ) (slot lack : ℕ) → lack ≤ sum_from from count (λ choice. cond (inside choice && stands choice slot) (amount choice) 0)
      → least weight amount from count lack ≤ sum_from from count λ choice. cond (stands choice slot) (cond (inside choice) (weight choice) 0) 0
  slot_weighs amount slot lack h =
      let a = least_weighs weight amount (λ choice. inside choice && stands choice slot) from count lack h in
      let b = from_le from count (λ choice. cond (inside choice && stands choice slot) (weight choice) 0)
      (λ choice. cond (stands choice slot) (cond (inside choice) (weight choice) 0) 0)
      (λ k lo hi. both_le (inside k) (stands k slot) (weight k)) in
      omega (arith, a, b)

  -- the slots' lacks, each filled by choices inside that stand there
  pub lacks_weigh : (lack : ℕ → ℕ)
      → ((slot : ℕ) → slot < slots → lack slot ≤ sum_from from count (λ choice. cond (inside choice && stands choice slot) (most choice) 0))
      → sum_below slots (λ slot. least weight most from count (lack slot)) ≤ sum_from from count λ choice. cond (inside choice) (weight choice) 0
  lacks_weigh lack h = needs_weigh (λ slot. least weight most from count (lack slot)) λ slot hs. slot_weighs most slot (lack slot) (h slot hs)

  -- the lacks, where in each slot so many choices inside stand besides
  pub both_weigh : (lack want : ℕ → ℕ)
      → ((slot : ℕ) → slot < slots → lack slot ≤ sum_from from count (λ choice. cond (inside choice && stands choice slot) (most choice) 0))
      → ((slot : ℕ) → slot < slots → want slot ≤ sum_from from count (λ choice. cond (inside choice && stands choice slot) 1 0))
      → sum_below slots (λ slot. max (least weight most from count (lack slot)) (least weight (λ choice. 1) from count (want slot)))
      ≤ sum_from from count λ choice. cond (inside choice) (weight choice) 0
  both_weigh lack want h k =
      needs_weigh (λ slot. max (least weight most from count (lack slot)) (least weight (λ choice. 1) from count (want slot))) λ slot hs.
      let a = slot_weighs most slot (lack slot) (h slot hs) in
      let b = slot_weighs (λ choice. 1) slot (want slot) (k slot hs) in
      omega (arith, a, b)

-- one term apart
pub one_out : (from count i : ℕ) (g : ℕ → ℕ) → from ≤ i → i < from + count
    → sum_from from count g ≡ g i + sum_from from count λ choice. cond (eqb choice i) 0 (g choice)
unfolding sum_from
one_out from zero i g lo hi = absurd (omega arith)
one_out from (suc count) i g lo hi = go (ℕ_discrete from i) (one_out (suc from) count i g)
  where
    go : Dec (from ≡ i)
        → (suc from ≤ i → i < suc from + count → sum_from (suc from) count g ≡ g i + sum_from (suc from) count λ choice. cond (eqb choice i) 0 (g choice))
        → g from + sum_from (suc from) count g ≡ g i + (cond (eqb from i) 0 (g from) + sum_from (suc from) count λ choice. cond (eqb choice i) 0 (g choice))
    go (yes e) ih =
        let same : sum_from (suc from) count g ≡ sum_from (suc from) count λ choice. cond (eqb choice i) 0 (g choice) =
        from_ext (suc from) count g (λ choice. cond (eqb choice i) 0 (g choice)) λ k a b. rw (ne_eqb k i (λ z. omega arith)) in
        rw (eq-eqb from i e) (omega (arith, same, ap g e))
    go (no q) ih =
        let h : sum_from (suc from) count g ≡ g i + sum_from (suc from) count λ choice. cond (eqb choice i) 0 (g choice) = ih (omega (arith, q)) (omega arith) in
        rw (ne_eqb from i q) (omega (arith, h))

-- sums that differ in one term
pub change_one : (n : ℕ) (f g : ℕ → ℕ) (p : ℕ) → p < n → ((slot : ℕ) → slot < n → (slot ≡ p → ⊥) → f slot ≡ g slot) → sum_below n f + g p ≡ sum_below n g + f p
unfolding sum_below
change_one zero f g p h e = absurd (not-suc-le-zero h)
change_one (suc n) f g p h e = go (ℕ_discrete p n) (change_one n f g p)
  where
    go : Dec (p ≡ n) → (p < n → ((slot : ℕ) → slot < n → (slot ≡ p → ⊥) → f slot ≡ g slot) → sum_below n f + g p ≡ sum_below n g + f p)
        → sum_below n f + f n + g p ≡ sum_below n g + g n + f p
    go (yes q) ih =
        let s : sum_below n f ≡ sum_below n g = sum_ext n f g λ k hk. e k (omega arith) (λ z. omega arith) in
        omega (arith, s, ap f q, ap g q)
    go (no q) ih =
        let s : sum_below n f + g p ≡ sum_below n g + f p = ih (omega (arith, q)) λ k hk. e k (omega arith) in
        let t : f n ≡ g n = e n (omega arith) (λ z. q (sym z)) in
        omega (arith, s, t)
