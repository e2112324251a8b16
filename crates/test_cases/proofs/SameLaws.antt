-- Comparing two lists byte by byte, from the first on.
use Rattle.std.proofs.Common.{◌≡◌, ℕ, zero, suc, ◌+◌, ◌%◌, ◌^◌, ◌<◌, ◌≤◌, Bool, true, false, ◌&&◌, List, get_or, sym, refl, ap, ◌∙◌, add-one, arith, eq-eqb, ne_eqb}
use native.Mathlib.Decide.{ℕ_discrete}
use lib.Arith.{lt_of_le-ne}
use Rattle.test_cases.specs.steps.Alike.{alike_at, alike}

and_false : (b : Bool) → (b && false) ≡ false
and_false true = refl
and_false false = refl

-- what is read at a place that was worked out
pub read_at : (l : List ℕ) {place wanted value : ℕ} → value ≡ get_or l place 0 → place ≡ wanted → value ≡ get_or l wanted 0
read_at l v p = v ∙ ap (λ (k : ℕ). get_or l k 0) p

module _ (one : List ℕ) (from : ℕ) (other : List ℕ) (at : ℕ) where
  -- none is compared yet
  pub alike-start : alike one from other at 0 ≡ true
  unfolding alike
  alike-start = refl

  -- one more is equal
  pub alike_next : (i : ℕ) → alike one from other at i ≡ true → get_or one ((from + i) % 2 ^ 64) 0 ≡ get_or other ((at + i) % 2 ^ 64) 0 → alike one from other at (i + 1) ≡ true
  unfolding alike alike_at
  alike_next i h e = rw (add-one i, h, eq-eqb _ _ e)

  fails : (n i : ℕ) → i < n → alike_at one from other at i ≡ false → alike one from other at n ≡ false
  unfolding alike
  fails zero i h f = absurd (omega arith)
  fails (suc n) i h f =
      elim (ℕ_discrete i n) [
        | yes e ↦ ap (λ (b : Bool). alike one from other at n && b) (sym (ap (alike_at one from other at) e) ∙ f) ∙ and_false (alike one from other at n)
        | no d ↦ rw (fails n i (lt_of_le-ne (let m : i ≤ n = omega arith in m) d) f)
      ]

  -- one differs
  pub alike-fails : (n i : ℕ) → i < n → (get_or one ((from + i) % 2 ^ 64) 0 ≡ get_or other ((at + i) % 2 ^ 64) 0 → ⊥) → false ≡ alike one from other at n
  unfolding alike_at
  alike-fails n i h d = sym (fails n i h (ne_eqb _ _ d))
