-- No two outcomes fit what is promised of entries that a lent value reads, where it reads one at a place.
use mathlib.Core.Logic.{inl, inr}
use mathlib.Core.Bool.{false≢true}
use Rattle.std.proofs.Common.{◌≡◌, ℕ, zero, suc, ◌+◌, ◌%◌, ◌^◌, Bool, List, [], ◌∷◌, length, sym, refl, ap, ◌∙◌, arith}
use Rattle.test_cases.specs.steps.Readings.{EachRead, ToldBy, Agreed}

module _ {T : Type 0} (reads : ℕ → T → Type 0) (one : (at : ℕ) (x y : T) → reads at x → reads at y → x ≡ y) (apart : ℕ) where
  -- a list is filled in one way
  pub one-reading : (at : ℕ) (xs ys : List T) → length xs ≡ length ys → EachRead reads apart at xs → EachRead reads apart at ys → xs ≡ ys
  unfolding EachRead
  one-reading at [] [] e h k = refl
  one-reading at [] (y ∷ ys) e h k = absurd (omega (arith, e))
  one-reading at (x ∷ xs) [] e h k = absurd (omega (arith, e))
  one-reading at (x ∷ xs) (y ∷ ys) e h k =
      ap (λ (z : T). z ∷ xs) (one at x y h.0 k.0) ∙ ap (λ (zs : List T). y ∷ zs) (one-reading ((at + apart) % 2 ^ 64) xs ys (omega (arith, e)) h.1 k.1)

  -- a pool is told of in one way
  module _ (eq : T → T → Bool) (past : T) where
    -- what two answers rest on is one comparison, and then one rest
    one-step : {a b equal other : Bool} {R S : Type 0} → equal ≡ other → (R → S → a ≡ b) → ToldBy equal a R → ToldBy other b S → a ≡ b
    one-step e f (inl h) (inl k) = f h.1 k.1
    one-step e f (inl h) (inr k) = absurd (false≢true (sym k.0 ∙ sym e ∙ h.0))
    one-step e f (inr h) (inl k) = absurd (false≢true (sym h.0 ∙ e ∙ k.0))
    one-step e f (inr h) (inr k) = h.1 ∙ sym k.1

    pub one-answer : (at n : ℕ) (pool : List T) {a b : Bool} → Agreed reads eq past apart at n pool a → Agreed reads eq past apart at n pool b → a ≡ b
    unfolding Agreed
    one-answer at n [] h k = h ∙ sym k
    one-answer at zero (x ∷ rest) h k = one-step refl (one-answer ((at + apart) % 2 ^ 64) zero rest) h k
    one-answer at (suc n) (x ∷ rest) h k =
        one-step (ap (eq x) (one at h.0 k.0 h.1 k.1)) (one-answer ((at + apart) % 2 ^ 64) n rest) h.2 k.2
