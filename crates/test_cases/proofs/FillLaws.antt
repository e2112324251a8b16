-- The test that a list holds one number and no other, from a place on.
use Rattle.std.proofs.Common.{◌≡◌, ℕ, suc, ◌+◌, ◌<◌, ◌≤◌, Bool, true, false, ◌&&◌, eqb, List, length, get_or, drop, sym, ap, ◌∙◌, add-one, drop_of_length-le, drop-cons, eq-eqb, ne_eqb}
use Rattle.test_cases.specs.steps.Buffers.{filled}

-- the test at a place, and the test of the rest
filled_at : (l : List ℕ) (i byte : ℕ) (b : Bool) → i < length l → eqb (get_or l i 0) byte ≡ b → filled byte (drop i l) ≡ b && filled byte (drop (suc i) l)
unfolding filled
filled_at l i byte b h e =
    ap (filled byte) (drop-cons l i 0 h) ∙ ap (λ (t : Bool). t && filled byte (drop (suc i) l)) e

pub filled_more : (l : List ℕ) (i byte : ℕ) → i < length l → get_or l i 0 ≡ byte → filled byte (drop (i + 1) l) ≡ filled byte (drop i l)
filled_more l i byte h e =
    ap (λ (k : ℕ). filled byte (drop k l)) (add-one i) ∙ sym (filled_at l i byte true h (eq-eqb _ _ e))

pub filled-not : (l : List ℕ) (i byte : ℕ) → i < length l → (get_or l i 0 ≡ byte → ⊥) → filled byte (drop i l) ≡ false
filled-not l i byte h n = filled_at l i byte false h (ne_eqb _ _ n)

pub filled-end : (l : List ℕ) (i byte : ℕ) → length l ≤ i → filled byte (drop i l) ≡ true
unfolding filled
filled-end l i byte h = ap (filled byte) (drop_of_length-le l h)
