-- The library's words for a list that is asked through, against the rules' own: what `all`, `any` and `position`
-- of an iterator answer.
use mathlib.Core.Path.{◌≡◌, refl, sym, ◌∙◌, ap, ap₂}
use mathlib.Core.Bool.{Bool, true, false, ◌&&◌, ◌||◌, not, cond}
use mathlib.Core.List.{List, [], ◌∷◌}
use Prim.Native.Nat.{ℕ, suc}
use native.Mathlib.Decide.{ℕ_discrete}
use native.Mathlib.Numerals.{one-add}
use native.Mathlib.Omega.{arith}
use borrow.Author.Tests.{eq-eqb, ne_eqb, ltb-false}
use lib.Dec.{eqb, ltb}
use lib.ListN.{length}
use Rattle.std.specs.Prelude.{Some, None}
use Rattle.std.specs.List.{list_all, list_any, position, position_or_len}
use Rattle.std.specs.Option.{unwrap_or}
use Rattle.base_lists.specs.All.{all_of}
use Rattle.base_lists.specs.First.{first_failing}
use Rattle.base_lists.specs.Keep.{any_of}
use Rattle.base_lists.proofs.First.{first_le}

-- two numbers are equal either way round
pub either-way : (m n : ℕ) → eqb m n ≡ eqb n m
either-way m n =
    elim (ℕ_discrete m n) [
      | yes e ↦ eq-eqb m n e ∙ sym (eq-eqb n m (sym e))
      | no d ↦ ne_eqb m n d ∙ sym (ne_eqb n m λ e. d (sym e))
    ]

pub every-passes : {A : Type 0} (p : A → Bool) (l : List A) → list_all p l ≡ all_of p l
unfolding all_of
every-passes p [] = refl
every-passes p (x ∷ l) = ap (λ (b : Bool). p x && b) (every-passes p l)

module _ {A : Type 0} (p q : A → Bool) where
  -- tests that say the same of each element
  module _ (same : (x : A) → p x ≡ q x) where
    pub some-passes : (l : List A) → list_any p l ≡ any_of q l
    unfolding any_of
    some-passes [] = refl
    some-passes (x ∷ l) = ap₂ (λ (a b : Bool). a || b) (same x) (some-passes l)

  -- a test that fails where the other passes: the first place found, or the end where there is none
  module _ (opposite : (x : A) → not (p x) ≡ q x) where
    first-passing : (l : List A) → position_or_len p l ≡ first_failing q l
    unfolding first_failing
    first-passing [] = refl
    first-passing (x ∷ l) = ap₂ (λ (b : Bool) (n : ℕ). cond b n 0) (opposite x) (one-add _ ∙ ap suc (first-passing l))

    pub place-is : (l : List A) → unwrap_or (position p l) (length l) ≡ first_failing q l
    place-is l = by (ltb (position_or_len p l) (length l)) refl
      where
        by : (b : Bool) → ltb (position_or_len p l) (length l) ≡ b → unwrap_or (cond b (Some (position_or_len p l)) None) (length l) ≡ first_failing q l
        by true t = first-passing l
        by false t = omega (arith, ltb-false _ _ t, first-passing l, first_le q l)
