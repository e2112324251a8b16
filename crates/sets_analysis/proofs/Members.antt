-- What tests of a list say of its members, and where the members of lists made by place come from.
use mathlib.Core.Path.{◌≡◌, refl, sym, ◌∙◌, ap}
use mathlib.Core.Bool.{Bool, true, false, ◌||◌, false≢true}
use mathlib.Core.List.Memᴰ
use mathlib.Core.List.{List, [], ◌∷◌, Memᴰ}
use mathlib.Core.Logic.{◌⊎◌, inl, inr, ⊎_elim}
use Prim.Native.Nat.{ℕ, zero, suc, ◌<◌}
use native.Mathlib.Decide.{ℕ_discrete}
use native.Mathlib.Nat.{not-suc-le-zero}
use native.Mathlib.Omega.{arith}
use Rattle.base_lists.specs.All.{all_of}
use Rattle.base_lists.specs.Flat.{list_below, join_below}
use Rattle.base_lists.specs.Keep.{any_of}
use Rattle.base_lists.proofs.Below.{and_both, and_left, and_right}

-- where one of two tests holds, the first does or the second
pub or_cases : (a b : Bool) → (a || b) ≡ true → (a ≡ true) ⊎ (b ≡ true)
or_cases true b h = inl refl
or_cases false b h = inr h

-- one of two tests holds where the first does
pub or_left : (a b : Bool) → a ≡ true → (a || b) ≡ true
or_left a b h = rw h

-- one of two tests holds where the second does
pub or_right : (a b : Bool) → b ≡ true → (a || b) ≡ true
or_right true b h = refl
or_right false b h = h

-- where neither of two tests holds, the first fails
pub neither_left : (a b : Bool) → (a || b) ≡ false → a ≡ false
neither_left true b h = h
neither_left false b h = refl

-- where neither of two tests holds, the second fails
pub neither_right : (a b : Bool) → (a || b) ≡ false → b ≡ false
neither_right true b h = absurd (false≢true (sym h))
neither_right false b h = h

-- a test that can't hold fails
pub refuted : (a : Bool) → (a ≡ true → ⊥) → a ≡ false
refuted true h = absurd (h refl)
refuted false h = refl

module _ {ℓ} {A : Type ℓ} (p : A → Bool) where
  -- where some element of a list passes a test, a member of it does
  pub any_member : (l : List A) → any_of p l ≡ true → (x : A) × Memᴰ x l × (p x ≡ true)
  unfolding any_of
  any_member [] h = absurd (false≢true h)
  any_member (y ∷ l) h =
      ⊎_elim (λ e. (y, Memᴰ.head refl, e)) (λ e. let r = any_member l e in (r.0, Memᴰ.tail r.1, r.2))
      (or_cases (p y) (any_of p l) h)

  -- where a member of a list passes a test, some element of it does
  pub member_any : (l : List A) {x : A} → Memᴰ x l → p x ≡ true → any_of p l ≡ true
  unfolding any_of
  member_any [] m h = absurd (Memᴰ.not-nil m)
  member_any (y ∷ l) m h =
      ⊎_elim (λ e. or_left (p y) (any_of p l) (ap p (sym e) ∙ h)) (λ k. or_right (p y) (any_of p l) (member_any l k h))
      (Memᴰ.cases_cons m)

  -- where no element of a list passes a test, no member of it does
  pub none-member : (l : List A) {x : A} → any_of p l ≡ false → Memᴰ x l → p x ≡ false
  none-member l {x} h m = refuted (p x) (λ t. false≢true (sym h ∙ member_any l m t))

  -- where every element of a list passes a test, each member of it does
  pub all-member : (l : List A) {x : A} → all_of p l ≡ true → Memᴰ x l → p x ≡ true
  unfolding all_of
  all-member [] h m = absurd (Memᴰ.not-nil m)
  all-member (y ∷ l) h m =
      ⊎_elim (λ e. ap p e ∙ and_left (p y) (all_of p l) h) (λ k. all-member l (and_right (p y) (all_of p l) h) k)
      (Memᴰ.cases_cons m)

  -- where each member of a list passes a test, every element of it does
  pub member-all : (l : List A) → ((x : A) → Memᴰ x l → p x ≡ true) → all_of p l ≡ true
  unfolding all_of
  member-all [] h = refl
  member-all (y ∷ l) h = and_both (p y) (all_of p l) (h y (Memᴰ.head refl)) (member-all l (λ x m. h x (Memᴰ.tail m)))

module _ {ℓ} {A : Type ℓ} where
  -- a member of a list made by place is one of its entries
  pub in_list : (n : ℕ) (f : ℕ → A) {x : A} → Memᴰ x (list_below n f) → (i : ℕ) × (i < n) × (x ≡ f i)
  unfolding list_below
  in_list zero f m = absurd (Memᴰ.not-nil m)
  in_list (suc n) f m =
      ⊎_elim (λ k. let r = in_list n f k in let h : r.0 < n = r.1 in (r.0, omega arith, r.2))
      (λ k. (n, omega arith, Memᴰ.eq_of_singleton k)) (Memᴰ.append_cases (list_below n f) m)

  -- each entry of a list made by place is a member of it
  pub list_in : (n : ℕ) (f : ℕ → A) (i : ℕ) → i < n → Memᴰ (f i) (list_below n f)
  unfolding list_below
  list_in zero f i h = absurd (not-suc-le-zero h)
  list_in (suc n) f i h =
      elim (ℕ_discrete i n) [
        | yes e ↦ Memᴰ.append_right (list_below n f) (Memᴰ.head (ap f e))
        | no e ↦ Memᴰ.append_left (f n ∷ []) (list_in n f i (omega arith))
      ]

  -- a member of joined lists is one of some list that was joined
  pub in_join : (n : ℕ) (f : ℕ → List A) {x : A} → Memᴰ x (join_below n f) → (i : ℕ) × (i < n) × Memᴰ x (f i)
  unfolding join_below
  in_join zero f m = absurd (Memᴰ.not-nil m)
  in_join (suc n) f m =
      ⊎_elim (λ k. let r = in_join n f k in let h : r.0 < n = r.1 in (r.0, omega arith, r.2)) (λ k. (n, omega arith, k))
      (Memᴰ.append_cases (join_below n f) m)

  -- each member of a list that was joined is one of the joined lists
  pub join_in : (n : ℕ) (f : ℕ → List A) (i : ℕ) {x : A} → i < n → Memᴰ x (f i) → Memᴰ x (join_below n f)
  unfolding join_below
  join_in zero f i h m = absurd (not-suc-le-zero h)
  join_in (suc n) f i {x} h m =
      elim (ℕ_discrete i n) [
        | yes e ↦ Memᴰ.append_right (join_below n f) (rw e at m)
        | no e ↦ Memᴰ.append_left (f n) (join_in n f i (omega arith) m)
      ]
