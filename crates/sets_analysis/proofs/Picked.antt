-- A list picked from another, element by element, each skipped or taken by what was taken before: kept sets
-- and a level's list are both made so.
use mathlib.Core.Path.{◌≡◌, refl, ◌∙◌, ap}
use mathlib.Core.Bool.{Bool, true, false, cond}
use mathlib.Core.List.Memᴰ
use mathlib.Core.List.Sublistᴰ
use mathlib.Core.List.{List, [], ◌∷◌, ◌++◌, append-nil, append_assoc, Memᴰ, Sublistᴰ}
use mathlib.Core.Logic.{◌⊎◌, inl, inr, ⊎_elim}
use Rattle.sets_analysis.proofs.Pairwise.{Pairwise, pairwise_more, sub-without}

-- what is taken once an element is skipped, or taken last
abbrev pub taking : {A : Type 0} → Bool → List A → A → List A
taking skip taken x = cond skip taken (taken ++ (x ∷ []))

-- the elements one after the other, each skipped or taken
unfoldable pub picked : {A : Type 0} → (List A → A → Bool) → List A → List A → List A
picked skips taken [] = taken
picked skips taken (x ∷ l) = picked skips (taking (skips taken x) taken x) l

-- what is taken after one element more
module _ {A : Type 0} where
  -- what was taken before stays taken
  taking-old : (skip : Bool) (taken : List A) (x : A) {y : A} → Memᴰ y taken → Memᴰ y (taking skip taken x)
  taking-old true taken x m = m
  taking-old false taken x m = Memᴰ.append_left (x ∷ []) m

  -- only that element comes in, and only if it isn't skipped
  taking_cases : (skip : Bool) (taken : List A) (x : A) {y : A} → Memᴰ y (taking skip taken x) → Memᴰ y taken ⊎ ((y ≡ x) × (skip ≡ false))
  taking_cases true taken x m = inl m
  taking_cases false taken x m = ⊎_elim (λ k. inl k) (λ k. inr (Memᴰ.eq_of_singleton k, refl)) (Memᴰ.append_cases taken m)

  -- a relation along what is taken goes on, if those taken have it to an element that isn't skipped
  taking_pairwise : (R : A → A → Type 0) (skip : Bool) (taken : List A) (x : A) → Pairwise R taken → (skip ≡ false → (y : A) → Memᴰ y taken → R y x)
      → Pairwise R (taking skip taken x)
  taking_pairwise R true taken x w h = w
  taking_pairwise R false taken x w h = pairwise_more R taken x w (h refl)

  -- what is taken leaves out a skipped element and nothing else
  taking-sub : (skip : Bool) (taken : List A) (x : A) (l : List A) → Sublistᴰ (taking skip taken x ++ l) (taken ++ (x ∷ l))
  taking-sub true taken x l = sub-without taken l x
  taking-sub false taken x l = rw append_assoc (Sublistᴰ.refl (taken ++ (x ∷ l)))

module _ {A : Type 0} (skips : List A → A → Bool) where
  -- what was taken at the start is picked
  pub picked-old : (taken l : List A) {y : A} → Memᴰ y taken → Memᴰ y (picked skips taken l)
  unfolding picked
  picked-old taken [] m = m
  picked-old taken (x ∷ l) m = picked-old (taking (skips taken x) taken x) l (taking-old (skips taken x) taken x m)

  -- a picked list leaves out elements and changes nothing else
  pub picked-sub : (taken l : List A) → Sublistᴰ (picked skips taken l) (taken ++ l)
  unfolding picked
  picked-sub taken [] = rw append-nil (Sublistᴰ.refl taken)
  picked-sub taken (x ∷ l) = Sublistᴰ.trans (picked-sub (taking (skips taken x) taken x) l) (taking-sub (skips taken x) taken x l)

  -- what is picked was taken at the start, or was not skipped when its turn came
  pub picked-new : (taken l : List A) {y : A} → Memᴰ y (picked skips taken l) → Memᴰ y taken ⊎ (Memᴰ y l × (before : List A) × (skips before y ≡ false))
  unfolding picked
  picked-new taken [] m = inl m
  picked-new taken (x ∷ l) {y} m =
      ⊎_elim
      (λ k. ⊎_elim (λ a. inl a) (λ e. inr (Memᴰ.head e.0, taken, ap (skips taken) e.0 ∙ e.1)) (taking_cases (skips taken x) taken x k))
      (λ k. inr (Memᴰ.tail k.0, k.1, k.2))
      (picked-new (taking (skips taken x) taken x) l m)

  -- an element that isn't picked was skipped because of what is picked
  pub picked_or : (taken l : List A) {y : A} → Memᴰ y l
      → Memᴰ y (picked skips taken l) ⊎ ((before : List A) × (skips before y ≡ true) × ((z : A) → Memᴰ z before → Memᴰ z (picked skips taken l)))
  unfolding picked
  picked_or taken [] m = absurd (Memᴰ.not-nil m)
  picked_or taken (x ∷ l) {y} m =
      ⊎_elim (λ e. now (skips taken x) refl e) (λ k. picked_or (taking (skips taken x) taken x) l k) (Memᴰ.cases_cons m)
    where
      now : (skip : Bool) → skips taken x ≡ skip → y ≡ x
          → Memᴰ y (picked skips (taking skip taken x) l) ⊎ ((before : List A) × (skips before y ≡ true) × ((z : A) → Memᴰ z before → Memᴰ z (picked skips (taking skip taken x) l)))
      now true t e = inr (taken, ap (skips taken) e ∙ t, λ z k. picked-old taken l k)
      now false t e = inl (picked-old (taken ++ (x ∷ [])) l (Memᴰ.append_right taken (Memᴰ.head e)))

  -- a relation that those taken have to each element taken after them holds along the picked list
  pub picked_pairwise : (R : A → A → Type 0) → ((taken : List A) (x : A) → skips taken x ≡ false → (y : A) → Memᴰ y taken → R y x)
      → (taken l : List A) → Pairwise R taken → Pairwise R (picked skips taken l)
  unfolding picked
  picked_pairwise R h taken [] w = w
  picked_pairwise R h taken (x ∷ l) w =
      picked_pairwise R h (taking (skips taken x) taken x) l (taking_pairwise R (skips taken x) taken x w (h taken x))
