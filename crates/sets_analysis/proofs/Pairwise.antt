-- Relations between earlier and later elements of a list, and lists that leave out some elements of another.
use mathlib.Core.Path.{◌≡◌, refl, sym, ◌∙◌, ap}
use mathlib.Core.Bool.{Bool, true, false, cond, false≢true}
use mathlib.Core.List.Sublistᴰ
use mathlib.Core.List.{List, [], ◌∷◌, ◌++◌, Memᴰ, Sublistᴰ}
use mathlib.Core.Logic.{◌⊎◌, inl, inr, ⊎_elim}
use Prim.Native.Nat.{ℕ, zero, suc, ◌<◌}
use native.Mathlib.Nat.{not-suc-le-zero, le_of_suc-le-suc}
use native.Mathlib.Omega.{arith}
use lib.ListN.{length, get_or}
use Rattle.base_lists.specs.Flat.{join_below}
use Rattle.base_lists.specs.Keep.{keep}
use Rattle.sets_analysis.proofs.Members.{in_join}

-- every element stands in the relation to each later one
unfoldable pub Pairwise : {A : Type 0} → (A → A → Type 0) → List A → Type 0
Pairwise R [] = Unit {0}
Pairwise {A} R (x ∷ l) = ((y : A) → Memᴰ y l → R x y) × Pairwise R l

-- the later element is another
abbrev pub Distinct : {A : Type 0} → A → A → Type 0
Distinct x later = x ≡ later → ⊥

module _ {A : Type 0} where
  -- the element at a place is a member
  pub member-at : (l : List A) (i : ℕ) (d : A) → i < length l → Memᴰ (get_or l i d) l
  member-at [] i d h = absurd (not-suc-le-zero h)
  member-at (x ∷ l) zero d h = mathlib.Core.List.Memᴰ.head refl
  member-at (x ∷ l) (suc i) d h = mathlib.Core.List.Memᴰ.tail (member-at l i d (le_of_suc-le-suc h))

module _ {A : Type 0} (R : A → A → Type 0) where
  -- a relation along a list, of the elements at two places
  pub pairwise_at : (l : List A) (d : A) → Pairwise R l → (i j : ℕ) → i < j → j < length l → R (get_or l i d) (get_or l j d)
  unfolding Pairwise
  pairwise_at [] d w i j h k = absurd (not-suc-le-zero k)
  pairwise_at (x ∷ l) d w i zero h k = absurd (not-suc-le-zero h)
  pairwise_at (x ∷ l) d w zero (suc j) h k = w.0 (get_or l j d) (member-at l j d (le_of_suc-le-suc k))
  pairwise_at (x ∷ l) d w (suc i) (suc j) h k = pairwise_at l d w.1 i j (le_of_suc-le-suc h) (le_of_suc-le-suc k)

  -- of two members one is the other, or is before it or after it
  pub pairwise_cases : (l : List A) → Pairwise R l → {x y : A} → Memᴰ x l → Memᴰ y l → (x ≡ y) ⊎ (R x y ⊎ R y x)
  unfolding Pairwise
  pairwise_cases [] w m k = absurd (mathlib.Core.List.Memᴰ.not-nil m)
  pairwise_cases (z ∷ l) w {x} {y} m k =
      ⊎_elim
      (λ e. ⊎_elim (λ q. inl (e ∙ sym q)) (λ t. inr (inl (rw e (w.0 y t)))) (mathlib.Core.List.Memᴰ.cases_cons k))
      (λ s. ⊎_elim (λ q. inr (inr (rw q (w.0 x s)))) (λ t. pairwise_cases l w.1 s t) (mathlib.Core.List.Memᴰ.cases_cons k))
      (mathlib.Core.List.Memᴰ.cases_cons m)

  -- a relation along two lists, and from each of the one to each of the other, holds along both joined
  pub pairwise_append : (l m : List A) → Pairwise R l → Pairwise R m → ((x y : A) → Memᴰ x l → Memᴰ y m → R x y) → Pairwise R (l ++ m)
  unfolding Pairwise
  pairwise_append [] m v w h = w
  pairwise_append (z ∷ l) m v w h = (
    λ y k. ⊎_elim (λ s. v.0 y s) (λ s. h z y (mathlib.Core.List.Memᴰ.head refl) s) (mathlib.Core.List.Memᴰ.append_cases l k),
    pairwise_append l m v.1 w (λ x y s t. h x y (mathlib.Core.List.Memᴰ.tail s) t),
  )

  -- a relation along a list, and to one element more, holds with that element at the end
  pub pairwise_more : (l : List A) (z : A) → Pairwise R l → ((x : A) → Memᴰ x l → R x z) → Pairwise R (l ++ (z ∷ []))
  unfolding Pairwise
  pairwise_more l z w h =
      pairwise_append l (z ∷ []) w ((λ y k. absurd (mathlib.Core.List.Memᴰ.not-nil k)), _)
      (λ x y s t. rw (mathlib.Core.List.Memᴰ.eq_of_singleton t) (h x s))

  -- a relation between any two members holds along the list
  pub pairwise_all : (l : List A) → ((x y : A) → Memᴰ x l → Memᴰ y l → R x y) → Pairwise R l
  unfolding Pairwise
  pairwise_all [] h = _
  pairwise_all (z ∷ l) h = ((λ y m. h z y (mathlib.Core.List.Memᴰ.head refl) (mathlib.Core.List.Memᴰ.tail m)), pairwise_all l (λ x y m k. h x y (mathlib.Core.List.Memᴰ.tail m) (mathlib.Core.List.Memᴰ.tail k)))

  -- a relation along each of several lists, and from each to every later one, holds along all of them joined
  pub pairwise_join : (n : ℕ) (f : ℕ → List A) → ((i : ℕ) → i < n → Pairwise R (f i))
      → ((i j : ℕ) (x y : A) → i < j → j < n → Memᴰ x (f i) → Memᴰ y (f j) → R x y) → Pairwise R (join_below n f)
  unfolding Pairwise join_below
  pairwise_join zero f each between = _
  pairwise_join (suc n) f each between =
      pairwise_append (join_below n f) (f n) (pairwise_join n f (λ i h. each i (omega arith)) (λ i j x y h l m k. between i j x y h (omega arith) m k))
      (each n (omega arith))
      (λ x y m k. let r = in_join n f m in between r.0 n x y r.1 (omega arith) r.2 k)

  -- a relation along a list holds where the list stands only under a test
  pub pairwise_if : (b : Bool) (l : List A) → Pairwise R l → Pairwise R (cond b l [])
  unfolding Pairwise
  pairwise_if true l w = w
  pairwise_if false l w = _

module _ {A : Type 0} (R S : A → A → Type 0) where
  -- a relation that follows from another holds where the other does
  pub pairwise_map : ((x y : A) → R x y → S x y) → (l : List A) → Pairwise R l → Pairwise S l
  unfolding Pairwise
  pairwise_map h [] w = w
  pairwise_map h (x ∷ l) w = ((λ y m. h x y (w.0 y m)), pairwise_map h l w.1)

  -- two relations along a list hold at once
  pub pairwise_both : (l : List A) → Pairwise R l → Pairwise S l → Pairwise (λ x y. R x y × S x y) l
  unfolding Pairwise
  pairwise_both [] v w = _
  pairwise_both (x ∷ l) v w = ((λ y m. (v.0 y m, w.0 y m)), pairwise_both l v.1 w.1)

-- ---- lists that leave out some elements

module _ {A : Type 0} where
  -- what is in the shorter list is in the longer
  pub sub-member : {k l : List A} {x : A} → Sublistᴰ k l → Memᴰ x k → Memᴰ x l
  sub-member Sublistᴰ.slnil m = m
  sub-member (Sublistᴰ.cons s) m = mathlib.Core.List.Memᴰ.tail (sub-member s m)
  sub-member (Sublistᴰ.cons-cons e s) m = ⊎_elim (λ q. mathlib.Core.List.Memᴰ.head (q ∙ e)) (λ t. mathlib.Core.List.Memᴰ.tail (sub-member s t)) (mathlib.Core.List.Memᴰ.cases_cons m)

  -- a list without one of its elements leaves out that element
  pub sub-without : (l m : List A) (z : A) → Sublistᴰ (l ++ m) (l ++ (z ∷ m))
  sub-without [] m z = Sublistᴰ.cons (Sublistᴰ.refl m)
  sub-without (x ∷ l) m z = Sublistᴰ.cons-cons refl (sub-without l m z)

  -- two lists joined, each with elements left out, leave out elements of both joined
  pub sub-append : {k l m n : List A} → Sublistᴰ k l → Sublistᴰ m n → Sublistᴰ (k ++ m) (l ++ n)
  sub-append Sublistᴰ.slnil t = t
  sub-append (Sublistᴰ.cons s) t = Sublistᴰ.cons (sub-append s t)
  sub-append (Sublistᴰ.cons-cons e s) t = Sublistᴰ.cons-cons e (sub-append s t)

  -- several lists joined, each with elements left out, leave out elements of all joined
  pub sub_join : (n : ℕ) (f g : ℕ → List A) → ((i : ℕ) → Sublistᴰ (f i) (g i)) → Sublistᴰ (join_below n f) (join_below n g)
  unfolding join_below
  sub_join zero f g h = Sublistᴰ.slnil
  sub_join (suc n) f g h = sub-append (sub_join n f g h) (h n)

  -- the elements that pass a test leave out the others
  pub sub-keep : (p : A → Bool) (l : List A) → Sublistᴰ (keep p l) l
  unfolding keep
  sub-keep p [] = Sublistᴰ.slnil
  sub-keep p (x ∷ l) = go (p x) (sub-keep p l)
    where
      go : (b : Bool) → Sublistᴰ (keep p l) l → Sublistᴰ (cond b (x ∷ keep p l) (keep p l)) (x ∷ l)
      go true s = Sublistᴰ.cons-cons refl s
      go false s = Sublistᴰ.cons s

  -- elements left out before a test are left out after it
  pub keep-sub : (p : A → Bool) {k l : List A} → Sublistᴰ k l → Sublistᴰ (keep p k) (keep p l)
  unfolding keep
  keep-sub p Sublistᴰ.slnil = Sublistᴰ.slnil
  keep-sub p (Sublistᴰ.cons {a = x} {l₁ = k} {l₂ = l} s) = go (p x) (keep-sub p s)
    where
      go : (b : Bool) → Sublistᴰ (keep p k) (keep p l) → Sublistᴰ (keep p k) (cond b (x ∷ keep p l) (keep p l))
      go true s = Sublistᴰ.cons s
      go false s = s
  keep-sub p (Sublistᴰ.cons-cons {a = x} {b = y} {l₁ = k} {l₂ = l} e s) = go (p x) (p y) (ap p e) (keep-sub p s)
    where
      go : (b c : Bool) → b ≡ c → Sublistᴰ (keep p k) (keep p l) → Sublistᴰ (cond b (x ∷ keep p k) (keep p k)) (cond c (y ∷ keep p l) (keep p l))
      go true true q s = Sublistᴰ.cons-cons e s
      go true false q s = absurd (false≢true (sym q))
      go false true q s = absurd (false≢true q)
      go false false q s = s

  -- a relation along a list holds along a list that leaves out some of its elements
  pub pairwise_sub : (R : A → A → Type 0) {k l : List A} → Sublistᴰ k l → Pairwise R l → Pairwise R k
  unfolding Pairwise
  pairwise_sub R Sublistᴰ.slnil w = w
  pairwise_sub R (Sublistᴰ.cons s) w = pairwise_sub R s w.1
  pairwise_sub R (Sublistᴰ.cons-cons e s) w = ((λ y m. rw e (w.0 y (sub-member s m))), pairwise_sub R s w.1)

  -- two lists that leave out elements of one without repeats, and have the same members, are one
  pub same_sublists : (l : List A) → Pairwise Distinct l → (j k : List A) → Sublistᴰ j l → Sublistᴰ k l
      → ((x : A) → Memᴰ x j → Memᴰ x k) → ((x : A) → Memᴰ x k → Memᴰ x j) → j ≡ k
  unfolding Pairwise
  same_sublists [] w j k s t up down = Sublistᴰ.eq-nil s ∙ sym (Sublistᴰ.eq-nil t)
  same_sublists (z ∷ l) w j k s t up down =
      ⊎_elim
      (λ a. ⊎_elim (λ b. same_sublists l w.1 j k a b up down) (λ b. absurd (lost (sub-member a (down z (starts b.1))))) (Sublistᴰ.cases_cons t))
      (λ a. ⊎_elim (λ b. absurd (lost (sub-member b (up z (starts a.1)))))
      (λ b. a.1
      ∙ ap (λ (r : List A). z ∷ r)
      (same_sublists l w.1 a.0 b.0 a.2 b.2 (shorter a.1 b.1 a.2 up) (shorter b.1 a.1 b.2 down))
      ∙ sym b.1) (Sublistᴰ.cases_cons t))
      (Sublistᴰ.cases_cons s)
    where
      lost : Memᴰ z l → ⊥
      lost m = w.0 z m refl

      starts : {q r : List A} → q ≡ z ∷ r → Memᴰ z q
      starts e = rw e (mathlib.Core.List.Memᴰ.head refl)

      shorter : {p q r u : List A} → p ≡ z ∷ q → r ≡ z ∷ u → Sublistᴰ q l → ((x : A) → Memᴰ x p → Memᴰ x r) → (x : A) → Memᴰ x q → Memᴰ x u
      shorter {p} {q} {r} {u} e f s h x m =
          let there : Memᴰ x p = rw e (mathlib.Core.List.Memᴰ.tail m) in
          let here : Memᴰ x (z ∷ u) = rw f at (h x there) in
          ⊎_elim (λ d. absurd (lost (mathlib.Core.List.Memᴰ.cast (sym d) (sub-member s m)))) (λ n. n) (mathlib.Core.List.Memᴰ.cases_cons here)
