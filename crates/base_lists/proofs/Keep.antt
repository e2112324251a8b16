-- Laws of the elements that pass a test, of the first that does, and of sums over a list, with lists joined
-- element by element.
use mathlib.Core.Path.{◌≡◌, refl, sym, ap, fun_ext, ◌∙◌}
use mathlib.Core.Bool.{Bool, true, false, cond, false≢true}
use mathlib.Core.List.Memᴰ
use mathlib.Core.List.{List, [], ◌∷◌, ◌++◌, map, flat_map, append_assoc, Memᴰ}
use mathlib.Core.Logic.{◌⊎◌, ⊎_elim}
use Prim.Native.Nat.{ℕ, zero, suc, ◌+◌, ◌≤◌, ◌<◌}
use native.Mathlib.Numerals.{add-one}
use native.Mathlib.Omega.{arith}
use lib.ListN.{length, get_or, drop, drop_of_length-le, length-append}
use lib.Seq.{drop-cons}
use Rattle.base_lists.specs.Below.{sum_below}
use Rattle.base_lists.specs.Keep.{keep, any_of, sum_over}
use Rattle.base_lists.proofs.Group.{map-append}

-- the search for an element that passes, from place i on
module _ {ℓ} {A : Type ℓ} (p : A → Bool) (xs : List A) where
  pub any_here : (i : ℕ) (d : A) → i < length xs → p (get_or xs i d) ≡ true → any_of p (drop i xs) ≡ true
  unfolding any_of
  any_here i d h e = rw (drop-cons xs i d h, e)

  pub any_on : (i : ℕ) (d : A) → i < length xs → p (get_or xs i d) ≡ false → any_of p (drop i xs) ≡ any_of p (drop (i + 1) xs)
  unfolding any_of
  any_on i d h e = rw (add-one i, drop-cons xs i d h, e)

  pub any_none : (i : ℕ) → length xs ≤ i → any_of p (drop i xs) ≡ false
  unfolding any_of
  any_none i h = rw (drop_of_length-le xs {i = i} h)

-- a function's values over what is left of a list, from place i on
pub map_at {ℓ κ} : {A : Type ℓ} {B : Type κ} (f : A → B) (xs : List A) (i : ℕ) (d : A) → i < length xs → map f (drop i xs) ≡ f (get_or xs i d) ∷ map f (drop (i + 1) xs)
map_at f xs i d h = rw (add-one i, drop-cons xs i d h)

pub drop-at-place {ℓ} : {A : Type ℓ} (xs : List A) (i : ℕ) (d : A) → i < length xs → drop i xs ≡ get_or xs i d ∷ drop (i + 1) xs
drop-at-place xs i d h = drop-cons xs i d h ∙ ap (λ (n : ℕ). get_or xs i d ∷ drop n xs) (sym (add-one i))

-- ---- lists joined element by element

module _ {ℓ κ} {A : Type ℓ} {B : Type κ} where
  pub flat_map_append : (f : A → List B) (l m : List A) → flat_map f (l ++ m) ≡ flat_map f l ++ flat_map f m
  unfolding flat_map
  flat_map_append f [] m = refl
  flat_map_append f (x ∷ l) m = rw (flat_map_append f l m, append_assoc)

  pub flat_map_ext : (f g : A → List B) (l : List A) → ((x : A) → f x ≡ g x) → flat_map f l ≡ flat_map g l
  flat_map_ext f g l h = ap (λ (k : A → List B). flat_map k l) (fun_ext h)

  pub length_flat_map : (f : A → List B) (l : List A) → length (flat_map f l) ≡ sum_over (λ x. length (f x)) l
  unfolding flat_map sum_over
  length_flat_map f [] = refl
  length_flat_map f (x ∷ l) = rw (length-append, length_flat_map f l)

  pub keep-map-none : (p : B → Bool) (f : A → B) (l : List A) → ((x : A) → p (f x) ≡ false) → keep p (map f l) ≡ []
  unfolding keep
  keep-map-none p f [] h = refl
  keep-map-none p f (x ∷ l) h = rw (h x, keep-map-none p f l h)

-- what stands in a joined list, and in a list of values
module _ {ℓ κ} {A : Type ℓ} {B : Type κ} where
  pub in_map : (f : A → B) (l : List A) (y : B) → Memᴰ y (map f l) → (x : A) × Memᴰ x l × (y ≡ f x)
  in_map f [] y m = absurd (Memᴰ.not-nil m)
  in_map f (x ∷ l) y m =
      ⊎_elim (λ e. (x, Memᴰ.head refl, e))
      (λ k. let r = in_map f l y k in (r.0, Memᴰ.tail r.1, r.2))
      (Memᴰ.cases_cons m)

  pub map_in : (f : A → B) (l : List A) (x : A) → Memᴰ x l → Memᴰ (f x) (map f l)
  map_in f [] x m = absurd (Memᴰ.not-nil m)
  map_in f (y ∷ l) x m = ⊎_elim (λ e. Memᴰ.head (ap f e)) (λ k. Memᴰ.tail (map_in f l x k)) (Memᴰ.cases_cons m)

  pub in_flat_map : (f : A → List B) (l : List A) (y : B) → Memᴰ y (flat_map f l) → (x : A) × Memᴰ x l × Memᴰ y (f x)
  unfolding flat_map
  in_flat_map f [] y m = absurd (Memᴰ.not-nil m)
  in_flat_map f (x ∷ l) y m =
      ⊎_elim (λ k. (x, Memᴰ.head refl, k))
      (λ k. let r = in_flat_map f l y k in (r.0, Memᴰ.tail r.1, r.2))
      (Memᴰ.append_cases (f x) m)

  pub flat_map_in : (f : A → List B) (l : List A) (x : A) (y : B) → Memᴰ x l → Memᴰ y (f x) → Memᴰ y (flat_map f l)
  unfolding flat_map
  flat_map_in f [] x y m k = absurd (Memᴰ.not-nil m)
  flat_map_in f (z ∷ l) x y m k =
      ⊎_elim (λ e. Memᴰ.append_left (flat_map f l) (rw e at k)) (λ t. Memᴰ.append_right (f z) (flat_map_in f l x y t k)) (Memᴰ.cases_cons m)

pub map_flat_map {ℓ κ μ} : {A : Type ℓ} {B : Type κ} {C : Type μ} (g : B → C) (f : A → List B) (l : List A) → map g (flat_map f l) ≡ flat_map (λ x. map g (f x)) l
unfolding flat_map
map_flat_map g f [] = refl
map_flat_map g f (x ∷ l) = rw (map-append g (f x) (flat_map f l), map_flat_map g f l)

pub map-map {ℓ κ μ} : {A : Type ℓ} {B : Type κ} {C : Type μ} (g : B → C) (f : A → B) (l : List A) → map g (map f l) ≡ map (λ x. g (f x)) l
map-map g f [] = refl
map-map g f (x ∷ l) = ap (λ k. g (f x) ∷ k) (map-map g f l)

-- ---- what passes a test

module _ {ℓ} {A : Type ℓ} (p : A → Bool) where
  pub keep_append : (l m : List A) → keep p (l ++ m) ≡ keep p l ++ keep p m
  unfolding keep
  keep_append [] m = refl
  keep_append (x ∷ l) m = go (p x) (keep_append l m)
    where
      go : (b : Bool) → keep p (l ++ m) ≡ keep p l ++ keep p m → cond b (x ∷ keep p (l ++ m)) (keep p (l ++ m)) ≡ cond b (x ∷ keep p l) (keep p l) ++ keep p m
      go true ih = ap (λ k. x ∷ k) ih
      go false ih = ih

  pub keep_flat_map {κ} : {B : Type κ} (f : B → List A) (l : List B) → keep p (flat_map f l) ≡ flat_map (λ x. keep p (f x)) l
  unfolding flat_map keep
  keep_flat_map f [] = refl
  keep_flat_map f (x ∷ l) = keep_append (f x) (flat_map f l) ∙ ap (λ k. keep p (f x) ++ k) (keep_flat_map f l)

  -- an element that is kept stands in the list and passes, and the other way
  pub kept_in : (l : List A) (x : A) → Memᴰ x (keep p l) → Memᴰ x l × (p x ≡ true)
  unfolding keep
  kept_in [] x m = absurd (Memᴰ.not-nil m)
  kept_in (y ∷ l) x m = go (p y) refl m (kept_in l x)
    where
      go : (b : Bool) → p y ≡ b → Memᴰ x (cond b (y ∷ keep p l) (keep p l)) → (Memᴰ x (keep p l) → Memᴰ x l × (p x ≡ true)) → Memᴰ x (y ∷ l) × (p x ≡ true)
      go true e m ih = ⊎_elim (λ q. (Memᴰ.head q, ap p q ∙ e)) (λ k. (Memᴰ.tail (ih k).0, (ih k).1)) (Memᴰ.cases_cons m)
      go false e m ih = (Memᴰ.tail (ih m).0, (ih m).1)

  pub in_kept : (l : List A) (x : A) → Memᴰ x l → p x ≡ true → Memᴰ x (keep p l)
  unfolding keep
  in_kept [] x m t = absurd (Memᴰ.not-nil m)
  in_kept (y ∷ l) x m t = go (p y) refl (Memᴰ.cases_cons m) (λ k. in_kept l x k t)
    where
      go : (b : Bool) → p y ≡ b → (x ≡ y) ⊎ Memᴰ x l → (Memᴰ x l → Memᴰ x (keep p l)) → Memᴰ x (cond b (y ∷ keep p l) (keep p l))
      go true e m ih = ⊎_elim (λ q. Memᴰ.head q) (λ k. Memᴰ.tail (ih k)) m
      go false e m ih = ⊎_elim (λ q. absurd (false≢true (sym e ∙ ap p (sym q) ∙ t))) ih m

-- ---- sums over a list

module _ {ℓ} {A : Type ℓ} where
  pub sum_over_ext : (f g : A → ℕ) (l : List A) → ((x : A) → f x ≡ g x) → sum_over f l ≡ sum_over g l
  sum_over_ext f g l h = ap (λ (k : A → ℕ). sum_over k l) (fun_ext h)

  pub sum_over_le : (f g : A → ℕ) (l : List A) → ((x : A) → f x ≤ g x) → sum_over f l ≤ sum_over g l
  unfolding sum_over
  sum_over_le f g [] h = omega arith
  sum_over_le f g (x ∷ l) h = omega (arith, h x, sum_over_le f g l h)

  sum_over-zero : (l : List A) → sum_over (λ x. 0) l ≡ 0
  unfolding sum_over
  sum_over-zero [] = refl
  sum_over-zero (x ∷ l) = rw (sum_over-zero l)

  sum_over-add : (f g : A → ℕ) (l : List A) → sum_over (λ x. f x + g x) l ≡ sum_over f l + sum_over g l
  unfolding sum_over
  sum_over-add f g [] = refl
  sum_over-add f g (x ∷ l) = rw (sum_over-add f g l) (omega arith)

  -- a sum of sums is the same in either order
  pub sum_swap : (n : ℕ) (f : ℕ → A → ℕ) (l : List A) → sum_below n (λ k. sum_over (f k) l) ≡ sum_over (λ x. sum_below n (λ k. f k x)) l
  unfolding sum_below
  sum_swap zero f l = sym (sum_over-zero l)
  sum_swap (suc n) f l = rw (sum_swap n f l) (sym (sum_over-add (λ x. sum_below n λ k. f k x) (f n) l))
