-- The classes of a function that keeps its values are a partition: each number stands in one class, once, and
-- in order.
use mathlib.Core.Path.{◌≡◌, refl, sym, ap, ap₂, subst, ◌∙◌}
use mathlib.Core.Bool.{Bool, true, false, cond, ◌&&◌}
use mathlib.Core.List.Memᴰ
use mathlib.Core.List.{List, [], ◌∷◌, ◌++◌, append-nil, map, flatten, Memᴰ}
use mathlib.Core.Logic.{◌↔◌, ⊎_elim}
use Prim.Native.Nat.{ℕ, zero, suc, ◌+◌, ◌≤◌, ◌<◌}
use native.Mathlib.Decide.{ℕ_discrete}
use native.Mathlib.Nat.{add_assoc, zero-add, add-zero, not-suc-le-zero, eq-or-lt_of_le, le_of_suc-le-suc}
use native.Mathlib.Omega.{arith}
use borrow.Author.Tests.{lt-ltb, le-ltb, ltb-true, ltb-false, eq-eqb, ne_eqb, eqb-true}
use lib.Arith.{lt_of_le-ne}
use lib.Dec.{eqb, ltb}
use lib.ListN.{length, get_or}
use Rattle.base_lists.specs.Below.{one}
use Rattle.base_lists.specs.Group.{keep_below, class_of, heads, classes, times_in}
use Rattle.base_lists.specs.Sorted.{Rises}
use Rattle.base_lists.proofs.Sorted.{rises_snoc}

-- ---- what is kept

-- a number is kept exactly if it is below the bound and passes
pub kept : (n : ℕ) (p : ℕ → Bool) (x : ℕ) → Memᴰ x (keep_below n p) → (x < n) × (p x ≡ true)
unfolding keep_below
kept zero p x m = absurd (Memᴰ.not-nil m)
kept (suc n) p x m = ⊎_elim
    (λ k. let h = kept n p x k in (omega arith, h.1))
    (λ k. last (p n) refl k)
    (Memᴰ.append_cases (keep_below n p) m)
  where
    last : (b : Bool) → p n ≡ b → Memᴰ x (cond b (n ∷ []) []) → (x < suc n) × (p x ≡ true)
    last true t k =
        let e = Memᴰ.eq_of_singleton k in
        (omega arith, ap p e ∙ t)
    last false t k = absurd (Memᴰ.not-nil k)

pub keeps : (n : ℕ) (p : ℕ → Bool) (x : ℕ) → x < n → p x ≡ true → Memᴰ x (keep_below n p)
unfolding keep_below
keeps zero p x l e = absurd (not-suc-le-zero l)
keeps (suc n) p x l e = ⊎_elim
    (λ k. let t : p n ≡ true = sym (ap p k) ∙ e in Memᴰ.append_right (keep_below n p) (rw t (Memᴰ.head k)))
    (λ k. Memᴰ.append_left _ (keeps n p x k e))
    (eq-or-lt_of_le (le_of_suc-le-suc l))

-- an entry of a list is a member of it; the numbers kept by a test rise
pub get_d_in {ℓ} : {A : Type ℓ} (l : List A) (i : ℕ) (d : A) → i < length l → Memᴰ (get_or l i d) l
get_d_in [] i d h = absurd (not-suc-le-zero h)
get_d_in (x ∷ l) zero d h = Memᴰ.head refl
get_d_in (x ∷ l) (suc i) d h = Memᴰ.tail (get_d_in l i d (le_of_suc-le-suc h))

pub keep-rises : (n : ℕ) (p : ℕ → Bool) → Rises (keep_below n p)
unfolding keep_below
keep-rises zero p = unfold Rises in tt
keep-rises (suc n) p = go (p n) (keep-rises n p)
  where
    go : (b : Bool) → Rises (keep_below n p) → Rises (keep_below n p ++ cond b (n ∷ []) [])
    go true ih = rises_snoc (keep_below n p) n ih (λ x m. (kept n p x m).0)
    go false ih = rw append-nil ih

-- ---- how often a number stands in a list

times_append : (x : ℕ) (l m : List ℕ) → times_in x (l ++ m) ≡ times_in x l + times_in x m
unfolding times_in
times_append x [] m = sym (zero-add _)
times_append x (y ∷ l) m = rw (times_append x l m, add_assoc)

-- a number stands among the kept ones once if it is kept, else not at all
pub times_keep : (n : ℕ) (p : ℕ → Bool) (x : ℕ) → times_in x (keep_below n p) ≡ one (ltb x n && p x)
unfolding keep_below times_in one
times_keep zero p x = rw (le-ltb x 0 (omega arith))
times_keep (suc n) p x =
    times_append x (keep_below n p) _ ∙ elim (ℕ_discrete x n) [
      | yes e ↦ rw (times_keep n p x, le-ltb x n (omega arith), lt-ltb x (suc n) (omega arith), e) (here (p n))
      | no m ↦ rw (times_keep n p x, other (p n) m, same m) (add-zero _)
    ]
  where
    here : (b : Bool) → 0 + times_in n (cond b (n ∷ []) []) ≡ one b
    here true = rw (eq-eqb n n refl)
    here false = refl

    other : (b : Bool) → (x ≡ n → ⊥) → times_in x (cond b (n ∷ []) []) ≡ 0
    other true m = rw (ne_eqb x n m)
    other false m = refl

    same : (x ≡ n → ⊥) → ltb x (suc n) ≡ ltb x n
    same m = go (ltb x n) refl
      where
        go : (b : Bool) → ltb x n ≡ b → ltb x (suc n) ≡ ltb x n
        go true t = rw (t, lt-ltb x (suc n) (omega (arith, ltb-true x n t)))
        go false t = rw (t, le-ltb x (suc n) (lt_of_le-ne (ltb-false x n t) (λ z. m (sym z))))

module _ (n : ℕ) (f : ℕ → ℕ) where
  times_class : (r x : ℕ) → times_in x (class_of n f r) ≡ one (ltb x n && eqb (f x) r)
  unfolding class_of
  times_class r x = times_keep n (λ i. eqb (f i) r) x

  times_flat : (rs : List ℕ) (x : ℕ) → x < n → times_in x (flatten (map (class_of n f) rs)) ≡ times_in (f x) rs
  unfolding flatten times_in
  times_flat [] x l = refl
  times_flat (r ∷ rs) x l =
      times_append x (class_of n f r) _ ∙ rw (times_class r x, lt-ltb x n l, times_flat rs x l)

  times_out : (rs : List ℕ) (x : ℕ) → n ≤ x → times_in x (flatten (map (class_of n f) rs)) ≡ 0
  unfolding flatten times_in one
  times_out [] x l = refl
  times_out (r ∷ rs) x l =
      times_append x (class_of n f r) _ ∙ rw (times_class r x, le-ltb x n l, times_out rs x l)

-- ---- the classes of a function that keeps its values

-- each number's value is a number below the bound that is its own value
unfoldable pub Keeps : ℕ → (ℕ → ℕ) → Type 0
Keeps n f = (i : ℕ) → i < n → (f i < n) × (f (f i) ≡ f i)

-- membership in what a map gives
in_map {ℓ κ} : {A : Type ℓ} {B : Type κ} (f : A → B) (l : List A) {y : B} → Memᴰ y (map f l) → (x : A) × Memᴰ x l × (y ≡ f x)
in_map f [] m = absurd (Memᴰ.not-nil m)
in_map f (x ∷ l) m = ⊎_elim
    (λ e. (x, Memᴰ.head refl, e))
    (λ k. let h = in_map f l k in (h.0, Memᴰ.tail h.1, h.2))
    (Memᴰ.cases_cons m)

map_in {ℓ κ} : {A : Type ℓ} {B : Type κ} (f : A → B) {x : A} {l : List A} → Memᴰ x l → Memᴰ (f x) (map f l)
map_in f (Memᴰ.head e) = Memᴰ.head (ap f e)
map_in f (Memᴰ.tail m) = Memᴰ.tail (map_in f m)

module _ (n : ℕ) (f : ℕ → ℕ) where
  -- a class has exactly the numbers of its value
  pub class_has : (r x : ℕ) → Memᴰ x (class_of n f r) ↔ ((x < n) × (f x ≡ r))
  unfolding class_of
  class_has r x = (λ m. let k = kept n _ x m in (k.0, eqb-true _ _ k.1), λ h. keeps n _ x h.0 (eq-eqb _ _ h.1))

  head-has : (r : ℕ) → Memᴰ r (heads n f) ↔ ((r < n) × (f r ≡ r))
  unfolding heads
  head-has r = (λ m. let k = kept n _ r m in (k.0, eqb-true _ _ k.1), λ h. keeps n _ r h.0 (eq-eqb _ _ h.1))

  -- the classes are those of the numbers that are their own value
  pub class_is : {g : List ℕ} → Memᴰ g (classes n f) → (r : ℕ) × ((r < n) × (f r ≡ r)) × (g ≡ class_of n f r)
  unfolding classes
  class_is m =
      let h = in_map (class_of n f) (heads n f) m in
      (h.0, (head-has h.0).0 h.1, h.2)

  -- two numbers are in one class exactly if they have one value
  pub one_class : {g : List ℕ} → Memᴰ g (classes n f) → (i j : ℕ) → Memᴰ i g → Memᴰ j g ↔ ((j < n) × (f j ≡ f i))
  one_class m i j k =
      let h = class_is m in
      let v = (class_has h.0 i).0 (subst (Memᴰ i) h.2 k) in (
        λ e. let w = (class_has h.0 j).0 (subst (Memᴰ j) h.2 e) in (w.0, w.1 ∙ sym v.1),
        λ e. subst (Memᴰ j) (sym h.2) ((class_has h.0 j).1 (e.0, e.1 ∙ v.1)),
      )

  -- each class rises
  pub class_rises : {g : List ℕ} → Memᴰ g (classes n f) → Rises g
  class_rises m =
      let h = class_is m in
      subst Rises (sym h.2) (unfold class_of in keep-rises n _)

  -- the values of the classes rise
  pub heads-rise : Rises (heads n f)
  unfolding heads
  heads-rise = keep-rises n _

  names : (rs : List ℕ) → ((r : ℕ) → Memᴰ r rs → (r < n) × (f r ≡ r)) → map (λ g. f (get_or g 0 0)) (map (class_of n f) rs) ≡ rs
  names [] h = refl
  names (r ∷ rs) h =
      let k = (class_has r r).1 (h r (Memᴰ.head refl)) in
      ap₂ (λ (x : ℕ) (l : List ℕ). x ∷ l) ((class_has r _).0 (get_d_in (class_of n f r) 0 0 (some k))).1 (names rs (λ q m. h q (Memᴰ.tail m)))
    where
      some : {x : ℕ} {l : List ℕ} → Memᴰ x l → 0 < length l
      some (Memᴰ.head e) = omega arith
      some (Memᴰ.tail m) = omega arith

  -- the classes go by rising value: the value of each one's first member
  pub classes-names : map (λ g. f (get_or g 0 0)) (classes n f) ≡ heads n f
  unfolding classes
  classes-names = names (heads n f) (λ r m. (head-has r).0 m)

  -- no number past the bound stands in a class
  pub classes-none : (x : ℕ) → n ≤ x → times_in x (flatten (classes n f)) ≡ 0
  unfolding classes
  classes-none x l = times_out n f (heads n f) x l

  module _ (k : Keeps n f) where
    -- each number below the bound stands in the classes exactly once
    pub classes-once : (x : ℕ) → x < n → times_in x (flatten (classes n f)) ≡ 1
    unfolding Keeps classes heads one
    classes-once x l =
        let h = k x l in
        times_flat n f (heads n f) x l ∙ times_keep n (λ r. eqb (f r) r) (f x) ∙ rw (lt-ltb _ _ h.0, eq-eqb _ _ h.1)

    -- the class of a number's value is one of the classes
    pub class_there : (x : ℕ) → x < n → Memᴰ (class_of n f (f x)) (classes n f)
    unfolding Keeps classes
    class_there x l = map_in (class_of n f) ((head-has (f x)).1 (k x l))
