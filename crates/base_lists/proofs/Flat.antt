-- Laws of lists made by place, of joined lists, and of the windows in which their parts stand.
use mathlib.Core.Path.{◌≡◌, refl, sym, ◌∙◌}
use mathlib.Core.List.{List, [], ◌∷◌, ◌++◌, append_assoc}
use Prim.Native.Nat.{ℕ, zero, suc, ◌+◌, ◌*◌, ◌≤◌, ◌<◌}
use native.Mathlib.Decide.{ℕ_discrete}
use native.Mathlib.Nat.{not-suc-le-zero, mul-suc, mul-zero}
use native.Mathlib.Numerals.{add-one}
use native.Mathlib.Omega.{arith}
use lib.ListN.{length, get_or, take, drop, set, length-append, get_or-append}
use lib.Seq.{get_or_at, ext_get_or, take-suc-set, take-length, take_at, drop_at, take-add, drop-drop, drop-append-add}
use Rattle.base_lists.specs.Pool.{window}
use Rattle.base_lists.specs.Flat.{list_below, join_below}

module _ {ℓ} {A : Type ℓ} where
  -- a list made by place, and joined lists, with one more, the bound written as the code's i + 1
  pub list-more : (i : ℕ) (f : ℕ → A) → list_below (i + 1) f ≡ list_below i f ++ (f i ∷ [])
  unfolding list_below
  list-more i f = rw add-one

  pub join_more : (i : ℕ) (f : ℕ → List A) → join_below (i + 1) f ≡ join_below i f ++ f i
  unfolding join_below
  join_more i f = rw add-one

  pub length-list : (n : ℕ) (f : ℕ → A) → length (list_below n f) ≡ n
  unfolding list_below
  length-list zero f = refl
  length-list (suc n) f = rw (length-append (list_below n f) (f n ∷ []), length-list n f) (omega arith)

  pub get_d_list : (n : ℕ) (f : ℕ → A) (i : ℕ) (d : A) → i < n → get_or (list_below n f) i d ≡ f i
  unfolding list_below
  get_d_list zero f i d h = absurd (not-suc-le-zero h)
  get_d_list (suc n) f i d h =
      elim (ℕ_discrete i n) [
        | yes e ↦ rw e (get_or_at (list_below n f) (f n) [] d n (length-list n f))
        | no e ↦ get_or-append (list_below n f) (f n ∷ []) d i (rw length-list (omega arith)) ∙ get_d_list n f i d (omega arith)
      ]

  -- functions that agree below the bound give one list
  pub list_ext : (n : ℕ) (f g : ℕ → A) → ((i : ℕ) → i < n → f i ≡ g i) → list_below n f ≡ list_below n g
  unfolding list_below
  list_ext zero f g h = refl
  list_ext (suc n) f g h = rw (list_ext n f g (λ i k. h i (omega arith)), h n (omega arith))

  pub join_ext : (n : ℕ) (f g : ℕ → List A) → ((i : ℕ) → i < n → f i ≡ g i) → join_below n f ≡ join_below n g
  unfolding join_below
  join_ext zero f g h = refl
  join_ext (suc n) f g h = rw (join_ext n f g (λ i k. h i (omega arith)), h n (omega arith))

  -- a list is the list of its entries
  pub list_back : (l : List A) (n : ℕ) (d : A) → length l ≡ n → list_below n (λ i. get_or l i d) ≡ l
  list_back l n d e =
      ext_get_or d (list_below n (λ i. get_or l i d)) l (length-list n (λ i. get_or l i d) ∙ sym e)
      (λ i h. get_d_list n (λ i. get_or l i d) i d (rw length-list at h))

  -- the length of joined lists of one width
  pub length_join : (n w : ℕ) (f : ℕ → List A) → ((i : ℕ) → i < n → length (f i) ≡ w) → length (join_below n f) ≡ w * n
  unfolding join_below
  length_join zero w f h = sym (mul-zero w)
  length_join (suc n) w f h =
      rw (length-append (join_below n f) (f n), length_join n w f (λ i k. h i (omega arith)), h n (omega arith), mul-suc) (omega arith)

  pub window-split : (a m n : ℕ) (l : List A) → window a (m + n) l ≡ window a m l ++ window (a + m) n l
  unfolding window
  window-split a m n l = rw (take-add m n (drop a l), drop-drop m a l)

  pub window-all : (l : List A) (n : ℕ) → length l ≡ n → window 0 n l ≡ l
  unfolding window
  window-all l n e = rw (sym e) (take-length l)

  -- a window past the first list
  pub window_skip : (p l : List A) (k a w : ℕ) → length p ≡ k → window (k + a) w (p ++ l) ≡ window a w l
  unfolding window
  window_skip p l k a w e = rw (sym e, drop-append-add p l a)

  -- a window that is the first list
  pub window-first : (p l : List A) (w : ℕ) → length p ≡ w → window 0 w (p ++ l) ≡ p
  unfolding window
  window-first p l w e = take_at p l w e

  -- the i-th of the joined lists stands in the i-th window
  pub window_join : (n w : ℕ) (f : ℕ → List A) (q : List A) → ((i : ℕ) → i < n → length (f i) ≡ w)
      → (i : ℕ) → i < n → window (w * i) w (join_below n f ++ q) ≡ f i
  unfolding join_below window
  window_join zero w f q h i k = absurd (not-suc-le-zero k)
  window_join (suc n) w f q h i k =
      rw (append_assoc (join_below n f) (f n) q)
      (elim (ℕ_discrete i n) [
        | yes e ↦ rw (e, drop_at (join_below n f) (f n ++ q) (w * n) (length_join n w f (λ j m. h j (omega arith)))) (take_at (f n) q w (h n (omega arith)))
        | no e ↦ window_join n w f (f n ++ q) (λ j m. h j (omega arith)) i (omega arith)
      ])

  -- lists that each stand in a window of one width, side by side, join to the whole window
  pub join_windows : (n w : ℕ) (f : ℕ → List A) (a : ℕ) (l : List A) → ((i : ℕ) → i < n → f i ≡ window (a + w * i) w l)
      → join_below n f ≡ window a (w * n) l
  unfolding join_below window
  join_windows zero w f a l h = rw mul-zero
  join_windows (suc n) w f a l h =
      rw (mul-suc, join_windows n w f a l (λ i k. h i (omega arith)), h n (omega arith)) (sym (window-split a (w * n) w l))

-- a pool filled from the front with a function's values: at the start, and with one entry more
pub fill_start : (f : ℕ → ℕ) → [] ≡ list_below 0 f
unfolding list_below
fill_start f = refl

pub fill_next : (f : ℕ → ℕ) (pool : List ℕ) (i v : ℕ) → i < length pool → take i pool ≡ list_below i f → v ≡ f i
    → take (i + 1) (set pool i v) ≡ list_below (i + 1) f
fill_next f pool i v h t e = rw (list-more i f, add-one i, take-suc-set pool i v h, t, e)

-- a pool filled from the front, where the loop is left: every entry is in it
pub fill_done : (f : ℕ → ℕ) (pool : List ℕ) (n i : ℕ) → i ≤ n → n ≤ i → take i pool ≡ list_below i f → take n pool ≡ list_below n f
fill_done f pool n i a b t =
    let e : i ≡ n = omega arith in
    rw e at t
