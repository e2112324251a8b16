-- The list rises in dictionary order of the choices from 0 up, slots before omission, so that no plan stands
-- in it twice.
use mathlib.Core.Path.{◌≡◌, refl, sym}
use mathlib.Core.Bool.{Bool, true, false, cond}
use mathlib.Core.List.Memᴰ
use mathlib.Core.List.{List, [], ◌∷◌, ◌++◌, map, flat_map, Memᴰ}
use mathlib.Core.Logic.{⊎_elim}
use Prim.Native.Nat.{ℕ, zero, suc, ◌+◌, ◌≤◌, ◌<◌}
use native.Mathlib.Decide.{ℕ_discrete, dec_lt}
use native.Mathlib.Nat.{not-suc-le-zero, le_of_suc-le-suc, lt_irrefl}
use native.Mathlib.Omega.{arith}
use lib.ListN.{length, get_or}
use Rattle.base_lists.specs.Keep.{keep}
use Rattle.base_lists.proofs.Keep.{in_map, in_flat_map, kept_in}
use Rattle.plan_check.specs.Day.{Day}
use Rattle.plan_check.specs.Feasible.{feasible}
use Rattle.list_nodes.specs.Placements.{slots_from, places, placements, plans}

-- one plan comes before another in the dictionary: at the first choice where they differ its place does;
-- omission is 255, behind every slot
pub data Before : List ℕ → List ℕ → Type 0 where
  here : {x y : ℕ} {u v : List ℕ} → x < y → Before (x ∷ u) (y ∷ v)
  later : {x : ℕ} {u v : List ℕ} → Before u v → Before (x ∷ u) (x ∷ v)

-- no plan comes before itself
pub not-before_itself : {u v : List ℕ} → Before u v → u ≡ v → ⊥
not-before_itself (here {x} {y} h) e =
    let z : x ≡ y = cc in
    lt_irrefl x (rw (sym z) at h)
not-before_itself (later {x} {u} {v} b) e = not-before_itself b (let z : u ≡ v = cc in z)

-- every element of a list comes before every one behind it
pub data Rises {A : Type 0} (R : A → A → Type 0) : List A → Type 0 where
  none : Rises R []
  more : {x : A} {l : List A} → ((y : A) → Memᴰ y l → R x y) → Rises R l → Rises R (x ∷ l)

-- ---- lists that rise

module _ {A : Type 0} (R : A → A → Type 0) where
  rises-keep : (p : A → Bool) (l : List A) → Rises R l → Rises R (keep p l)
  unfolding keep
  rises-keep p [] r = none
  rises-keep p (x ∷ l) (more h r) = go (p x) (rises-keep p l r)
    where
      go : (b : Bool) → Rises R (keep p l) → Rises R (cond b (x ∷ keep p l) (keep p l))
      go true k = more (λ y m. h y (kept_in p l y m).0) k
      go false k = k

  rises-append : (l m : List A) → Rises R l → Rises R m → ((x y : A) → Memᴰ x l → Memᴰ y m → R x y) → Rises R (l ++ m)
  rises-append [] m r s h = s
  rises-append (x ∷ l) m (more f r) s h =
      more (λ y k. ⊎_elim (f y) (h x y (Memᴰ.head refl)) (Memᴰ.append_cases l k))
      (rises-append l m r s λ a b i j. h a b (Memᴰ.tail i) j)

  -- an element at a lower place comes before one at a higher
  pub rises-at : (l : List A) (d : A) → Rises R l → (i j : ℕ) → i < j → j < length l → R (get_or l i d) (get_or l j d)
  rises-at [] d r i j a b = absurd (not-suc-le-zero b)
  rises-at (x ∷ l) d (more h r) i zero a b = absurd (not-suc-le-zero a)
  rises-at (x ∷ l) d (more h r) zero (suc j) a b = h (get_or l j d) (at_in l j (le_of_suc-le-suc b))
    where
      at_in : (l : List A) (j : ℕ) → j < length l → Memᴰ (get_or l j d) l
      at_in [] j b = absurd (not-suc-le-zero b)
      at_in (x ∷ l) zero b = Memᴰ.head refl
      at_in (x ∷ l) (suc j) b = Memᴰ.tail (at_in l j (le_of_suc-le-suc b))
  rises-at (x ∷ l) d (more h r) (suc i) (suc j) a b = rises-at l d r i j (le_of_suc-le-suc a) (le_of_suc-le-suc b)

module _ {A B : Type 0} (R : A → A → Type 0) (S : B → B → Type 0) where
  rises-map : (f : A → B) → ((x y : A) → R x y → S (f x) (f y)) → (l : List A) → Rises R l → Rises S (map f l)
  rises-map f h [] r = none
  rises-map f h (x ∷ l) (more k r) =
      more {x = f x}
      (λ y m.
      let q = in_map f l y m in
      rw q.2 (h x q.0 (k q.0 q.1)))
      (rises-map f h l r)

  rises_flat_map : (f : A → List B) → ((x : A) → Rises S (f x)) → ((x y : A) → R x y → (u v : B) → Memᴰ u (f x) → Memᴰ v (f y) → S u v)
      → (l : List A) → Rises R l → Rises S (flat_map f l)
  unfolding flat_map
  rises_flat_map f each cross [] r = none
  rises_flat_map f each cross (x ∷ l) (more k r) =
      rises-append S (f x) (flat_map f l) (each x) (rises_flat_map f each cross l r) λ u v i j.
      let q = in_flat_map f l v j in
      cross x q.0 (k q.0 q.1) u v i q.2

-- ---- the places, the placements, the plans

slots-between : (n first slot : ℕ) → Memᴰ slot (slots_from first n) → (first ≤ slot) × (slot < first + n)
unfolding slots_from
slots-between zero first slot m = absurd (Memᴰ.not-nil m)
slots-between (suc n) first slot m =
    ⊎_elim (λ e. (omega (arith, e), omega (arith, e)))
    (λ k. let r = slots-between n (suc first) slot k in (omega (arith, r.0), omega (arith, r.1)))
    (Memᴰ.cases_cons m)

slots-rise : (n first : ℕ) → Rises ◌<◌ (slots_from first n)
unfolding slots_from
slots-rise zero first = none
slots-rise (suc n) first = more {x = first} (λ slot m. omega (arith, (slots-between n (suc first) slot m).0)) (slots-rise n (suc first))

places-rise : (slots : ℕ) → slots ≤ 24 → Rises ◌<◌ (places slots)
unfolding places
places-rise slots h =
    rises-append ◌<◌ (slots_from 0 slots) (255 ∷ []) (slots-rise slots 0) (more (λ y m. absurd (Memᴰ.not-nil m)) none) λ x y i j.
    omega (arith, (slots-between slots 0 x i).1, Memᴰ.eq_of_singleton j)

placements-rise : (slots : ℕ) → slots ≤ 24 → (n : ℕ) → Rises Before (placements slots n)
unfolding placements
placements-rise slots h zero = more (λ y m. absurd (Memᴰ.not-nil m)) none
placements-rise slots h (suc n) =
    rises_flat_map ◌<◌ Before (λ place. map (λ rest. place ∷ rest) (placements slots n))
    (λ place. rises-map Before Before (λ rest. place ∷ rest) (λ u v b. later b) (placements slots n) (placements-rise slots h n))
    (λ x y l u v i j.
    let p = in_map (λ rest. x ∷ rest) (placements slots n) u i in
    let q = in_map (λ rest. y ∷ rest) (placements slots n) v j in
    rw (p.2, q.2) (here l))
    (places slots)
    (places-rise slots h)

module _ (day : Day) (few : day.counts.slots ≤ 24) where
  -- the list is 'in dictionary order of the choices from 0 up, slots before omission'
  pub plans-rise : Rises Before (plans day)
  unfolding plans
  plans-rise = rises-keep Before (feasible day) (placements day.counts.slots day.counts.choices) (placements-rise day.counts.slots few day.counts.choices)

  -- a plan of a lower number comes before one of a higher
  pub plan-before : (i j : ℕ) → i < j → j < length (plans day) → Before (get_or (plans day) i []) (get_or (plans day) j [])
  plan-before i j a b = rises-at Before (plans day) [] plans-rise i j a b

  -- the list has its plans 'each once'
  pub plan-once : (i j : ℕ) → i < length (plans day) → j < length (plans day) → get_or (plans day) i [] ≡ get_or (plans day) j [] → i ≡ j
  plan-once i j a b e =
      elim (ℕ_discrete i j) [
        | yes q ↦ q
        | no n ↦
            elim (dec_lt i j) [
              | yes l ↦ absurd (not-before_itself (plan-before i j l b) e)
              | no m ↦ absurd (not-before_itself (plan-before j i (above n m) a) (sym e))
            ]
      ]
    where
      above : (i ≡ j → ⊥) → (i < j → ⊥) → j < i
      above n m = elim (dec_lt j i) [ yes l ↦ l | no k ↦ absurd (n (omega (arith, m, k))) ]
