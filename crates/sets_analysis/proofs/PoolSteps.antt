-- The sets at the front of two pools: read, written, and with zeros after them.
use mathlib.Core.Path.{◌≡◌, refl, sym, ◌∙◌, ap, ap₂}
use mathlib.Core.List.{List, [], ◌∷◌, ◌++◌, map, append-nil}
use Prim.Native.Nat.{ℕ, zero, suc, ◌+◌, ◌-◌, ◌≤◌, ◌<◌}
use native.Mathlib.Omega.{arith}
use borrow.Rule.Slice.PartMut.{put_mid, mid_of, Post-is, mid_len}
use lib.ListN.{length, get_or, take, drop, set, replicate, length-append, length-drop, get_or-append}
use lib.Seq.{get_or-set_same, get_or-set_other, get_or-take, length-take-le, drop-length}
use Rattle.base_lists.specs.Flat.{list_below}
use Rattle.base_lists.specs.Pool.{pad}
use Rattle.base_lists.proofs.Flat.{list-more, length-list, get_d_list, list_ext, list_back}
use Rattle.base_lists.proofs.Group.{map-append}
use Rattle.sets_analysis.specs.Kept.{CriticalSet, critical_set, no_set}
use Rattle.sets_analysis.specs.Calls.{pools, sets_in, sets_of, filled}
use Rattle.sets_analysis.specs.steps.Pools.{Lent, Front, cleared_past}

module _ (count : ℕ) (masks levels : List ℕ) where
  pub sets-length : length (sets_in count masks levels) ≡ count
  unfolding sets_in
  sets-length = length-list count λ i. critical_set (get_or levels i 0) (get_or masks i 0)

  pub sets-within : (i : ℕ) → i < count → i < length (sets_in count masks levels)
  sets-within i h = rw sets-length h

  pub sets-past : (i : ℕ) → count ≤ i → length (sets_in count masks levels) ≤ i
  sets-past i h = rw sets-length h

  pub sets-at : (i : ℕ) → i < count → get_or (sets_in count masks levels) i no_set ≡ critical_set (get_or levels i 0) (get_or masks i 0)
  unfolding sets_in
  sets-at i h = get_d_list count (λ i. critical_set (get_or levels i 0) (get_or masks i 0)) i no_set h

  pub sets_more : sets_in (count + 1) masks levels ≡ sets_in count masks levels ++ (critical_set (get_or levels count 0) (get_or masks count 0) ∷ [])
  unfolding sets_in
  sets_more = list-more count λ i. critical_set (get_or levels i 0) (get_or masks i 0)

-- pools that agree on the first sets hold the same ones
pub sets_ext : (count : ℕ) (masks levels masks' levels' : List ℕ) → ((k : ℕ) → k < count → get_or masks k 0 ≡ get_or masks' k 0)
    → ((k : ℕ) → k < count → get_or levels k 0 ≡ get_or levels' k 0) → sets_in count masks levels ≡ sets_in count masks' levels'
unfolding sets_in
sets_ext count masks levels masks' levels' h k =
    list_ext count (λ i. critical_set (get_or levels i 0) (get_or masks i 0)) (λ i. critical_set (get_or levels' i 0) (get_or masks' i 0)) λ i l.
    ap₂ (λ (x y : ℕ). critical_set x y) (k i l) (h i l)

-- the first sets of two pools are all the sets of their first entries
pub sets-front : (count : ℕ) (masks levels : List ℕ) → count ≤ length masks → sets_of (take count masks) (take count levels) ≡ sets_in count masks levels
sets-front count masks levels h =
    ap (λ (n : ℕ). sets_in n (take count masks) (take count levels)) (length-take-le count masks h)
    ∙ sets_ext count (take count masks) (take count levels) masks levels (λ k l. get_or-take count masks k 0 l) (λ k l. get_or-take count levels k 0 l)

-- pools that are lent have a front of so many sets
pub front-of : {count : ℕ} {masks levels : List ℕ} → Lent count masks levels → Front (take count masks) (take count levels)
front-of {count} {masks} {levels} l =
    let m : length (take count masks) ≡ count = length-take-le count masks (omega (arith, l.few, l.masks-full)) in
    let n : length (take count levels) ≡ count = length-take-le count levels (omega (arith, l.few, l.levels-full)) in
    record { paired = n ∙ sym m; few = omega (arith, m, l.few) }

-- two pools whose first entries were handed on and came back as others
module _ (kept : ℕ) (masks levels : List ℕ) (within : kept ≤ length masks) (within' : kept ≤ length levels) (part part' : List ℕ)
    (same : length part ≡ length (take kept masks)) (same' : length part' ≡ length (take kept levels)) where
  pub back-masks : length (part ++ drop kept masks) ≡ length masks
  back-masks = let n : length part ≡ kept = same ∙ length-take-le kept masks within in simp (length-append, length-drop) (omega arith)

  pub back-levels : length (part' ++ drop kept levels) ≡ length levels
  back-levels = let n : length part' ≡ kept = same' ∙ length-take-le kept levels within' in simp (length-append, length-drop) (omega arith)

  -- what holds of the sets that came back holds of the pools' first sets
  pub back-sets : (count : ℕ) (f : List CriticalSet → List CriticalSet)
      → (count ≤ length (take kept masks)) × (sets_in count part part' ≡ f (sets_of (take kept masks) (take kept levels)))
      → (count ≤ kept) × (sets_in count (part ++ drop kept masks) (part' ++ drop kept levels) ≡ f (sets_in kept masks levels))
  back-sets count f e =
      let few : count ≤ kept = omega (arith, e.0, length-take-le kept masks within) in
      let n : length part ≡ kept = same ∙ length-take-le kept masks within in
      let n' : length part' ≡ kept = same' ∙ length-take-le kept levels within' in (
        few,
        sets_ext count (part ++ drop kept masks) (part' ++ drop kept levels) part part' (λ i l. get_or-append part (drop kept masks) 0 i (omega arith)) (λ i l. get_or-append part' (drop kept levels) 0 i (omega arith))
            ∙ e.1
            ∙ ap f (sets-front kept masks levels within),
      )

-- pools that were written are lent as they were, with room for the sets that are there then
pub lent-on : {masks₀ levels₀ : List ℕ} (count : ℕ) (masks levels : List ℕ) → Lent 0 masks₀ levels₀ → length masks ≡ length masks₀ → length levels ≡ length levels₀ → count ≤ 1024 → Lent count masks levels
lent-on count masks levels l same same' few =
    record { masks-full = same ∙ l.masks-full; levels-full = same' ∙ l.levels-full; few = few }

-- so are pools whose first sets were handed on
module _ {kept : ℕ} {masks levels : List ℕ} (l : Lent kept masks levels) (count : ℕ) (part part' : List ℕ)
    (same : length part ≡ length (take kept masks)) (same' : length part' ≡ length (take kept levels)) where
  within-masks : kept ≤ length masks
  within-masks = omega (arith, l.few, l.masks-full)

  within-levels : kept ≤ length levels
  within-levels = omega (arith, l.few, l.levels-full)

  pub lent-back : count ≤ length (take kept masks) → Lent count (part ++ drop kept masks) (part' ++ drop kept levels)
  lent-back few =
      let n : length (take kept masks) ≡ kept = length-take-le kept masks within-masks in
      record {
        masks-full = back-masks kept masks levels within-masks within-levels part part' same same' ∙ l.masks-full;
        levels-full = back-levels kept masks levels within-masks within-levels part part' same same' ∙ l.levels-full;
        few = omega (arith, l.few);
      }

  pub sets-back : (f : List CriticalSet → List CriticalSet)
      → (count ≤ length (take kept masks)) × (sets_in count part part' ≡ f (sets_of (take kept masks) (take kept levels)))
      → (count ≤ kept) × (sets_in count (part ++ drop kept masks) (part' ++ drop kept levels) ≡ f (sets_in kept masks levels))
  sets-back f = back-sets kept masks levels within-masks within-levels part part' same same' count f

-- what is told of such a front is told of the pools' first sets
pub front-told : {A : Type 0} (f : List CriticalSet → A) {count : ℕ} {masks levels : List ℕ} {a : A} → Lent count masks levels → a ≡ f (sets_of (take count masks) (take count levels))
    → a ≡ f (sets_in count masks levels)
front-told f {count} {masks} {levels} l e = e ∙ ap f (sets-front count masks levels (omega (arith, l.few, l.masks-full)))

-- a set written after the others is the next set of the pools
pub sets-put : (count : ℕ) (masks levels : List ℕ) (level members : ℕ) → count < length masks → count < length levels
    → sets_in (count + 1) (set masks count members) (set levels count level) ≡ sets_in count masks levels ++ (critical_set level members ∷ [])
sets-put count masks levels level members h k =
    sets_more count (set masks count members) (set levels count level)
    ∙ ap₂ (λ (l : List CriticalSet) (s : CriticalSet). l ++ (s ∷ []))
    (sets_ext count (set masks count members) (set levels count level) masks levels (λ i l. get_or-set_other masks count i members 0 (λ e. omega arith)) (λ i l. get_or-set_other levels count i level 0 (λ e. omega arith)))
    (ap₂ (λ (x y : ℕ). critical_set x y) (get_or-set_same levels count level 0 k) (get_or-set_same masks count members 0 h))

map-list {ℓ κ} : {A : Type ℓ} {B : Type κ} (g : A → B) (n : ℕ) (f : ℕ → A) → map g (list_below n f) ≡ list_below n λ i. g (f i)
unfolding list_below
map-list g zero f = refl
map-list g (suc n) f = map-append g (list_below n f) (f n ∷ []) ∙ ap (λ l. l ++ (g (f n) ∷ [])) (map-list g n f)

first-ones : (n : ℕ) (l : List ℕ) → n ≤ length l → list_below n (λ i. get_or l i 0) ≡ take n l
first-ones n l h =
    list_ext n (λ i. get_or l i 0) (λ i. get_or (take n l) i 0) (λ i k. sym (get_or-take n l i 0 k))
    ∙ list_back (take n l) n 0 (length-take-le n l h)

-- the pools' first entries are the members and the levels of the sets
pub sets-members : (count : ℕ) (masks levels : List ℕ) → count ≤ length masks → map (λ s. s.members) (sets_in count masks levels) ≡ take count masks
unfolding sets_in
sets-members count masks levels h =
    map-list (λ s. s.members) count (λ i. critical_set (get_or levels i 0) (get_or masks i 0)) ∙ first-ones count masks h

pub sets-levels : (count : ℕ) (masks levels : List ℕ) → count ≤ length levels → map (λ s. s.level) (sets_in count masks levels) ≡ take count levels
unfolding sets_in
sets-levels count masks levels h =
    map-list (λ s. s.level) count (λ i. critical_set (get_or levels i 0) (get_or masks i 0)) ∙ first-ones count levels h

cleared-pad : (count : ℕ) (pool l : List ℕ) → count ≤ length pool → l ≡ take count pool → cleared_past count pool ≡ pad 1024 l
unfolding cleared_past pad
cleared-pad count pool l h e = rw (e, length-take-le count pool h)

-- pools that hold sets at their front, and then zeros, are filled with the sets
pub filled-by : (count : ℕ) (masks levels : List ℕ) (sets : List CriticalSet) → count ≤ length masks → count ≤ length levels → sets_in count masks levels ≡ sets
    → pools (cleared_past count masks) (cleared_past count levels) ≡ filled sets
unfolding filled
filled-by count masks levels sets h k e =
    ap₂ pools
    (cleared-pad count masks (map (λ s. s.members) sets) h (ap (map (λ (s : CriticalSet). s.members)) (sym e) ∙ sets-members count masks levels h))
    (cleared-pad count levels (map (λ s. s.level) sets) k (ap (map (λ (s : CriticalSet). s.level)) (sym e) ∙ sets-levels count masks levels k))

-- a pool whose part from a place on was zeroed has zeros past that place
pub cleared-part : (count : ℕ) (pool cleared : List ℕ) → count ≤ length pool → length pool ≡ 1024 → cleared ≡ replicate (length (mid_of count (length pool - count) pool)) 0
    → put_mid count (length pool - count) pool cleared ≡ cleared_past count pool
unfolding cleared_past
cleared-part count pool cleared h full e =
    let k : length (mid_of count (length pool - count) pool) ≡ length pool - count = mid_len count (length pool) pool (omega arith) in
    ap (λ (z : List ℕ). take count pool ++ (cleared ++ z)) (Post-is count (length pool) pool h ∙ drop-length pool)
    ∙ ap (λ (z : List ℕ). take count pool ++ z) (append-nil cleared ∙ e ∙ ap (λ (n : ℕ). replicate n 0) (k ∙ ap (λ (n : ℕ). n - count) full))
