-- The climb to the root: where it starts from it ends, its steps, and the root it gives.
use mathlib.Core.Path.{◌≡◌, refl, sym}
use mathlib.Core.Bool.{true, false, and-false}
use mathlib.Core.List.{List}
use Prim.Native.Nat.{ℕ, zero, suc, ◌+◌, ◌-◌, ◌≤◌, ◌<◌}
use native.Mathlib.Decide.{ℕ_discrete}
use native.Mathlib.Omega.{arith}
use borrow.Author.Tests.{lt-ltb, le-ltb, eq-eqb, ne_eqb}
use lib.ListN.{get_or}
use Rattle.reduce_union_find.specs.declared.UnionFind.{UnionFind}
use Rattle.day_rows.specs.Told.{done, refuse}
use Rattle.reduce_union_find.specs.State.{parent_of, height_of, climb, root_of, taken, find_of}
use Rattle.reduce_union_find.specs.steps.Climbs.{Ends, Fits}
use Rattle.reduce_union_find.proofs.Entry.{Sound, sound_of}

-- a climb that ends starts within the entries
pub ends_in : (n : ℕ) (ps : List ℕ) (i : ℕ) → Ends n ps i → i < 64
unfolding Ends
ends_in zero ps i h = h.0
ends_in (suc n) ps i h = h.0

-- at a root the climb stays
pub climb-here : (n : ℕ) (ps : List ℕ) (i : ℕ) → get_or ps i 0 ≡ 255 → climb n ps i ≡ i
unfolding climb
climb-here zero ps i e = refl
climb-here (suc n) ps i e = rw (eq-eqb _ _ e)

-- away from a root the climb goes on from the parent, with one step less
pub climb-up : (n : ℕ) (ps : List ℕ) (i : ℕ) → (get_or ps i 0 ≡ 255 → ⊥) → climb (suc n) ps i ≡ climb n ps (get_or ps i 0)
unfolding climb
climb-up n ps i h = rw (ne_eqb _ _ h)

-- the step of the code: from the parent, with one step more climbed
pub record Next (s : ℕ) (ps : List ℕ) (i : ℕ) : Type 0 where
  pub room : s < 64
  pub ends : Ends (64 - (s + 1)) ps (get_or ps i 0)
  pub same : climb (64 - (s + 1)) ps (get_or ps i 0) ≡ climb (64 - s) ps i

pub next : (s : ℕ) (ps : List ℕ) (i : ℕ) → Ends (64 - s) ps i → (get_or ps i 0 ≡ 255 → ⊥) → Next s ps i
unfolding Ends
next s ps i h n = go (64 - s) refl h
  where
    go : (k : ℕ) → 64 - s ≡ k → Ends k ps i → Next s ps i
    go zero e h' = absurd (n h'.1)
    go (suc k) e h' =
        let d : 64 - (s + 1) ≡ k = omega arith in
        record { room = omega arith; ends = rw d (h'.1 n); same = rw (d, e) (sym (climb-up k ps i n)) }

-- the root lies within the entries
pub climb_in : (n : ℕ) (ps : List ℕ) (i : ℕ) → Ends n ps i → climb n ps i < 64
unfolding climb Ends
climb_in zero ps i h = h.0
climb_in (suc n) ps i h = elim (ℕ_discrete (get_or ps i 0) 255) [
  | yes e ↦ rw (eq-eqb _ _ e) h.0
  | no m ↦ rw (ne_eqb _ _ m) (climb_in n ps (get_or ps i 0) (h.1 m))
]

-- in a record that is taken the heights rise, so the climb ends
pub sound-ends : (c : ℕ) (uf : UnionFind) → Sound c uf → (n i : ℕ) → i < c → 64 ≤ n + height_of uf i → Ends n uf.parents i
unfolding Ends
sound-ends c uf s zero i l h = (
  let m = s.small in omega arith,
  elim (ℕ_discrete (parent_of uf i) 255) [
    | yes e ↦ e
    | no n ↦
        let u = s.up i l n in
        absurd (omega (arith, s.low _ u.0))
  ],
)
sound-ends c uf s (suc n) i l h =
    (let m = s.small in omega arith, λ r. let u = s.up i l r in sound-ends c uf s n (parent_of uf i) u.0 (omega arith))

pub taken-ends : (c : ℕ) (uf : UnionFind) → taken c uf ≡ true → (i : ℕ) → i < c → Ends 64 uf.parents i
taken-ends c uf t i l = sound-ends c uf (sound_of c uf t) 64 i l (omega arith)

-- the root of an element is an element
pub climb-below : (c : ℕ) (uf : UnionFind) → Sound c uf → (n i : ℕ) → i < c → climb n uf.parents i < c
unfolding climb
climb-below c uf s zero i l = l
climb-below c uf s (suc n) i l = elim (ℕ_discrete (parent_of uf i) 255) [
  | yes e ↦ rw (eq-eqb _ _ e) l
  | no m ↦ rw (ne_eqb _ _ m) (climb-below c uf s n (parent_of uf i) (s.up i l m).0)
]

module _ (c : ℕ) (uf : UnionFind) (element : ℕ) where
  -- find in a record that isn't taken: 1
  pub find_untaken : taken c uf ≡ false → find_of c uf element ≡ refuse 1
  unfolding find_of
  find_untaken t = simp t

  -- find of an element that isn't under C: 1
  pub find_out : c ≤ element → find_of c uf element ≡ refuse 1
  unfolding find_of
  find_out h = simp (le-ltb _ _ h, and-false)

  -- otherwise find gives the element's root
  pub find_root : taken c uf ≡ true → element < c → find_of c uf element ≡ done (root_of uf element)
  unfolding find_of
  find_root t l = simp (t, lt-ltb _ _ l)

-- the code's climb without a step climbed gives the root
pub root_is : (uf : UnionFind) (i r : ℕ) → r ≡ climb 64 uf.parents i → r ≡ root_of uf i
unfolding root_of
root_is uf i r e = e

-- two roots are places of the record with heights in their range
pub roots_fit : (c : ℕ) (uf : UnionFind) (i j : ℕ) → taken c uf ≡ true → i < c → j < c → Fits uf (root_of uf i) (root_of uf j)
unfolding root_of
roots_fit c uf i j t l k =
    let s = sound_of c uf t in
    let a = climb-below c uf s 64 i l in
    let b = climb-below c uf s 64 j k in
    let m = s.small in
    record { left_in = omega arith; right_in = omega arith; left_height = s.low _ a; right_height = s.low _ b }
