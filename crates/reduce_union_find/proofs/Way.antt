-- The way from an element up to its root as a relation, and the record in which one root hangs under another.
use mathlib.Core.Path.{◌≡◌, sym, ap, ◌∙◌}
use mathlib.Core.Bool.{cond}
use mathlib.Core.List.{List}
use Prim.Native.Nat.{ℕ, zero, suc, ◌+◌, ◌≤◌, ◌<◌, max}
use native.Mathlib.Decide.{ℕ_discrete}
use native.Mathlib.Omega.{arith}
use borrow.Author.Tests.{eq-eqb, ne_eqb}
use lib.Dec.{eqb}
use lib.ListN.{length, get_or}
use lib.Seq.{get_or-set_same, get_or-set_other}
use Rattle.reduce_union_find.specs.declared.UnionFind.{UnionFind}
use Rattle.reduce_union_find.specs.State.{parent_of, height_of, climb, root_of, hung}
use Rattle.reduce_union_find.proofs.Entry.{Sound}
use Rattle.reduce_union_find.proofs.Root.{climb-here, climb-up, climb-below}

-- so many parent steps lead from an element to its root
pub data Way (ps : List ℕ) : ℕ → ℕ → ℕ → Type 0 where
  top : {i : ℕ} → get_or ps i 0 ≡ 255 → Way ps 0 i i
  up : {n i r : ℕ} → (get_or ps i 0 ≡ 255 → ⊥) → Way ps n (get_or ps i 0) r → Way ps (suc n) i r

-- a step to a parent that is known
way_step : (ps : List ℕ) (i : ℕ) {n p r : ℕ} → get_or ps i 0 ≡ p → (p ≡ 255 → ⊥) → Way ps n p r → Way ps (suc n) i r
way_step ps i {n} {p} {r} e m w = up {n = n} {r = r} (λ z. m (sym e ∙ z)) (rw e w)

-- the end of a way has no parent
pub way_ends : {ps : List ℕ} {n i r : ℕ} → Way ps n i r → get_or ps r 0 ≡ 255
way_ends (top e) = e
way_ends (up m w) = way_ends w

-- a climb with enough steps goes the way to its end
pub way_climb : {ps : List ℕ} {n i r : ℕ} → Way ps n i r → (left : ℕ) → n ≤ left → climb left ps i ≡ r
way_climb (top e) left h = climb-here left _ _ e
way_climb (up m w) zero h = absurd (omega arith)
way_climb (up m w) (suc left) h = climb-up left _ _ m ∙ way_climb w left (omega arith)

-- in a sound record the heights rise along the way
pub way_rises : (c : ℕ) (uf : UnionFind) → Sound c uf → {n i r : ℕ} → Way uf.parents n i r → i < c → (r < c) × (n + height_of uf i ≤ height_of uf r)
way_rises c uf s (top e) l = (l, omega arith)
way_rises c uf s (up m w) l =
    let u = s.up _ l m in
    let h = way_rises c uf s w u.0 in
    (h.0, omega arith)

-- in a sound record every element has a way, which the climb goes
pub way_of : (c : ℕ) (uf : UnionFind) → Sound c uf → (left i : ℕ) → i < c → 64 ≤ left + height_of uf i → (n : ℕ) × Way uf.parents n i (climb left uf.parents i)
way_of c uf s zero i l h = (0, rw (climb-here zero uf.parents i root) (top root))
  where
    root : parent_of uf i ≡ 255
    root = elim (ℕ_discrete (parent_of uf i) 255) [
      | yes e ↦ e
      | no m ↦
          let u = s.up i l m in
          absurd (omega (arith, s.low _ u.0))
    ]
way_of c uf s (suc left) i l h = elim (ℕ_discrete (parent_of uf i) 255) [
  | yes e ↦ (0, rw (climb-here (suc left) uf.parents i e) (top e))
  | no m ↦
      let u = s.up i l m in
      let w = way_of c uf s left (parent_of uf i) u.0 (omega arith) in
      (suc w.0, rw (climb-up left uf.parents i m) (up m w.1))
]

-- an element without a parent is its own root
pub top-root : (uf : UnionFind) (i : ℕ) → parent_of uf i ≡ 255 → root_of uf i ≡ i
unfolding root_of
top-root uf i e = climb-here 64 uf.parents i e

module _ (c : ℕ) (uf : UnionFind) (s : Sound c uf) (i : ℕ) (l : i < c) where
  -- the root of an element is the end of its way
  pub root_way : (n : ℕ) × Way uf.parents n i (root_of uf i)
  unfolding root_of
  root_way = way_of c uf s 64 i l (omega arith)

  pub way_root : {n r : ℕ} → Way uf.parents n i r → root_of uf i ≡ r
  unfolding root_of
  way_root w =
      let h = way_rises c uf s w l in
      way_climb w 64 (omega (arith, s.low _ h.0))

  -- the root of an element is an element without a parent, and its own root
  pub root_below : root_of uf i < c
  unfolding root_of
  root_below = climb-below c uf s 64 i l

  pub root-top : parent_of uf (root_of uf i) ≡ 255
  root-top = way_ends root_way.1

  pub root-root : root_of uf (root_of uf i) ≡ root_of uf i
  root-root = top-root uf (root_of uf i) root-top

-- ---- one root hung under another

-- what the hanging makes of a root
unfoldable pub moved : ℕ → ℕ → ℕ → ℕ
moved lower higher r = cond (eqb r lower) higher r

pub moved_lower : (lo hi r : ℕ) → r ≡ lo → moved lo hi r ≡ hi
unfolding moved
moved_lower lo hi r e = rw (eq-eqb _ _ e)

pub moved_other : (lo hi r : ℕ) → (r ≡ lo → ⊥) → moved lo hi r ≡ r
unfolding moved
moved_other lo hi r m = rw (ne_eqb _ _ m)

-- two different roots of a record whose arrays are 64 long, the lower not at its limit
pub record Pair (c : ℕ) (uf : UnionFind) (lo hi : ℕ) : Type 0 where
  pub parents_wide : length uf.parents ≡ 64
  pub heights_wide : length uf.heights ≡ 64
  pub sound : Sound c uf
  pub lo_in : lo < c
  pub hi_in : hi < c
  pub lo_top : parent_of uf lo ≡ 255
  pub hi_top : parent_of uf hi ≡ 255
  pub apart : lo ≡ hi → ⊥
  pub room : height_of uf lo < 64

module _ (c : ℕ) (uf : UnionFind) (lo hi : ℕ) (p : Pair c uf lo hi) where
  lo_low : lo < length uf.parents
  lo_low =
      let m = p.sound.small in
      rw p.parents_wide (omega (arith, p.lo_in))

  hi_low : hi < length uf.heights
  hi_low =
      let m = p.sound.small in
      rw p.heights_wide (omega (arith, p.hi_in))

  -- the parents: the lower root's is the higher, the others are as they were
  pub parent_lo : parent_of (hung uf lo hi) lo ≡ hi
  unfolding hung
  parent_lo = get_or-set_same uf.parents lo hi 0 lo_low

  pub parent_other : (i : ℕ) → (i ≡ lo → ⊥) → parent_of (hung uf lo hi) i ≡ parent_of uf i
  unfolding hung
  parent_other i m = get_or-set_other uf.parents lo i hi 0 m

  -- the heights: the higher root's is the larger, the others are as they were
  pub height_hi : height_of (hung uf lo hi) hi ≡ max (height_of uf hi) (height_of uf lo + 1)
  unfolding hung
  height_hi = get_or-set_same uf.heights hi _ 0 hi_low

  pub height_other : (i : ℕ) → (i ≡ hi → ⊥) → height_of (hung uf lo hi) i ≡ height_of uf i
  unfolding hung
  height_other i m = get_or-set_other uf.heights hi i _ 0 m

  hi_none : hi ≡ 255 → ⊥
  hi_none e =
      let m = p.sound.small in
      omega (arith, p.hi_in)

  -- the way of each element goes on from the lower root to the higher
  pub way_hung : {n i r : ℕ} → Way uf.parents n i r → (m : ℕ) × Way (hung uf lo hi).parents m i (moved lo hi r)
  way_hung {i = i} (top e) = elim (ℕ_discrete i lo) [
    | yes k ↦ (1, rw (moved_lower lo hi i k) (way_step _ i (here k) hi_none (top (parent_other hi (λ z. p.apart (sym z)) ∙ p.hi_top))))
    | no k ↦ (0, rw (moved_other lo hi i k) (top (parent_other i k ∙ e)))
  ]
    where
      here : i ≡ lo → parent_of (hung uf lo hi) i ≡ hi
      here k = rw k parent_lo
  way_hung {i = i} (up m w) =
      let h = parent_other i (λ k. m (rw k p.lo_top)) in
      let v = way_hung w in
      (suc v.0, way_step _ i h m v.1)

  -- the heights still rise, and are in their range
  pub hung-sound : Sound c (hung uf lo hi)
  hung-sound = record { small = p.sound.small; low = low; up = rises }
    where
      low : (i : ℕ) → i < c → height_of (hung uf lo hi) i ≤ 64
      low i l = elim (ℕ_discrete i hi) [
        | yes k ↦ rw (k, height_hi) (omega (arith, p.room, p.sound.low hi p.hi_in))
        | no k ↦ rw (height_other i k) (p.sound.low i l)
      ]

      grows : (i : ℕ) → height_of uf i ≤ height_of (hung uf lo hi) i
      grows i = elim (ℕ_discrete i hi) [
        | yes k ↦ rw (k, height_hi) (omega arith)
        | no k ↦ rw (height_other i k) (omega arith)
      ]

      rises : (i : ℕ) → i < c → (parent_of (hung uf lo hi) i ≡ 255 → ⊥) → (parent_of (hung uf lo hi) i < c) × (height_of (hung uf lo hi) i < height_of (hung uf lo hi) (parent_of (hung uf lo hi) i))
      rises i l m = elim (ℕ_discrete i lo) [
        | yes k ↦ rw (k, parent_lo, height_hi, height_other lo p.apart) (p.hi_in, omega arith)
        | no k ↦
            let e = parent_other i k in
            let u = p.sound.up i l (λ z. m (e ∙ z)) in
            rw (e, height_other i (λ z. m (e ∙ ap (parent_of uf) z ∙ p.hi_top))) (u.0, omega (arith, grows (parent_of uf i)))
      ]

  -- the root of each element after one root was hung under another
  pub root-hung : (i : ℕ) → i < c → root_of (hung uf lo hi) i ≡ moved lo hi (root_of uf i)
  root-hung i l =
      let w = root_way c uf p.sound i l in
      way_root c (hung uf lo hi) hung-sound i l (way_hung w.1).1
