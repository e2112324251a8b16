-- A record made from the fresh state by any joins is never refused: a root of height h has at least 2^h
-- members.
use mathlib.Core.Path.{◌≡◌, refl, sym, ap, ◌∙◌}
use mathlib.Core.Bool.{Bool, true, false}
use mathlib.Core.List.{List, [], ◌∷◌}
use mathlib.Core.Logic.{⊎_elim}
use Prim.Native.Nat.{ℕ, ◌+◌, ◌≤◌, ◌<◌, ◌^◌, max}
use native.Mathlib.Decide.{ℕ_discrete}
use native.Mathlib.Nat.{pow-le-pow_right, two-pow-succ, max-eq_left, max-eq_right, eq-or-lt_of_le, le_trans}
use native.Mathlib.Numerals.{add-one}
use native.Mathlib.Omega.{arith}
use borrow.Author.Tests.{eq-eqb, ne_eqb, ltb-true, ltb-false, leb-true, leb-false}
use lib.Dec.{eqb, ltb, leb}
use lib.ListN.{length, length-set, length-replicate, get_or-replicate}
use Rattle.base_lists.specs.Below.{one, count_below}
use Rattle.base_lists.specs.Group.{class_of}
use Rattle.base_lists.proofs.CountBelow.{count_le, count_ext, count_misses, count-sum}
use Rattle.base_lists.proofs.Group.{length_class}
use Rattle.reduce_union_find.specs.declared.UnionFind.{UnionFind}
use Rattle.reduce_union_find.specs.State.{fresh, parent_of, height_of, taken, root_of, hung, linked, join_of, join_from, join_all}
use Rattle.reduce_union_find.proofs.Entry.{Sound, taken_of}
use Rattle.reduce_union_find.proofs.Linking.{linked-same, linked-left, linked-right, join_left_out, join_right_out, join_links}
use Rattle.reduce_union_find.proofs.Way.{Way, Pair, way_ends, way_rises, root_way, moved, moved_lower, moved_other, top-root, root_below, root-top, root-hung, hung-sound, parent_lo, parent_other, height_hi, height_other}

-- how many members the group of a root has
unfoldable pub size_of : ℕ → UnionFind → ℕ → ℕ
size_of c uf r = length (class_of c (root_of uf) r)

pub size-count : (c : ℕ) (uf : UnionFind) (r : ℕ) → size_of c uf r ≡ count_below c (λ i. eqb (root_of uf i) r)
unfolding size_of
size-count c uf r = length_class c (root_of uf) r

-- what every record has that is made from the fresh state by joins
pub record Made (c : ℕ) (uf : UnionFind) : Type 0 where
  pub parents_wide : length uf.parents ≡ 64
  pub heights_wide : length uf.heights ≡ 64
  pub sound : Sound c uf
  pub size : (r : ℕ) → r < c → parent_of uf r ≡ 255 → 2 ^ height_of uf r ≤ size_of c uf r

-- ---- the fresh state

pub fresh-top : (i : ℕ) → i < 64 → parent_of fresh i ≡ 255
unfolding fresh
fresh-top i l = get_or-replicate 64 i 255 0 l

fresh-low : (i : ℕ) → i < 64 → height_of fresh i ≡ 0
unfolding fresh
fresh-low i l = get_or-replicate 64 i 0 0 l

pub made-fresh : (c : ℕ) → c ≤ 64 → Made c fresh
made-fresh c m = record {
  parents_wide = wide;
  heights_wide = high;
  sound = record { small = m; low = λ i l. rw (fresh-low i (omega arith)) (omega arith); up = λ i l n. absurd (n (fresh-top i (omega arith))) };
  size = λ r l e. rw (fresh-low r (omega arith), size-count c fresh r) (has_itself r l);
}
  where
    wide : length fresh.parents ≡ 64
    wide = unfold fresh in length-replicate {A = ℕ} 64 255

    high : length fresh.heights ≡ 64
    high = unfold fresh in length-replicate {A = ℕ} 64 0

    has_itself : (r : ℕ) → r < c → 1 ≤ count_below c (λ i. eqb (root_of fresh i) r)
    has_itself r l =
        omega (arith, count_misses c (λ i. eqb (root_of fresh i) r) r l (eq-eqb _ _ (top-root fresh r (fresh-top r (omega arith)))))

-- ---- a join

-- a root's height is at most 6, since its group has at most 64 members
six : (h : ℕ) → 2 ^ h ≤ 64 → h ≤ 6
six h b = go (leb h 6) refl
  where
    go : (t : Bool) → leb h 6 ≡ t → h ≤ 6
    go true t = leb-true h 6 t
    go false t = absurd (omega (arith, pow-le-pow_right {n = 2} (omega arith) (leb-false h 6 t)))

pub height_six : (c : ℕ) (uf : UnionFind) → Made c uf → (r : ℕ) → r < c → parent_of uf r ≡ 255 → height_of uf r ≤ 6
height_six c uf m r l e =
    let s = m.sound.small in
    six (height_of uf r) (omega (arith, m.size r l e, size-count c uf r, count_le c (λ i. eqb (root_of uf i) r)))

-- the group of the higher root takes in that of the lower; no other changes
one-higher : (lo hi x : ℕ) → (lo ≡ hi → ⊥) → one (eqb (moved lo hi x) hi) ≡ one (eqb x lo) + one (eqb x hi)
unfolding one
one-higher lo hi x n = elim (ℕ_discrete x lo) [
  | yes k ↦ rw (moved_lower lo hi x k, eq-eqb hi hi refl, eq-eqb x lo k, ne_eqb x hi (λ z. n (sym k ∙ z)))
  | no k ↦ rw (moved_other lo hi x k, ne_eqb x lo k) (omega arith)
]

test_other : (lo hi r x : ℕ) → (r ≡ lo → ⊥) → (r ≡ hi → ⊥) → eqb (moved lo hi x) r ≡ eqb x r
test_other lo hi r x a b = elim (ℕ_discrete x lo) [
  | yes k ↦ rw (moved_lower lo hi x k, ne_eqb hi r (λ z. b (sym z)), ne_eqb x r (λ z. a (sym z ∙ k)))
  | no k ↦ rw (moved_other lo hi x k)
]

-- the higher of two powers fits into both groups
power : (h k : ℕ) → k ≤ h → 2 ^ max h (k + 1) ≤ 2 ^ k + 2 ^ h
power h k l = ⊎_elim
    (λ e. rw (e, max-eq_right {n = h} {m = h + 1} (omega arith), add-one, two-pow-succ) (omega arith))
    (λ b. rw (max-eq_left {n = h} {m = k + 1} (omega arith)) (omega arith))
    (eq-or-lt_of_le l)

module _ (c : ℕ) (uf : UnionFind) (m : Made c uf) (lo hi : ℕ) (l : lo < c) (k : hi < c) (a : parent_of uf lo ≡ 255) (b : parent_of uf hi ≡ 255) (n : lo ≡ hi → ⊥) (o : height_of uf lo ≤ height_of uf hi) where
  two : Pair c uf lo hi
  two = record {
    parents_wide = m.parents_wide;
    heights_wide = m.heights_wide;
    sound = m.sound;
    lo_in = l;
    hi_in = k;
    lo_top = a;
    hi_top = b;
    apart = n;
    room = omega (arith, height_six c uf m lo l a);
  }

  size-higher : size_of c (hung uf lo hi) hi ≡ size_of c uf lo + size_of c uf hi
  size-higher =
      rw (size-count c (hung uf lo hi) hi, size-count c uf lo, size-count c uf hi)
      (count-sum c _ _ _ (λ i h. ap (λ (x : ℕ). one (eqb x hi)) (root-hung c uf lo hi two i h) ∙ one-higher lo hi (root_of uf i) n))

  size-other : (r : ℕ) → (r ≡ lo → ⊥) → (r ≡ hi → ⊥) → size_of c (hung uf lo hi) r ≡ size_of c uf r
  size-other r p q =
      rw (size-count c (hung uf lo hi) r, size-count c uf r)
      (count_ext c _ _ (λ i h. ap (λ (x : ℕ). eqb x r) (root-hung c uf lo hi two i h) ∙ test_other lo hi r (root_of uf i) p q))

  hung-size : (r : ℕ) → r < c → parent_of (hung uf lo hi) r ≡ 255 → 2 ^ height_of (hung uf lo hi) r ≤ size_of c (hung uf lo hi) r
  hung-size r h e = elim (ℕ_discrete r hi) [
    | yes q ↦
        rw (q, height_hi c uf lo hi two, size-higher)
        (le_trans (power (height_of uf hi) (height_of uf lo) o) (omega (arith, m.size lo l a, m.size hi k b)))
    | no q ↦
        elim (ℕ_discrete r lo) [
          | yes p ↦
              let s = m.sound.small in
              absurd (omega (arith, sym (parent_lo c uf lo hi two) ∙ (rw p at e)))
          | no p ↦
              rw (height_other c uf lo hi two r q, size-other r p q)
              (m.size r h (sym (parent_other c uf lo hi two r p) ∙ e))
        ]
  ]

  pub made-hung : Made c (hung uf lo hi)
  made-hung = record { parents_wide = pw; heights_wide = hw; sound = hung-sound c uf lo hi two; size = hung-size }
    where
      pw : length (hung uf lo hi).parents ≡ 64
      pw = unfold hung in length-set uf.parents lo hi ∙ m.parents_wide

      hw : length (hung uf lo hi).heights ≡ 64
      hw = unfold hung in length-set uf.heights hi _ ∙ m.heights_wide

pub made-linked : (c : ℕ) (uf : UnionFind) → Made c uf → (a b : ℕ) → a < c → b < c → parent_of uf a ≡ 255 → parent_of uf b ≡ 255 → Made c (linked uf a b).state
made-linked c uf m a b l k p q = elim (ℕ_discrete a b) [
  | yes e ↦ rw (linked-same uf a b e) m
  | no n ↦ go n (ltb (height_of uf b) (height_of uf a)) refl
]
  where
    go : (a ≡ b → ⊥) → (t : Bool) → ltb (height_of uf b) (height_of uf a) ≡ t → Made c (linked uf a b).state
    go n true t =
        let h = ltb-true _ _ t in
        rw (linked-left uf a b n h) (made-hung c uf m b a k l q p (λ z. n (sym z)) (omega arith))
    go n false t =
        let h = ltb-false _ _ t in
        rw (linked-right uf a b n h) (made-hung c uf m a b l k p q n h)

-- any join keeps a record made: a refused one leaves it as it was
pub made_join : (c : ℕ) (uf : UnionFind) → Made c uf → (left right : ℕ) → Made c (join_of c uf left right).state
made_join c uf m left right = go (ltb left c) (ltb right c) refl refl
  where
    go : (t u : Bool) → ltb left c ≡ t → ltb right c ≡ u → Made c (join_of c uf left right).state
    go false u t v = rw (join_left_out c uf left right (ltb-false _ _ t)) m
    go true false t v = rw (join_right_out c uf left right (ltb-false _ _ v)) m
    go true true t v =
        let l = ltb-true _ _ t in
        let r = ltb-true _ _ v in
        let s = m.sound in
        rw (join_links c uf left right (taken_of c uf s) l r)
        (made-linked c uf m _ _ (root_below c uf s left l) (root_below c uf s right r) (root-top c uf s left l) (root-top c uf s right r))

-- joins one after another keep a record made
pub made-from : (c : ℕ) (uf : UnionFind) → Made c uf → (pairs : List (ℕ × ℕ)) → Made c (join_from c uf pairs)
unfolding join_from
made-from c uf m [] = m
made-from c uf m (pair ∷ pairs) = made-from c (join_of c uf pair.0 pair.1).state (made_join c uf m pair.0 pair.1) pairs

pub made_all : (c : ℕ) → c ≤ 64 → (pairs : List (ℕ × ℕ)) → Made c (join_all c pairs)
unfolding join_all
made_all c m pairs = made-from c fresh (made-fresh c m) pairs

-- a record made from the fresh state by any joins is never refused
pub never-refused : (c : ℕ) → c ≤ 64 → (pairs : List (ℕ × ℕ)) → taken c (join_all c pairs) ≡ true
never-refused c m pairs = taken_of c _ (made_all c m pairs).sound

-- a climb takes at most the largest k steps with 2^k at most its group's members, and never over 6
pub steps_fit : (c : ℕ) (uf : UnionFind) → Made c uf → (i : ℕ) → i < c → (n : ℕ) × Way uf.parents n i (root_of uf i) × (2 ^ n ≤ size_of c uf (root_of uf i)) × (n ≤ 6)
steps_fit c uf m i l =
    let w = root_way c uf m.sound i l in
    let h = way_rises c uf m.sound w.1 l in
    let e = way_ends w.1 in
    let a : w.0 ≤ height_of uf (root_of uf i) = omega arith in (
      w.0,
      w.1,
      le_trans (pow-le-pow_right {n = 2} (omega arith) a) (m.size _ h.0 e),
      le_trans a (height_six c uf m _ h.0 e),
    )
