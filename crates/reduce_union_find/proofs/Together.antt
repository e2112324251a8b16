-- After a join both elements have one root, and two elements have one root exactly if they had before, or
-- were in the two joined groups.
use mathlib.Core.Path.{◌≡◌, refl, sym, ap, ◌∙◌}
use mathlib.Core.Bool.{Bool, true, false}
use mathlib.Core.Logic.{◌↔◌, ◌⊎◌, inl, inr, ⊎_elim}
use Prim.Native.Nat.{ℕ, ◌+◌, ◌≤◌, ◌<◌, max}
use native.Mathlib.Decide.{ℕ_discrete}
use native.Mathlib.Omega.{arith}
use borrow.Author.Tests.{ltb-true, ltb-false}
use lib.Dec.{ltb}
use lib.ListN.{length}
use lib.Seq.{get_or-set_same}
use Rattle.reduce_union_find.specs.declared.UnionFind.{UnionFind}
use Rattle.day_rows.specs.Told.{done}
use Rattle.reduce_union_find.specs.State.{parent_of, height_of, taken, root_of, hung, linked, JoinedTells, joined_tells, join_of}
use Rattle.reduce_union_find.proofs.Entry.{Sound, sound_of}
use Rattle.reduce_union_find.proofs.Linking.{linked-same, linked-left, linked-right, join_links}
use Rattle.reduce_union_find.proofs.Way.{Pair, moved, moved_lower, moved_other, root_below, root-top, root-hung}

-- the root x is one of the two
abbrev pub Either : ℕ → ℕ → ℕ → Type 0
Either a b x = (x ≡ a) ⊎ (x ≡ b)

-- x and y are one root, or each is one of the two
abbrev pub Merged : ℕ → ℕ → ℕ → ℕ → Type 0
Merged a b x y = (x ≡ y) ⊎ (Either a b x × Either a b y)

-- ---- what the hanging merges

module _ (lo hi : ℕ) where
  moved-either : (x : ℕ) → Either lo hi x → moved lo hi x ≡ hi
  moved-either x e = elim (ℕ_discrete x lo) [
    | yes k ↦ moved_lower lo hi x k
    | no k ↦ moved_other lo hi x k ∙ ⊎_elim (λ z. absurd (k z)) (λ z. z) e
  ]

  merged_of : (x y : ℕ) → moved lo hi x ≡ moved lo hi y → Merged lo hi x y
  merged_of x y e = elim (ℕ_discrete x lo) [
    | yes k ↦
        elim (ℕ_discrete y lo) [
          | yes m ↦ inl (k ∙ sym m)
          | no m ↦ inr (inl k, inr (sym (moved_other lo hi y m) ∙ sym e ∙ moved_lower lo hi x k))
        ]
    | no k ↦
        elim (ℕ_discrete y lo) [
          | yes m ↦ inr (inr (sym (moved_other lo hi x k) ∙ e ∙ moved_lower lo hi y m), inl m)
          | no m ↦ inl (sym (moved_other lo hi x k) ∙ e ∙ moved_other lo hi y m)
        ]
  ]

  of_merged : (x y : ℕ) → Merged lo hi x y → moved lo hi x ≡ moved lo hi y
  of_merged x y m =
      ⊎_elim (λ e. ap (moved lo hi) e) (λ e. moved-either x e.0 ∙ sym (moved-either y e.1)) m

either_swap : {a b x : ℕ} → Either a b x → Either b a x
either_swap e = ⊎_elim (λ z. inr z) (λ z. inl z) e

merged_swap : {a b x y : ℕ} → Merged a b x y → Merged b a x y
merged_swap m = ⊎_elim (λ z. inl z) (λ e. inr (either_swap e.0, either_swap e.1)) m

either-one : {a b x : ℕ} → a ≡ b → Either a b x → x ≡ b
either-one k e = ⊎_elim (λ z. z ∙ k) (λ z. z) e

-- ---- the join

-- the root that a join hands back, and the root of each element afterwards
pub record After (c : ℕ) (uf : UnionFind) (a b : ℕ) (t : JoinedTells) : Type 0 where
  pub one : (i : ℕ) → i < c → Either a b (root_of uf i) → t.found ≡ done (root_of t.state i)
  pub merged : (i j : ℕ) → i < c → j < c → (root_of t.state i ≡ root_of t.state j) ↔ Merged a b (root_of uf i) (root_of uf j)

after_same : (c : ℕ) (uf : UnionFind) (a b : ℕ) → a ≡ b → After c uf a b (joined_tells (done b) uf)
after_same c uf a b k = record {
  one = λ i l e. ap done (sym (either-one k e));
  merged = λ i j l m. (λ e. inl e, λ e. ⊎_elim (λ z. z) (λ z. either-one k z.0 ∙ sym (either-one k z.1)) e);
}

after-hung : (c : ℕ) (uf : UnionFind) (lo hi : ℕ) → Pair c uf lo hi → After c uf lo hi (joined_tells (done hi) (hung uf lo hi))
after-hung c uf lo hi p = record {
  one = λ i l e. ap done (sym (root-hung c uf lo hi p i l ∙ moved-either lo hi _ e));
  merged = λ i j l m. (
    λ e. merged_of lo hi _ _ (sym (root-hung c uf lo hi p i l) ∙ e ∙ root-hung c uf lo hi p j m),
    λ e. root-hung c uf lo hi p i l ∙ of_merged lo hi _ _ e ∙ sym (root-hung c uf lo hi p j m),
  );
}

after_swap : (c : ℕ) (uf : UnionFind) (a b : ℕ) (t : JoinedTells) → After c uf a b t → After c uf b a t
after_swap c uf a b t w = record {
  one = λ i l e. w.one i l (either_swap e);
  merged = λ i j l m. (λ e. merged_swap ((w.merged i j l m).0 e), λ e. (w.merged i j l m).1 (merged_swap e));
}

-- two roots of a sound record
pub record Roots (c : ℕ) (uf : UnionFind) (a b : ℕ) : Type 0 where
  pub parents_wide : length uf.parents ≡ 64
  pub heights_wide : length uf.heights ≡ 64
  pub sound : Sound c uf
  pub a_in : a < c
  pub b_in : b < c
  pub a-top : parent_of uf a ≡ 255
  pub b-top : parent_of uf b ≡ 255

-- the lower of two roots has room, since the record that comes back is sound
room_of : (c : ℕ) (uf : UnionFind) (lo hi : ℕ) → length uf.heights ≡ 64 → c ≤ 64 → hi < c → Sound c (hung uf lo hi) → height_of uf lo < 64
unfolding hung
room_of c uf lo hi w m l s =
    omega (arith, s.low hi l, get_or-set_same uf.heights hi (max (height_of uf hi) (height_of uf lo + 1)) 0 (rw w (omega arith)))

pair_of : (c : ℕ) (uf : UnionFind) (a b : ℕ) → Roots c uf a b → (a ≡ b → ⊥) → Sound c (hung uf a b) → Pair c uf a b
pair_of c uf a b r n s = record {
  parents_wide = r.parents_wide;
  heights_wide = r.heights_wide;
  sound = r.sound;
  lo_in = r.a_in;
  hi_in = r.b_in;
  lo_top = r.a-top;
  hi_top = r.b-top;
  apart = n;
  room = room_of c uf a b r.heights_wide r.sound.small r.b_in s;
}

pair_swap : (c : ℕ) (uf : UnionFind) (a b : ℕ) → Roots c uf a b → Roots c uf b a
pair_swap c uf a b r = record {
  parents_wide = r.parents_wide;
  heights_wide = r.heights_wide;
  sound = r.sound;
  a_in = r.b_in;
  b_in = r.a_in;
  a-top = r.b-top;
  b-top = r.a-top;
}

after-linked : (c : ℕ) (uf : UnionFind) (a b : ℕ) → Roots c uf a b → Sound c (linked uf a b).state → After c uf a b (linked uf a b)
after-linked c uf a b r s = elim (ℕ_discrete a b) [
  | yes k ↦ rw (linked-same uf a b k) (after_same c uf a b k)
  | no n ↦ go n (ltb (height_of uf b) (height_of uf a)) refl
]
  where
    go : (a ≡ b → ⊥) → (t : Bool) → ltb (height_of uf b) (height_of uf a) ≡ t → After c uf a b (linked uf a b)
    go n true t =
        let e = linked-left uf a b n (ltb-true _ _ t) in
        rw e (after_swap c uf b a _ (after-hung c uf b a (pair_of c uf b a (pair_swap c uf a b r) (λ z. n (sym z)) (rw e at s))))
    go n false t =
        let e = linked-right uf a b n (ltb-false _ _ t) in
        rw e (after-hung c uf a b (pair_of c uf a b r n (rw e at s)))

module _ (c : ℕ) (uf : UnionFind) (left right : ℕ) (pw : length uf.parents ≡ 64) (hw : length uf.heights ≡ 64) (t : taken c uf ≡ true) (back : taken c (join_of c uf left right).state ≡ true) (l : left < c) (r : right < c) where
  after : After c uf (root_of uf left) (root_of uf right) (join_of c uf left right)
  after =
      let s = sound_of c uf t in
      let e = join_links c uf left right t l r in
      rw e (after-linked c uf _ _ (record {
        parents_wide = pw;
        heights_wide = hw;
        sound = s;
        a_in = root_below c uf s left l;
        b_in = root_below c uf s right r;
        a-top = root-top c uf s left l;
        b-top = root-top c uf s right r;
      }) (sound_of c _ (rw e at back)))

  -- two elements have one root afterwards exactly if they had before, or were in the two joined groups
  pub join_merges : (i j : ℕ) → i < c → j < c → (root_of (join_of c uf left right).state i ≡ root_of (join_of c uf left right).state j) ↔ Merged (root_of uf left) (root_of uf right) (root_of uf i) (root_of uf j)
  join_merges = after.merged

  -- the root that comes back is the one that both elements have
  pub join_left : (join_of c uf left right).found ≡ done (root_of (join_of c uf left right).state left)
  join_left = after.one left l (inl refl)

  pub join_right : (join_of c uf left right).found ≡ done (root_of (join_of c uf left right).state right)
  join_right = after.one right r (inr refl)

  pub join_one : root_of (join_of c uf left right).state left ≡ root_of (join_of c uf left right).state right
  join_one = (join_merges left right l r).1 (inr (inl refl, inr refl))
