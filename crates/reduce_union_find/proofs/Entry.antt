-- Which records are taken: a law for each way through the check, and what a record that is taken has.
use mathlib.Core.Path.{◌≡◌, ◌∙◌}
use mathlib.Core.Bool.{true, false, and-false}
use Prim.Native.Nat.{ℕ, ◌≤◌, ◌<◌}
use native.Mathlib.Decide.{ℕ_discrete}
use borrow.Author.Tests.{lt-ltb, le-ltb, lt-leb, le-leb, eq-eqb, ne_eqb, ltb-true, leb-true}
use lib.Dec.{ltb, leb}
use Rattle.base_lists.specs.Below.{all_below}
use Rattle.base_lists.proofs.Below.{and_left, and_right, all-each, each_all, one-fails}
use Rattle.reduce_union_find.specs.declared.UnionFind.{UnionFind}
use Rattle.reduce_union_find.specs.State.{parent_of, height_of, sound_at, taken}

module _ (c : ℕ) (uf : UnionFind) (i : ℕ) where
  -- an entry with a height over 64 isn't sound
  pub sound-high : 64 < height_of uf i → sound_at c uf i ≡ false
  unfolding sound_at
  sound-high h = simp (lt-leb _ _ h)

  -- an entry with no parent is sound
  pub sound-root : height_of uf i ≤ 64 → parent_of uf i ≡ 255 → sound_at c uf i ≡ true
  unfolding sound_at
  sound-root h e = simp (le-leb _ _ h, eq-eqb _ _ e)

  -- an entry whose parent isn't an element isn't sound
  pub sound-out : (parent_of uf i ≡ 255 → ⊥) → c ≤ parent_of uf i → sound_at c uf i ≡ false
  unfolding sound_at
  sound-out n o = simp (ne_eqb _ _ n, le-ltb _ _ o, and-false)

  -- an entry whose parent is an element: the parent's height decides
  pub sound-up : height_of uf i ≤ 64 → (parent_of uf i ≡ 255 → ⊥) → parent_of uf i < c → sound_at c uf i ≡ ltb (height_of uf i) (height_of uf (parent_of uf i))
  unfolding sound_at
  sound-up h n l = simp (le-leb _ _ h, ne_eqb _ _ n, lt-ltb _ _ l)

-- with more than 64 choices no record is taken
pub taken-over : (c : ℕ) (uf : UnionFind) → 64 < c → taken c uf ≡ false
unfolding taken
taken-over c uf h = simp (lt-leb _ _ h)

-- a record with an entry that isn't sound isn't taken
pub taken_unsound : (c : ℕ) (uf : UnionFind) (i : ℕ) → i < c → sound_at c uf i ≡ false → taken c uf ≡ false
unfolding taken
taken_unsound c uf i l e = simp (one-fails c (sound_at c uf) i l e, and-false)

-- a record with every entry sound is taken
pub taken-sound : (c : ℕ) (uf : UnionFind) → c ≤ 64 → all_below c (sound_at c uf) ≡ true → taken c uf ≡ true
unfolding taken
taken-sound c uf h e = simp (le-leb _ _ h, e)

-- what a record that is taken has
pub record Sound (c : ℕ) (uf : UnionFind) : Type 0 where
  pub small : c ≤ 64
  pub low : (i : ℕ) → i < c → height_of uf i ≤ 64
  pub up : (i : ℕ) → i < c → (parent_of uf i ≡ 255 → ⊥) → (parent_of uf i < c) × (height_of uf i < height_of uf (parent_of uf i))

-- a record is taken exactly if it is sound
pub sound_of : (c : ℕ) (uf : UnionFind) → taken c uf ≡ true → Sound c uf
unfolding taken sound_at
sound_of c uf t = record {
  small = leb-true _ _ (and_left (leb c 64) (all_below c (sound_at c uf)) t);
  low = λ i l. leb-true _ _ (and_left (leb (height_of uf i) 64) _ (entry i l));
  up = λ i l n.
      let h = (rw (ne_eqb _ _ n) at (and_right (leb (height_of uf i) 64) _ (entry i l))) in
      (ltb-true _ _ (and_left (ltb (parent_of uf i) c) _ h), ltb-true _ _ (and_right (ltb (parent_of uf i) c) _ h));
}
  where
    entry : (i : ℕ) → i < c → sound_at c uf i ≡ true
    entry i l = all-each c (sound_at c uf) (and_right (leb c 64) (all_below c (sound_at c uf)) t) i l

pub taken_of : (c : ℕ) (uf : UnionFind) → Sound c uf → taken c uf ≡ true
taken_of c uf s =
    taken-sound c uf s.small (each_all c (sound_at c uf) λ i l. elim (ℕ_discrete (parent_of uf i) 255) [
      | yes e ↦ sound-root c uf i (s.low i l) e
      | no n ↦ sound-up c uf i (s.low i l) n (s.up i l n).0 ∙ lt-ltb _ _ (s.up i l n).1
    ])
