-- `join` and `link`: a law for each way through them.
use mathlib.Core.Path.{◌≡◌}
use mathlib.Core.Bool.{true, false, and-false}
use Prim.Native.Nat.{ℕ, ◌+◌, ◌≤◌, ◌<◌, min}
use native.Mathlib.Omega.{arith}
use borrow.Author.Tests.{lt-ltb, le-ltb, eq-eqb, ne_eqb}
use Rattle.reduce_union_find.specs.declared.UnionFind.{UnionFind}
use Rattle.day_rows.specs.Told.{done}
use Rattle.reduce_union_find.specs.State.{height_of, taken, root_of, joined_tells, refused_join, hung, linked, join_of}

-- a byte holds a height of at most 64 and 1 more
pub byte-holds : (height : ℕ) → height ≤ 64 → min (height + 1) 255 ≡ height + 1
byte-holds height h = omega arith

module _ (uf : UnionFind) (a b : ℕ) where
  -- linking one root with itself changes nothing
  pub linked-same : a ≡ b → linked uf a b ≡ joined_tells (done b) uf
  unfolding linked
  linked-same e = simp (eq-eqb _ _ e)

  -- linking where the right root is the lower one
  pub linked-left : (a ≡ b → ⊥) → height_of uf b < height_of uf a → linked uf a b ≡ joined_tells (done a) (hung uf b a)
  unfolding linked
  linked-left n h = simp (ne_eqb _ _ n, lt-ltb _ _ h)

  -- linking where the left root is the lower one, or as high
  pub linked-right : (a ≡ b → ⊥) → height_of uf a ≤ height_of uf b → linked uf a b ≡ joined_tells (done b) (hung uf a b)
  unfolding linked
  linked-right n h = simp (ne_eqb _ _ n, le-ltb _ _ h)

module _ (c : ℕ) (uf : UnionFind) (left right : ℕ) where
  -- a join in a record that isn't taken is refused
  pub join_untaken : taken c uf ≡ false → join_of c uf left right ≡ refused_join uf
  unfolding join_of
  join_untaken t = simp t

  -- a join of a left element that isn't under C is refused
  pub join_left_out : c ≤ left → join_of c uf left right ≡ refused_join uf
  unfolding join_of
  join_left_out h = simp (le-ltb _ _ h, and-false)

  -- a join of a right element that isn't under C is refused
  pub join_right_out : c ≤ right → join_of c uf left right ≡ refused_join uf
  unfolding join_of
  join_right_out h = simp (le-ltb _ _ h, and-false)

  -- otherwise a join links the two roots
  pub join_links : taken c uf ≡ true → left < c → right < c → join_of c uf left right ≡ linked uf (root_of uf left) (root_of uf right)
  unfolding join_of
  join_links t l r = simp (t, lt-ltb _ _ l, lt-ltb _ _ r)
