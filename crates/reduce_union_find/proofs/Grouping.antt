-- `groups`: a law for each way through it.
use mathlib.Core.Path.{◌≡◌, refl}
use mathlib.Core.Bool.{true, false, and-false}
use mathlib.Core.List.{List}
use Prim.Native.Nat.{ℕ}
use borrow.Author.Tests.{eq-eqb, ne_eqb}
use lib.ListN.{length}
use Rattle.base_lists.specs.Group.{classes}
use Rattle.day_rows.specs.Told.{refuse, outcome}
use Rattle.reduce_union_find.specs.declared.UnionFind.{UnionFind}
use Rattle.reduce_union_find.specs.State.{taken, climb, root_of}
use Rattle.reduce_union_find.specs.steps.Climbs.{Climbs}
use Rattle.reduce_union_find.specs.Groups.{groups_written, groups_of}
use Rattle.reduce_union_find.proofs.Entry.{sound_of}
use Rattle.reduce_union_find.proofs.Root.{taken-ends}

module _ (c : ℕ) (uf : UnionFind) (members ends : List ℕ) where
  -- groups of a record that isn't taken: 1
  pub groups_untaken : taken c uf ≡ false → groups_of c uf members ends ≡ outcome (refuse 1) (members, ends)
  unfolding groups_of
  groups_untaken t = simp t

  -- groups with a pool of members that isn't 64 long: 2
  pub groups-members : taken c uf ≡ true → (length members ≡ 64 → ⊥) → groups_of c uf members ends ≡ outcome (refuse 2) (members, ends)
  unfolding groups_of
  groups-members t n = simp (t, ne_eqb _ _ n)

  -- groups with a pool of ends that isn't 64 long: 2
  pub groups-ends : taken c uf ≡ true → (length ends ≡ 64 → ⊥) → groups_of c uf members ends ≡ outcome (refuse 2) (members, ends)
  unfolding groups_of
  groups-ends t n = simp (t, ne_eqb _ _ n, and-false)

  -- otherwise groups writes the classes of equal root
  pub groups-wrote : taken c uf ≡ true → length members ≡ 64 → length ends ≡ 64 → groups_of c uf members ends ≡ groups_written (classes c (root_of uf))
  unfolding groups_of
  groups-wrote t m e = simp (t, eq-eqb _ _ m, eq-eqb _ _ e)

-- the code's climb without a step climbed gives each root
pub roots_are : (c : ℕ) (uf : UnionFind) → classes c (climb 64 uf.parents) ≡ classes c (root_of uf)
unfolding root_of
roots_are c uf = refl

-- in a record that is taken every climb ends
pub taken_climbs : (c : ℕ) (uf : UnionFind) → length uf.parents ≡ 64 → taken c uf ≡ true → Climbs uf.parents c
taken_climbs c uf w t = record { wide = w; small = (sound_of c uf t).small; ends = taken-ends c uf t }
