-- The groups are the partition of the elements into classes of equal root.
use mathlib.Core.Path.{◌≡◌}
use mathlib.Core.Bool.{true}
use mathlib.Core.List.{List, map, flatten, Memᴰ}
use mathlib.Core.Logic.{◌↔◌}
use Prim.Native.Nat.{ℕ, ◌≤◌, ◌<◌}
use lib.ListN.{get_or}
use Rattle.base_lists.specs.Group.{class_of, heads, classes, times_in}
use Rattle.base_lists.specs.Sorted.{Rises}
use Rattle.base_lists.proofs.Partition.{Keeps, classes-once, classes-none, class_there, one_class, class_rises, heads-rise, classes-names}
use Rattle.reduce_union_find.specs.declared.UnionFind.{UnionFind}
use Rattle.reduce_union_find.specs.State.{taken, root_of}
use Rattle.reduce_union_find.proofs.Entry.{sound_of}
use Rattle.reduce_union_find.proofs.Way.{root_below, root-root}

module _ (c : ℕ) (uf : UnionFind) (t : taken c uf ≡ true) where
  -- a root is an element and its own root
  pub roots_keep : Keeps c (root_of uf)
  unfolding Keeps
  roots_keep i l =
      let s = sound_of c uf t in
      (root_below c uf s i l, root-root c uf s i l)

  -- each element stands in exactly one group, once, and nothing else does
  pub groups-once : (x : ℕ) → x < c → times_in x (flatten (classes c (root_of uf))) ≡ 1
  groups-once = classes-once c (root_of uf) roots_keep

  pub groups_none : (x : ℕ) → c ≤ x → times_in x (flatten (classes c (root_of uf))) ≡ 0
  groups_none = classes-none c (root_of uf)

  -- the class of each element's root is one of the groups
  pub group_there : (x : ℕ) → x < c → Memᴰ (class_of c (root_of uf) (root_of uf x)) (classes c (root_of uf))
  group_there = class_there c (root_of uf) roots_keep

  -- two elements are in one group exactly if their roots are equal
  pub one_group : {g : List ℕ} → Memᴰ g (classes c (root_of uf)) → (i j : ℕ) → Memᴰ i g → Memᴰ j g ↔ ((j < c) × (root_of uf j ≡ root_of uf i))
  one_group m = one_class c (root_of uf) m

  -- the members of each group rise
  pub members-rise : {g : List ℕ} → Memᴰ g (classes c (root_of uf)) → Rises g
  members-rise m = class_rises c (root_of uf) m

  -- groups go by rising root: the root of each one's first member
  pub groups_roots : map (λ g. root_of uf (get_or g 0 0)) (classes c (root_of uf)) ≡ heads c (root_of uf)
  groups_roots = classes-names c (root_of uf)

  pub roots_rise : Rises (heads c (root_of uf))
  roots_rise = heads-rise c (root_of uf)
