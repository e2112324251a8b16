-- 'Groups, singles included, go by rising root, members rising.'
use Rattle.std.specs.Prelude.{◌&&◌, ℕ, eqb, length}
use mathlib.Core.List.{List, flatten}
use Rattle.base_lists.specs.Group.{classes, ends_from}
use Rattle.base_lists.specs.Pool.{pad}
use Rattle.day_rows.specs.Told.{done, good, unless, Outcome, outcome, judged}
use Rattle.reduce_union_find.specs.declared.UnionFind.{UnionFind}
use Rattle.reduce_union_find.specs.State.{taken, root_of}

-- what groups hands back: how many there are, or the number; and its two pools, of members and of ends
abbrev pub GroupsOutcome : Type 0
GroupsOutcome = Outcome ℕ (List ℕ × List ℕ)

-- the groups one after another, and where each ends; 'Success zeroes a pool past its result'
unfoldable pub groups_written : List (List ℕ) → GroupsOutcome
groups_written groups = outcome (done (length groups)) (pad 64 (flatten groups), pad 64 (ends_from 0 groups))

-- what groups leaves: the classes of equal root; or 1 for a bad record, then 2 for a pool that isn't 64 long,
-- the pools as they were
unfoldable pub groups_of : ℕ → UnionFind → List ℕ → List ℕ → GroupsOutcome
groups_of choices uf members ends =
    judged
    (unless (taken choices uf) 1
    (unless (eqb (length members) 64 && eqb (length ends) 64) 2
    good))
    (members, ends)
    (groups_written (classes choices (root_of uf)))
