-- The groups as they lie in their pools: within the limits of a day, so that what is written for them can be
-- counted.
use Rattle.std.specs.Prelude.{Bool, true, ◌&&◌, cond, List, [], ◌∷◌, ℕ, leb, length}
use Rattle.base_lists.specs.steps.Cut.{cut_at, EndsFit}
use Rattle.reduce_added.specs.Copies.{copies_all}
use Rattle.reduce_added.specs.declared.groups.Grouped as lent

-- the groups that a call is lent
abbrev pub groups_lent : lent.Grouped → List (List ℕ)
groups_lent groups = cut_at 0 groups.ends.now groups.members.now

-- the ends are ends of the members: they don't fall, and none is past them
abbrev pub Lie : lent.Grouped → Type 0
Lie groups = EndsFit 0 groups.ends.now (length groups.members.now)

-- a test of the groups' ends: they don't fall, and none is past `size`
unfoldable pub ends_fit : ℕ → List ℕ → ℕ → Bool
ends_fit start [] size = true
ends_fit start (end ∷ ends) size = leb start end && leb end size && ends_fit end ends size

-- a test of groups: at most 64 members in at most 64 groups, and the ends are theirs
unfoldable pub groups_fit : List ℕ → List ℕ → Bool
groups_fit members ends = leb (length members) 64 && leb (length ends) 64 && ends_fit 0 ends (length members)

-- the copies of at most 128 rows in groups that fit; else none
unfoldable pub copies_for : List ℕ → List ℕ → List ℕ → List ℕ
copies_for members ends rows =
    cond (leb (length rows) 128 && groups_fit members ends) (copies_all (cut_at 0 ends members) rows) []
