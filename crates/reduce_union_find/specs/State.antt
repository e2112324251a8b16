-- Module 1's record of parents and heights: which records are taken, the climb to the root, and the join.
use Rattle.std.specs.Prelude.{Bool, cond, ◌&&◌, ◌||◌, List, [], ◌∷◌, ℕ, zero, suc, ◌+◌, max, eqb, ltb, leb, get_or, set, replicate}
use Rattle.base_lists.specs.Below.{all_below}
use Rattle.day_rows.specs.Told.{Told, done, refuse, unless}
use Rattle.reduce_union_find.specs.declared.UnionFind.{UnionFind}

-- 'The state of parents and heights is one record by value'; the parent 255 stands for none
abbrev pub state : List ℕ → List ℕ → UnionFind
state parents heights = record { parents = parents; heights = heights }

-- the fresh state: 'Elements 0..C-1, no parents, heights 0'
unfoldable pub fresh : UnionFind
fresh = state (replicate 64 255) (replicate 64 0)

-- the parent of an element, 255 for none
abbrev pub parent_of : UnionFind → ℕ → ℕ
parent_of uf i = get_or uf.parents i 0

-- the height of an element
abbrev pub height_of : UnionFind → ℕ → ℕ
height_of uf i = get_or uf.heights i 0

-- an entry has no 'height over 64' and no 'parent that isn't an element of larger height'
unfoldable pub sound_at : ℕ → UnionFind → ℕ → Bool
sound_at choices uf i =
    leb (height_of uf i) 64
    && (eqb (parent_of uf i) 255
    || ltb (parent_of uf i) choices && ltb (height_of uf i) (height_of uf (parent_of uf i)))

-- a record that doesn't get 1: C is at most 64, and its first C entries are sound
unfoldable pub taken : ℕ → UnionFind → Bool
taken choices uf = leb choices 64 && all_below choices (sound_at choices uf)

-- 'The climb from an element to its root calls itself on the parent', here at most `left` times
unfoldable pub climb : ℕ → List ℕ → ℕ → ℕ
climb zero parents i = i
climb (suc left) parents i = cond (eqb (get_or parents i 0) 255) i (climb left parents (get_or parents i 0))

-- the root of an element: heights rise along the parents, so that a record that is taken needs at most 64
-- steps
unfoldable pub root_of : UnionFind → ℕ → ℕ
root_of uf i = climb 64 uf.parents i

-- find: the root; 1 for a bad record and for 'an element not under C'
unfoldable pub find_of : ℕ → UnionFind → ℕ → Told ℕ
find_of choices uf element = unless (taken choices uf && ltb element choices) 1 (done (root_of uf element))

-- what a join hands back: the root that both elements now have, and the record
pub record JoinedTells : Type 0 where
  pub found : Told ℕ
  pub state : UnionFind

-- the root and the record of a join as one value
abbrev pub joined_tells : Told ℕ → UnionFind → JoinedTells
joined_tells found uf = record { found = found; state = uf }

-- a root 'hangs under the higher .., whose height becomes the larger of its own and the other's plus 1'
unfoldable pub hung : UnionFind → ℕ → ℕ → UnionFind
hung uf lower higher =
    state
    (set uf.parents lower higher)
    (set uf.heights higher (max (height_of uf higher) (height_of uf lower + 1)))

-- two roots linked: 'nothing if both have one root; else the lower root hangs under the higher (equal: left's
-- under right's)'
unfoldable pub linked : UnionFind → ℕ → ℕ → JoinedTells
linked uf left right =
    cond (eqb left right) (joined_tells (done right) uf)
    (cond (ltb (height_of uf right) (height_of uf left))
    (joined_tells (done left) (hung uf right left))
    (joined_tells (done right) (hung uf left right)))

-- a join that gets 1 leaves the record as it was
abbrev pub refused_join : UnionFind → JoinedTells
refused_join uf = joined_tells (refuse 1) uf

-- join: the roots linked; 1 for a bad record and for 'an element not under C'
unfoldable pub join_of : ℕ → UnionFind → ℕ → ℕ → JoinedTells
join_of choices uf left right =
    cond (taken choices uf && ltb left choices && ltb right choices)
    (linked uf (root_of uf left) (root_of uf right))
    (refused_join uf)

-- joins one after another, from a record on
unfoldable pub join_from : ℕ → UnionFind → List (ℕ × ℕ) → UnionFind
join_from choices uf [] = uf
join_from choices uf (pair ∷ pairs) = join_from choices (join_of choices uf pair.0 pair.1).state pairs

-- joins one after another from the fresh state
unfoldable pub join_all : ℕ → List (ℕ × ℕ) → UnionFind
join_all choices pairs = join_from choices fresh pairs
