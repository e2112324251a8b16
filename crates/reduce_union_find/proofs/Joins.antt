-- Joins one after another from the fresh state: two elements have one root exactly if the joined pairs link
-- them, in whatever order.
use mathlib.Core.Path.{◌≡◌, refl, sym, ap, subst, ◌∙◌}
use mathlib.Core.Bool.{Bool, true, false}
use mathlib.Core.List.Memᴰ
use mathlib.Core.List.{List, [], ◌∷◌, Memᴰ}
use mathlib.Core.Logic.{◌↔◌, inl, ⊎_elim}
use Prim.Native.Nat.{ℕ, ◌≤◌, ◌<◌}
use native.Mathlib.Omega.{arith}
use borrow.Author.Tests.{ltb-true, ltb-false}
use lib.Dec.{ltb}
use lib.ListN.{length}
use Rattle.base_lists.specs.Group.{classes}
use Rattle.reduce_union_find.specs.declared.UnionFind.{UnionFind}
use Rattle.day_rows.specs.Told.{done}
use Rattle.reduce_union_find.specs.State.{fresh, taken, root_of, find_of, join_of, join_from, join_all}
use Rattle.reduce_union_find.specs.Groups.{groups_written, groups_of}
use Rattle.reduce_union_find.proofs.Entry.{taken_of}
use Rattle.reduce_union_find.proofs.Root.{find_root}
use Rattle.reduce_union_find.proofs.Linking.{join_left_out, join_right_out}
use Rattle.reduce_union_find.proofs.Way.{top-root}
use Rattle.reduce_union_find.proofs.Together.{Either, Merged, join_merges, join_one}
use Rattle.reduce_union_find.proofs.Grouping.{groups-wrote}
use Rattle.reduce_union_find.proofs.Made.{Made, made-fresh, made_join, fresh-top, never-refused}

-- ---- find and groups after joins from the fresh state

pub find_made : (c : ℕ) → c ≤ 64 → (pairs : List (ℕ × ℕ)) (element : ℕ) → element < c → find_of c (join_all c pairs) element ≡ done (root_of (join_all c pairs) element)
find_made c m pairs element l = find_root c _ element (never-refused c m pairs) l

pub groups-made : (c : ℕ) → c ≤ 64 → (pairs : List (ℕ × ℕ)) (members ends : List ℕ) → length members ≡ 64 → length ends ≡ 64 → groups_of c (join_all c pairs) members ends ≡ groups_written (classes c (root_of (join_all c pairs)))
groups-made c m pairs members ends p q = groups-wrote c _ members ends (never-refused c m pairs) p q

-- ---- joins one by one

pub join_start : (c : ℕ) (pairs : List (ℕ × ℕ)) → join_all c pairs ≡ join_from c fresh pairs
unfolding join_all
join_start c pairs = refl

pub join_next : (c : ℕ) (uf : UnionFind) (p : ℕ × ℕ) (pairs : List (ℕ × ℕ)) → join_from c uf (p ∷ pairs) ≡ join_from c (join_of c uf p.0 p.1).state pairs
unfolding join_from
join_next c uf p pairs = refl

pub join_end : (c : ℕ) (uf : UnionFind) → join_from c uf [] ≡ uf
unfolding join_from
join_end c uf = refl

-- ---- one join of a record that is made

module _ (c : ℕ) (uf : UnionFind) (m : Made c uf) (left right : ℕ) (l : left < c) (r : right < c) where
  before : taken c uf ≡ true
  before = taken_of c uf m.sound

  back : taken c (join_of c uf left right).state ≡ true
  back = taken_of c _ (made_join c uf m left right).sound

  -- two elements have one root afterwards exactly if they had before, or were in the two joined groups
  pub made_merges : (i j : ℕ) → i < c → j < c → (root_of (join_of c uf left right).state i ≡ root_of (join_of c uf left right).state j) ↔ Merged (root_of uf left) (root_of uf right) (root_of uf i) (root_of uf j)
  made_merges = join_merges c uf left right m.parents_wide m.heights_wide before back l r

  pub made_one : root_of (join_of c uf left right).state left ≡ root_of (join_of c uf left right).state right
  made_one = join_one c uf left right m.parents_wide m.heights_wide before back l r

-- ---- elements that pairs link

-- the pairs of elements make two elements one: by a pair, and as equality goes
pub data Linked (c : ℕ) (pairs : List (ℕ × ℕ)) : ℕ → ℕ → Type 0 where
  pair : {a b : ℕ} → Memᴰ (a, b) pairs → a < c → b < c → Linked c pairs a b
  same : {a b : ℕ} → a ≡ b → Linked c pairs a b
  turn : {a b : ℕ} → Linked c pairs a b → Linked c pairs b a
  chain : {a b d : ℕ} → Linked c pairs a b → Linked c pairs b d → Linked c pairs a d

-- a join leaves together what is together, whatever it is asked to join
join_keeps : (c : ℕ) (uf : UnionFind) → Made c uf → (left right i j : ℕ) → i < c → j < c → root_of uf i ≡ root_of uf j → root_of (join_of c uf left right).state i ≡ root_of (join_of c uf left right).state j
join_keeps c uf m left right i j k h e = go (ltb left c) (ltb right c) refl refl
  where
    go : (t u : Bool) → ltb left c ≡ t → ltb right c ≡ u → root_of (join_of c uf left right).state i ≡ root_of (join_of c uf left right).state j
    go false u t v = rw (join_left_out c uf left right (ltb-false _ _ t)) e
    go true false t v = rw (join_right_out c uf left right (ltb-false _ _ v)) e
    go true true t v = (made_merges c uf m left right (ltb-true _ _ t) (ltb-true _ _ v) i j k h).1 (inl e)

from-keeps : (c : ℕ) (uf : UnionFind) → Made c uf → (pairs : List (ℕ × ℕ)) (i j : ℕ) → i < c → j < c → root_of uf i ≡ root_of uf j → root_of (join_from c uf pairs) i ≡ root_of (join_from c uf pairs) j
unfolding join_from
from-keeps c uf m [] i j k h e = e
from-keeps c uf m (p ∷ pairs) i j k h e =
    from-keeps c (join_of c uf p.0 p.1).state (made_join c uf m p.0 p.1) pairs i j k h (join_keeps c uf m p.0 p.1 i j k h e)

-- the elements of every joined pair have one root at the end
from-joins : (c : ℕ) (uf : UnionFind) → Made c uf → (pairs : List (ℕ × ℕ)) (a b : ℕ) → a < c → b < c → Memᴰ (a, b) pairs → root_of (join_from c uf pairs) a ≡ root_of (join_from c uf pairs) b
unfolding join_from
from-joins c uf m [] a b k h q = absurd (Memᴰ.not-nil q)
from-joins c uf m (p ∷ pairs) a b k h q = ⊎_elim
    (λ e. from-keeps c (join_of c uf p.0 p.1).state (made_join c uf m p.0 p.1) pairs a b k h (subst (λ (z : ℕ × ℕ). root_of (join_of c uf z.0 z.1).state a ≡ root_of (join_of c uf z.0 z.1).state b) e (made_one c uf m a b k h)))
    (λ t. from-joins c (join_of c uf p.0 p.1).state (made_join c uf m p.0 p.1) pairs a b k h t)
    (Memᴰ.cases_cons q)

-- linked elements have one root after the joins
linked-joins : (c : ℕ) → c ≤ 64 → (pairs : List (ℕ × ℕ)) {i j : ℕ} → Linked c pairs i j → root_of (join_all c pairs) i ≡ root_of (join_all c pairs) j
unfolding join_all
linked-joins c m pairs (pair q k h) = from-joins c fresh (made-fresh c m) pairs _ _ k h q
linked-joins c m pairs (same e) = ap (root_of _) e
linked-joins c m pairs (turn w) = sym (linked-joins c m pairs w)
linked-joins c m pairs (chain v w) = linked-joins c m pairs v ∙ linked-joins c m pairs w

-- elements that have one root are linked, as long as they were by the pairs joined so far
module _ (c : ℕ) (all : List (ℕ × ℕ)) where
  Links : UnionFind → Type 0
  Links uf = (i j : ℕ) → i < c → j < c → root_of uf i ≡ root_of uf j → Linked c all i j

  -- one root with an end of the pair: linked to both ends
  to_left : (uf : UnionFind) → Links uf → (left right : ℕ) → left < c → right < c → Linked c all left right → (i : ℕ) → i < c → Either (root_of uf left) (root_of uf right) (root_of uf i) → Linked c all i left
  unfolding Links
  to_left uf w left right l r p i k e = ⊎_elim (λ z. w i left k l z) (λ z. chain (w i right k r z) (turn p)) e

  join_on : (uf : UnionFind) → Made c uf → Links uf → (left right : ℕ) → Memᴰ (left, right) all → Links (join_of c uf left right).state
  unfolding Links
  join_on uf m w left right q i j k h = go (ltb left c) (ltb right c) refl refl
    where
      go : (t u : Bool) → ltb left c ≡ t → ltb right c ≡ u → root_of (join_of c uf left right).state i ≡ root_of (join_of c uf left right).state j → Linked c all i j
      go false u t v = rw (join_left_out c uf left right (ltb-false _ _ t)) (w i j k h)
      go true false t v = rw (join_right_out c uf left right (ltb-false _ _ v)) (w i j k h)
      go true true t v = λ e.
          let l = ltb-true _ _ t in
          let r = ltb-true _ _ v in
          let p = pair q l r in
          ⊎_elim (λ z. w i j k h z)
          (λ z. chain (to_left uf w left right l r p i k z.0) (turn (to_left uf w left right l r p j h z.1)))
          ((made_merges c uf m left right l r i j k h).0 e)

  from_on : (uf : UnionFind) → Made c uf → Links uf → (pairs : List (ℕ × ℕ)) → ((p : ℕ × ℕ) → Memᴰ p pairs → Memᴰ p all) → Links (join_from c uf pairs)
  unfolding join_from
  from_on uf m w [] sub = w
  from_on uf m w (p ∷ pairs) sub =
      from_on (join_of c uf p.0 p.1).state (made_join c uf m p.0 p.1) (join_on uf m w p.0 p.1 (sub p (Memᴰ.head refl))) pairs
      (λ z q. sub z (Memᴰ.tail q))

  fresh_on : c ≤ 64 → Links fresh
  unfolding Links
  fresh_on m i j k h e =
      same (sym (top-root fresh i (fresh-top i (omega arith))) ∙ e ∙ top-root fresh j (fresh-top j (omega arith)))

-- two elements have one root after the joins exactly if the pairs link them
pub joined-exactly : (c : ℕ) → c ≤ 64 → (pairs : List (ℕ × ℕ)) (i j : ℕ) → i < c → j < c → (root_of (join_all c pairs) i ≡ root_of (join_all c pairs) j) ↔ Linked c pairs i j
unfolding join_all Links
joined-exactly c m pairs i j k h =
    (from_on c pairs fresh (made-fresh c m) (fresh_on c pairs m) pairs (λ p q. q) i j k h, λ w. linked-joins c m pairs w)

-- links go by what pairs there are
pub linked-more : (c : ℕ) (ps qs : List (ℕ × ℕ)) → ((p : ℕ × ℕ) → Memᴰ p ps → Memᴰ p qs) → {i j : ℕ} → Linked c ps i j → Linked c qs i j
linked-more c ps qs sub (pair q k h) = pair (sub _ q) k h
linked-more c ps qs sub (same e) = same e
linked-more c ps qs sub (turn w) = turn (linked-more c ps qs sub w)
linked-more c ps qs sub (chain v w) = chain (linked-more c ps qs sub v) (linked-more c ps qs sub w)

-- joins in any order, some of them more than once, give the same groups
pub any_order : (c : ℕ) → c ≤ 64 → (ps qs : List (ℕ × ℕ)) → ((p : ℕ × ℕ) → Memᴰ p ps ↔ Memᴰ p qs) → (i j : ℕ) → i < c → j < c → (root_of (join_all c ps) i ≡ root_of (join_all c ps) j) ↔ (root_of (join_all c qs) i ≡ root_of (join_all c qs) j)
any_order c m ps qs e i j k h = (
  λ z. (joined-exactly c m qs i j k h).1 (linked-more c ps qs (λ p. (e p).0) ((joined-exactly c m ps i j k h).0 z)),
  λ z. (joined-exactly c m ps i j k h).1 (linked-more c qs ps (λ p. (e p).1) ((joined-exactly c m qs i j k h).0 z)),
)
