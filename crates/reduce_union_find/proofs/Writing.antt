-- The groups written into the pools: one class element by element, and the classes one after another.
use mathlib.Core.Path.{◌≡◌, refl, sym, ap, ◌∙◌}
use mathlib.Core.List.{List, [], ◌∷◌, ◌++◌, flatten}
use Prim.Native.Nat.{ℕ, ◌+◌, ◌≤◌, ◌<◌}
use native.Mathlib.Nat.{zero-add}
use native.Mathlib.Omega.{arith}
use lib.ListN.{length, set, replicate, length-append, length-map}
use lib.Seq.{sets, length-sets}
use Rattle.base_lists.specs.Group.{keep_below, class_of, heads, classes, ends_from}
use Rattle.base_lists.specs.Pool.{pad}
use Rattle.base_lists.proofs.Group.{class_in, class_out, class_room, class_fits, groups_to, groups_in, groups-out, heads_le, length-ends, ends_snoc, flatten_snoc}
use Rattle.base_lists.proofs.Pad.{sets_snoc, pad_nil, length-pad, pad-set, pad-sets}
use Rattle.day_rows.specs.Told.{done, outcome}
use Rattle.reduce_union_find.specs.Groups.{groups_written}

-- ---- one class

-- what a pool holds when the first i elements have been looked at
pub record Class (f : ℕ → ℕ) (v from : ℕ) (pool₀ : List ℕ) (i at : ℕ) (pool : List ℕ) : Type 0 where
  pub at-is : at ≡ from + length (class_of i f v)
  pub pool-is : pool ≡ sets pool₀ from (class_of i f v)

pub class_start : (f : ℕ → ℕ) (v from : ℕ) (pool : List ℕ) → Class f v from pool 0 from pool
unfolding class_of keep_below
class_start f v from pool = record { at-is = omega arith; pool-is = refl }

module _ (f : ℕ → ℕ) (v from : ℕ) (pool₀ : List ℕ) (i at : ℕ) (pool : List ℕ) (w : Class f v from pool₀ i at pool) where
  -- the next element belongs to the class, or to another
  pub class_takes : f i ≡ v → Class f v from pool₀ (i + 1) (at + 1) (set pool at i)
  class_takes e =
      let k : length (class_of i f v ++ (i ∷ [])) ≡ length (class_of i f v) + 1 = length-append (class_of i f v) (i ∷ []) in
      record {
        at-is = rw (class_in f v i e, k) (omega (arith, w.at-is));
        pool-is = rw (class_in f v i e, w.pool-is, w.at-is) (sets_snoc pool₀ from (class_of i f v) i);
      }

  pub class_skips : (f i ≡ v → ⊥) → Class f v from pool₀ (i + 1) at pool
  class_skips n = record { at-is = rw (class_out f v i n) w.at-is; pool-is = rw (class_out f v i n) w.pool-is }

  pub class_length : length pool ≡ length pool₀
  class_length = ap length w.pool-is ∙ length-sets pool₀ from (class_of i f v)

  -- an element of the class finds its place
  pub class_place : (n : ℕ) → i < n → f i ≡ v → from + length (class_of n f v) ≤ length pool₀ → at < length pool
  class_place n l e h = omega (arith, class_length, w.at-is, class_room n f v i l e)

-- ---- the classes one after another

-- what the pools hold when these groups have been written
pub record Written (groups : List (List ℕ)) (count at : ℕ) (members ends : List ℕ) : Type 0 where
  pub count-is : count ≡ length groups
  pub at-is : at ≡ length (flatten groups)
  pub members-is : members ≡ pad 64 (flatten groups)
  pub ends_is : ends ≡ pad 64 (ends_from 0 groups)

pub written_none : (r : ℕ) (f : ℕ → ℕ) (members ends : List ℕ) → members ≡ pad 64 [] → ends ≡ pad 64 [] → Written (groups_to 0 r f) 0 0 members ends
unfolding heads keep_below flatten ends_from
written_none r f members ends m e =
    record { count-is = refl; at-is = refl; members-is = m; ends_is = e }

-- a pool of 64 that has been cleared
pub cleared : (pool pool₀ : List ℕ) → pool ≡ replicate (length pool₀) 0 → length pool₀ ≡ 64 → pool ≡ pad 64 []
cleared pool pool₀ e h = e ∙ sym (pad_nil (length pool₀)) ∙ ap (λ (n : ℕ). pad n []) h

-- what the pools hold with one group more
pub written-more : (groups : List (List ℕ)) (count at : ℕ) (members ends : List ℕ) → Written groups count at members ends → (g : List ℕ) → length (flatten groups) + length g ≤ 64 → length groups < 64 → Written (groups ++ (g ∷ [])) (count + 1) (at + length g) (sets members at g) (set ends count (at + length g))
written-more groups count at members ends w g h k = record {
  count-is = rw (length-append groups (g ∷ []), w.count-is);
  at-is = rw (flatten_snoc groups g, length-append, w.at-is);
  members-is = rw (flatten_snoc groups g, w.members-is, w.at-is) (pad-sets 64 (flatten groups) g h);
  ends_is =
      rw (ends_snoc 0 groups g, zero-add, w.ends_is, w.count-is, w.at-is, sym (length-ends 0 groups))
      (pad-set 64 (ends_from 0 groups) _ (rw length-ends k));
}

module _ (r n : ℕ) (f : ℕ → ℕ) (count at : ℕ) (members ends : List ℕ) (small : n ≤ 64) (w : Written (groups_to r n f) count at members ends) where
  -- where a number is its own root its class is written
  pub groups-take : r < n → f r ≡ r → (at' : ℕ) (members' : List ℕ) → at' ≡ at + length (class_of n f r) → members' ≡ sets members at (class_of n f r) → Written (groups_to (r + 1) n f) (count + 1) at' members' (set ends count at')
  groups-take l e at' members' p q =
      rw (p, q, groups_in r n f e)
      (written-more _ count at members ends w (class_of n f r) (omega (arith, class_fits r n f)) (omega (arith, groups_le)))
    where
      groups_le : length (groups_to r n f) ≤ r
      groups_le = rw length-map (heads_le r f)

  -- where a number isn't its own root nothing is written
  pub groups_skip : (f r ≡ r → ⊥) → Written (groups_to (r + 1) n f) count at members ends
  groups_skip m = rw (groups-out r n f m) w

  pub groups-count : count ≤ r
  groups-count = rw (w.count-is, length-map) (heads_le r f)

  -- the class fits behind the groups before it
  pub at-fits : at + length (class_of n f r) ≤ 64
  at-fits = rw w.at-is (omega (arith, class_fits r n f))

  pub members-length : length members ≡ 64
  members-length = rw w.members-is (length-pad 64 _ (omega (arith, class_fits r n f)))

  pub ends-length : r ≤ n → length ends ≡ 64
  ends-length l = rw w.ends_is (length-pad 64 _ (rw (length-ends, length-map) (omega (arith, heads_le r f))))

-- where every number was looked at, all groups are written
pub groups-done : (n : ℕ) (f : ℕ → ℕ) (count at : ℕ) (members ends : List ℕ) → Written (groups_to n n f) count at members ends → outcome (done count) (members, ends) ≡ groups_written (classes n f)
unfolding groups_written classes
groups-done n f count at members ends w = rw (w.count-is, w.members-is, w.ends_is)
