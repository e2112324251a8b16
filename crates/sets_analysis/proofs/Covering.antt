-- One critical set covered by another, and a list of them covered by another list: both are orders.
use mathlib.Core.Path.{◌≡◌, refl}
use mathlib.Core.Bool.{true}
use mathlib.Core.List.{List, Memᴰ}
use Prim.Native.Nat.{ℕ, ◌≤◌}
use native.Mathlib.Omega.{arith}
use borrow.Author.Tests.{le-leb, leb-true, eq-eqb}
use lib.Dec.{eqb, leb}
use Rattle.base_lists.proofs.Below.{and_both, and_left, and_right}
use Rattle.base_choice_sets.specs.Sets.{within, same_choices}
use Rattle.sets_analysis.specs.Kept.{CriticalSet, covered_by, same_set}
use Rattle.sets_analysis.specs.Bound.{is_above}
use Rattle.base_choice_sets.proofs.SetLaws.{within_refl, within_trans}
use Rattle.sets_analysis.proofs.SetOrder.{same_self}

-- a set is covered by its two parts: 'covered: level not higher, and a superset'
pub covers : (other set : CriticalSet) → set.level ≤ other.level → within other.members set.members ≡ true → covered_by other set ≡ true
unfolding covered_by
covers other set h w = and_both (leb set.level other.level) (within other.members set.members) (le-leb set.level other.level h) w

-- the level of a covered set is not higher
pub covered_level : (other set : CriticalSet) → covered_by other set ≡ true → set.level ≤ other.level
unfolding covered_by
covered_level other set h = leb-true set.level other.level (and_left (leb set.level other.level) (within other.members set.members) h)

-- a covered set is a superset
pub covered_within : (other set : CriticalSet) → covered_by other set ≡ true → within other.members set.members ≡ true
unfolding covered_by
covered_within other set h = and_right (leb set.level other.level) (within other.members set.members) h

-- every set covers itself
pub covered_self : (set : CriticalSet) → covered_by set set ≡ true
covered_self set = covers set set (omega arith) (within_refl set.members)

-- a set that covers a covering set covers what that one covers
pub covered_through : (a b c : CriticalSet) → covered_by a b ≡ true → covered_by b c ≡ true → covered_by a c ≡ true
covered_through a b c h k =
    covers a c (omega (arith, covered_level a b h, covered_level b c k))
    (within_trans a.members b.members c.members (covered_within a b h) (covered_within b c k))

-- a set is the same as itself
pub same-set_self : (set : CriticalSet) → same_set set set ≡ true
unfolding same_set
same-set_self set =
    and_both (eqb set.level set.level) (same_choices set.members set.members) (eq-eqb set.level set.level refl) (same_self set.members)

-- a set whose level is at least the limit is 'of that level or above'
pub above : (limit : ℕ) (set : CriticalSet) → limit ≤ set.level → is_above limit set ≡ true
unfolding is_above
above limit set h = le-leb limit set.level h

-- the level of a set of that level or above is at least the limit
pub above-level : (limit : ℕ) (set : CriticalSet) → is_above limit set ≡ true → limit ≤ set.level
unfolding is_above
above-level limit set h = leb-true limit set.level h

-- a set of a list that covers this one
pub record CoverIn (others : List CriticalSet) (set : CriticalSet) : Type 0 where
  pub other : CriticalSet
  pub listed : Memᴰ other others
  pub covering : covered_by other set ≡ true

-- a covering set of a list by its parts
abbrev pub cover_in : {others : List CriticalSet} {set : CriticalSet} (other : CriticalSet) → Memᴰ other others → covered_by other set ≡ true → CoverIn others set
cover_in other listed covering = record { other = other; listed = listed; covering = covering }

-- every set of a list is covered by one of another list
abbrev pub CoveredIn : List CriticalSet → List CriticalSet → Type 0
CoveredIn others sets = (set : CriticalSet) → Memᴰ set sets → CoverIn others set

-- every list covers itself
pub covered_in_self : (sets : List CriticalSet) → CoveredIn sets sets
covered_in_self sets set m = cover_in set m (covered_self set)

-- a list that covers a covering list covers what that one covers
pub covered_in_through : (a b c : List CriticalSet) → CoveredIn a b → CoveredIn b c → CoveredIn a c
covered_in_through a b c h k set m =
    let r = k set m in
    let s = h r.other r.listed in
    cover_in s.other s.listed (covered_through s.other r.other set s.covering r.covering)
