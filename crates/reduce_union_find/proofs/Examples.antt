-- Small runs, computed from the definitions.
use mathlib.Core.Path.{◌≡◌, refl}
use mathlib.Core.List.{[], ◌∷◌}
use lib.ListN.{replicate}
use Rattle.base_lists.specs.Below.{all_below}
use Rattle.base_lists.specs.Group.{keep_below, class_of, heads, classes}
use Rattle.reduce_union_find.specs.declared.UnionFind.{UnionFind}
use Rattle.day_rows.specs.Told.{done, refuse}
use Rattle.reduce_union_find.specs.State.{state, fresh, sound_at, taken, climb, root_of, find_of, hung, linked, join_of, join_from, join_all}

-- 0 with 3, 1 with 2, then 3 with 1, of five: the group of root 2, and 4 alone
pub five : classes 5 (root_of (join_all 5 ((0, 3) ∷ (1, 2) ∷ (3, 1) ∷ []))) ≡ (0 ∷ 1 ∷ 2 ∷ 3 ∷ []) ∷ (4 ∷ []) ∷ []
unfolding classes heads class_of keep_below root_of climb join_all join_from join_of linked hung fresh taken sound_at all_below
five = refl

-- 64 choices are taken, 65 get 1
pub limit : find_of 64 fresh 63 ≡ done 63
unfolding find_of root_of climb fresh taken sound_at all_below
limit = refl

pub over : find_of 65 fresh 63 ≡ refuse 1
unfolding find_of root_of climb fresh taken sound_at all_below
over = refl

-- two roots of height 64 are joined, and the record with height 65 is refused from then on
pub tall : UnionFind
tall = state (replicate 64 255) (replicate 64 64)

pub tall-joined : (join_of 2 tall 0 1).found ≡ done 1
unfolding tall join_of linked hung root_of climb taken sound_at all_below
tall-joined = refl

pub tall-refused : find_of 2 (join_of 2 tall 0 1).state 0 ≡ refuse 1
unfolding tall find_of join_of linked hung root_of climb taken sound_at all_below
tall-refused = refl
