-- K9's first bucket, and critical slots: one is tried alone, of two none is.
use mathlib.Core.Path.{◌≡◌, refl}
use mathlib.Core.Bool.{true, false}
use mathlib.Core.List.{[], ◌∷◌}
use Prim.Native.Nat.{ℕ}
use Rattle.base_lists.specs.All.{all_of}
use Rattle.base_lists.specs.Below.{all_below}
use Rattle.base_lists.specs.First.{first_failing}
use Rattle.base_lists.specs.Group.{keep_below}
use Rattle.base_lists.specs.Keep.{any_of}
use Rattle.base_choice_sets.specs.Reach.{some_stuck}
use Rattle.base_pools.specs.Insert.{insert_at, insert_after}
use Rattle.search_candidates.specs.Allow.{each_allows, rows_allow}
use Rattle.search_candidates.specs.Loads.{loads_of, min_of, max_of, size_of}
use Rattle.search_candidates.specs.Tests.{some_short, sets_stuck, critical_slots}
use Rattle.search_candidates.specs.Bucket.{Asked, asked_of, allows, hopeless, is_open, open_below, may_omit, with_omission, critical_of, bucket_of, draws_one, written, bucket_fits, fill_of}

-- S 1, H 4: choice 0, optional 3..3, is the first of two, the other 2..4; the draw is 1
abbrev k9 : Asked
k9 =
    asked_of (record { choices = 2; slots = 1; choosers = 4; rows = 0 })
    (record { choice = 0; min = 3; max = 3; optional = 1; last = false; remaining = 7; draw = 1 }) [] [] [] (loads_of (254 ∷ 254 ∷ []) (0 ∷ []) (0 ∷ []) (0 ∷ []))

pub k9_bucket : bucket_of k9 ≡ 0 ∷ 255 ∷ []
unfolding bucket_of hopeless some_short all_below max_of sets_stuck some_stuck any_of critical_of critical_slots keep_below open_below is_open min_of allows size_of rows_allow each_allows all_of insert_after insert_at first_failing may_omit with_omission
k9_bucket = refl

-- written over the front of a list of 4, with a draw used
pub k9-written : fill_of k9 (9 ∷ 9 ∷ 9 ∷ 9 ∷ []) ≡ written 2 true (0 ∷ 255 ∷ 9 ∷ 9 ∷ [])
unfolding fill_of bucket_fits draws_one bucket_of hopeless some_short all_below max_of sets_stuck some_stuck any_of critical_of critical_slots keep_below open_below is_open min_of allows size_of rows_allow each_allows all_of insert_after insert_at first_failing may_omit with_omission
k9-written = refl

-- S 2, H 4, an optional choice 0..3 with 5 remaining: a slot needs it if the others' 2 don't reach 4 there
abbrev needed : ℕ → ℕ → Asked
needed first second =
    asked_of (record { choices = 3; slots = 2; choosers = 4; rows = 0 })
    (record { choice = 0; min = 0; max = 3; optional = 1; last = false; remaining = 5; draw = 0 }) [] [] [] (loads_of (254 ∷ 254 ∷ 0 ∷ []) (0 ∷ 0 ∷ []) (first ∷ second ∷ []) (1 ∷ 0 ∷ []))

pub one_critical_alone : bucket_of (needed 4 0) ≡ 1 ∷ []
unfolding bucket_of hopeless some_short all_below max_of sets_stuck some_stuck any_of critical_of critical_slots keep_below allows size_of rows_allow each_allows all_of
one_critical_alone = refl

pub two_critical_none : bucket_of (needed 1 0) ≡ []
unfolding bucket_of hopeless some_short all_below max_of sets_stuck some_stuck any_of critical_of critical_slots keep_below
two_critical_none = refl
