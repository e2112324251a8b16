-- Where kept sets come from: each is some chooser's set at some level of the day's list, and every such set
-- that has room is covered by a kept one.
use mathlib.Core.Path.{◌≡◌, refl, sym, ◌∙◌, ap}
use mathlib.Core.Bool.{true, false, ◌&&◌, cond, false≢true}
use mathlib.Core.List.{List, [], ◌∷◌, ◌++◌, Memᴰ}
use mathlib.Core.Logic.{⊎_elim}
use Prim.Native.Nat.{ℕ, ◌+◌, ◌-◌, ◌^◌, ◌≤◌, ◌<◌}
use native.Mathlib.Omega.{arith}
use borrow.Author.Tests.{le-ltb, ltb-false, eqb-true}
use lib.Dec.{eqb, ltb, leb}
use lib.ListN.{length}
use Rattle.base_lists.specs.Flat.{list_below}
use Rattle.base_lists.specs.Keep.{any_of}
use Rattle.base_lists.proofs.Below.{and_left, and_right}
use Rattle.base_choice_sets.proofs.SetLaws.{set-fits}
use Rattle.sets_analysis.specs.SetsDay.{SetsDay, preference_of, sets_lengths_fit}
use Rattle.sets_analysis.specs.Kept.{CriticalSet, candidate_of, level_down, candidates, min_sum, room_of, covered_by, skipped, kept_from, kept_sets}
use Rattle.sets_analysis.proofs.Members.{any_member, or_cases, neither_left, neither_right, in_list, list_in, in_join, join_in}
use Rattle.sets_analysis.proofs.Pairwise.{member-at}
use Rattle.sets_analysis.proofs.Picked.{picked, picked-new, picked_or}
use Rattle.sets_analysis.proofs.Covering.{CoverIn, cover_in, covered_self}

-- what is kept of a list of sets is picked from it
pub kept-picked : (day : SetsDay) (kept sets : List CriticalSet) → kept_from day kept sets ≡ picked (skipped day) kept sets
unfolding kept_from picked
kept-picked day kept [] = refl
kept-picked day kept (set ∷ sets) = kept-picked day (cond (skipped day kept set) kept (kept ++ (set ∷ []))) sets

-- the kept sets are picked from the candidates, from none at the start
pub kept-sets-picked : (day : SetsDay) → kept_sets day ≡ picked (skipped day) [] (candidates day)
unfolding kept_sets
kept-sets-picked day = kept-picked day [] (candidates day)

-- a set that isn't skipped has room
pub unskipped_room : (day : SetsDay) (kept : List CriticalSet) (set : CriticalSet) → skipped day kept set ≡ false → min_sum day set ≤ room_of day
unfolding skipped
unskipped_room day kept set h =
    ltb-false (room_of day) (min_sum day set) (neither_left (ltb (room_of day) (min_sum day set)) (any_of (λ other. covered_by other set) kept) h)

-- a set that isn't skipped is covered by no kept set
pub unskipped_uncovered : (day : SetsDay) (kept : List CriticalSet) (set : CriticalSet) → skipped day kept set ≡ false → any_of (λ other. covered_by other set) kept ≡ false
unfolding skipped
unskipped_uncovered day kept set h = neither_right (ltb (room_of day) (min_sum day set)) (any_of (λ other. covered_by other set) kept) h

-- a set that has room is skipped only if a kept set covers it
skipped_covered : (day : SetsDay) (kept : List CriticalSet) (set : CriticalSet) → min_sum day set ≤ room_of day → skipped day kept set ≡ true
    → any_of (λ other. covered_by other set) kept ≡ true
unfolding skipped
skipped_covered day kept set h t =
    ⊎_elim (λ e. absurd (false≢true (sym (le-ltb (room_of day) (min_sum day set) h) ∙ e))) (λ e. e)
    (or_cases (ltb (room_of day) (min_sum day set)) (any_of (λ other. covered_by other set) kept) t)

-- a chooser's set at a level of the day's list, with room: 'skipped if its sum of min exceeds H*(S-1)'
pub record Origin (day : SetsDay) (set : CriticalSet) : Type 0 where
  pub down : ℕ
  pub chooser : ℕ
  pub down_fits : down < day.counts.levels
  pub chooser-fits : chooser < day.counts.choosers
  pub theirs : set ≡ candidate_of day (level_down day down) chooser
  pub room : min_sum day set ≤ room_of day

-- each kept set is some chooser's set at some level of the day's list, and its sum of minimums is at most
-- H*(S-1)
pub kept_origin : (day : SetsDay) (set : CriticalSet) → Memᴰ set (kept_sets day) → Origin day set
unfolding candidates
kept_origin day set m =
    ⊎_elim (λ k. absurd (mathlib.Core.List.Memᴰ.not-nil k))
    (λ k.
    let i = in_join day.counts.levels (λ i. list_below day.counts.choosers (candidate_of day (level_down day i))) k.0 in
    let c = in_list day.counts.choosers (candidate_of day (level_down day i.0)) i.2 in
    record { down = i.0; chooser = c.0; down_fits = i.1; chooser-fits = c.1; theirs = c.2; room = unskipped_room day k.1 set k.2 })
    (picked-new (skipped day) [] (candidates day) (rw kept-sets-picked at m))

-- each chooser's set at a level of the day's list, with room, is covered by a kept one
pub origin_covered : (day : SetsDay) (set : CriticalSet) → Origin day set → CoverIn (kept_sets day) set
unfolding candidates
origin_covered day set from =
    let here : Memᴰ set (candidates day) =
    rw from.theirs
    (join_in day.counts.levels (λ i. list_below day.counts.choosers (candidate_of day (level_down day i))) from.down from.down_fits
    (list_in day.counts.choosers (candidate_of day (level_down day from.down)) from.chooser from.chooser-fits)) in
    ⊎_elim (λ k. cover_in set (rw kept-sets-picked k) (covered_self set))
    (λ k.
    let r = any_member (λ other. covered_by other set) k.0 (skipped_covered day k.0 set from.room k.1) in
    cover_in r.0 (rw kept-sets-picked (k.2 r.0 r.1)) r.2)
    (picked_or (skipped day) [] (candidates day) here)

-- a chooser's set at a level is one word
pub origin_word : (day : SetsDay) (set : CriticalSet) → day.counts.choices ≤ 64 → Origin day set → set.members < 2 ^ 64
unfolding candidate_of
origin_word day set few from =
    rw (ap (λ (s : CriticalSet). s.members) from.theirs) (set-fits day.counts.choices (λ choice. leb (preference_of day from.chooser choice) (level_down day from.down)) few)

-- the list of levels has the length that the counts give
pub levels-long : (day : SetsDay) → sets_lengths_fit day ≡ true → length day.levels ≡ day.counts.levels
unfolding sets_lengths_fit
levels-long day fits =
    eqb-true (length day.levels) day.counts.levels
    (and_right (eqb (length day.mins) day.counts.choices) (eqb (length day.levels) day.counts.levels)
    (and_left (eqb (length day.mins) day.counts.choices && eqb (length day.levels) day.counts.levels) _ fits))

-- where the slices have their lengths, a kept set's level is one of the day's levels
pub kept-level : (day : SetsDay) (set : CriticalSet) → sets_lengths_fit day ≡ true → Memᴰ set (kept_sets day) → Memᴰ set.level day.levels
unfolding candidate_of level_down
kept-level day set fits m =
    let from = kept_origin day set m in
    let long : length day.levels ≡ day.counts.levels = levels-long day fits in
    rw (ap (λ (s : CriticalSet). s.level) from.theirs)
    (member-at day.levels (day.counts.levels - (from.down + 1)) 0 (omega (arith, from.down_fits)))
