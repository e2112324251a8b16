-- Small days, computed from the definitions: what the search answers, and which plans pass.
use mathlib.Core.Path.{◌≡◌, refl}
use mathlib.Core.Bool.{true, false}
use mathlib.Core.List.{List, [], ◌∷◌}
use Prim.Native.Nat.{ℕ, ◌*◌}
use lib.ListN.{replicate}
use Rattle.base_lists.specs.Below.{one, all_below, count_below, sum_below}
use Rattle.base_lists.specs.All.{all_of, all_at_most}
use Rattle.base_lists.specs.First.{first_failing}
use Rattle.base_lists.specs.Flat.{list_below, join_below}
use Rattle.base_lists.specs.Group.{keep_below}
use Rattle.base_lists.specs.Keep.{keep, any_of, sum_over}
use Rattle.base_lists.specs.Pool.{pad, window}
use Rattle.day_rows.specs.Told.{done, Outcome, outcome}
use Rattle.day_rows.specs.Check.{counts_in_range, rows_judged, row_keeps}
use Rattle.day_rows.specs.Levels.{levels_in_range, levels_rise, last_level}
use Rattle.plan_check.specs.Plan.{slot_of, omitted, stands_in, count_in, sum_up_to, sum_in}
use Rattle.plan_check.specs.Rows.{keeps_rows}
use Rattle.plan_check.specs.Feasible.{omission_allowed, place_allowed, places_allowed, slot_fits, feasible, lengths_fit}
use Rattle.plan_check.specs.Check.{flags_judged}
use Rattle.sets_analysis.specs.LevelList.{minimal_from, by_size, level_list}
use Rattle.sets_analysis.specs.declared.analysis.Analysis.TheVariants as mode
use Rattle.base_choice_sets.specs.Reach.{some_stuck}
use Rattle.search_order.specs.Order.{order_count, order_at, orders_keep, lent_order, ordered_with, ordered_from, pass_order}
use Rattle.base_pools.specs.Insert.{insert_at, insert_after}
use Rattle.search_rules.specs.Walk.{turn, opened, used, walk, pass}
use Rattle.search_rules.specs.Turns.{sum_of_powers}
use Rattle.search_map.specs.Map.{Map, map_of, start_of, length_of, has_entry, looked_up, entry_fits, is_whole, map_keeps, own_entry, own_numbers, own_starts, own_lengths}
use Rattle.search_map.specs.Calls.{map_full, own_judged, own_pools, own_counted, own_map_of}
use Rattle.search_candidates.specs.Allow.{each_allows, limits_hold, rows_allow}
use Rattle.search_candidates.specs.Loads.{min_of, max_of, size_of}
use Rattle.search_candidates.specs.Tests.{some_short, held_by, undecided_of, sets_stuck, critical_slots}
use Rattle.search_candidates.specs.Bucket.{allows, hopeless, is_open, open_below, may_omit, with_omission, critical_of, bucket_of, draws_one}
use Rattle.search_rules.specs.Decided.{decided, loads_at}
use Rattle.search_rules.specs.Pass.{choice_at, remaining_at, depth_at, asked_at, candidates_at, next_draw, draw_after, plan_of, sight_full, sight_at, pass_of}
use Rattle.search_rules.specs.Passes.{passes_from}
use Rattle.search_meaning.specs.Given.{Given, plan_day}
use Rattle.search_meaning.specs.Judged.{search_in_range, search_lengths, day_judged, lent_judged}
use Rattle.search_meaning.specs.Search as search
use Rattle.search_meaning.specs.Search.{levels_above, sets_at, rows_counted, order_of, lent_at, pass_at, ending_of}
use Rattle.search_meaning.specs.Calls.{figures, Settled, plan, no_plan, out_of_turns, search_judged, search_of}
use Rattle.search_meaning.specs.declared.settings.Settings.{Settings}
use Rattle.search_meaning.specs.Demand.{starts_of, turns_that_settle, OwnMap, Settles}
use Rattle.search_meaning.proofs.DemandHolds.{demand}

-- a day of level 0 alone, without rows, with the own map and one draw, 1
unfoldable pub day_with : ℕ → ℕ → ℕ → List ℕ → List ℕ → List ℕ → Given
day_with choices slots choosers mins maxs optional =
    record {
      counts = record { choices = choices; slots = slots; choosers = choosers; levels = 1; rows = 0; numbers = 0 };
      mins = mins;
      maxs = maxs;
      optional = optional;
      levels = 0 ∷ [];
      preferences = replicate (choosers * choices) 0;
      rows = [];
      map = own_pools [] choices;
      whole = [];
      orders = [];
      draws = 1 ∷ [];
    }

-- full, analysis off, from the bound, with so many turns
unfoldable pub turns_of : ℕ → Settings
turns_of turns = record { full = true; analysis = mode.Off; at_last_level = false; pass_budget = turns; total_budget = turns }

-- ---- days with a plan and without, C 0, S 0, H 0, and K9

unfoldable pub one_plan : Given
one_plan = day_with 1 1 1 (0 ∷ []) (1 ∷ []) (0 ∷ [])

-- a day whose maximum is below H
unfoldable pub short_one : Given
short_one = day_with 1 1 2 (0 ∷ []) (1 ∷ []) (0 ∷ [])

-- K10: days with C 0, S 1, H 0 and H 1
unfoldable pub no_choice : ℕ → Given
no_choice choosers = day_with 0 1 choosers [] [] []

-- S 0: days with a choice that may be omitted, and with one that may not
unfoldable pub no_slot : ℕ → Given
no_slot optional = day_with 1 0 1 (0 ∷ []) (1 ∷ []) (optional ∷ [])

-- H 0: a day with a choice that has a min
unfoldable pub no_chooser : ℕ → Given
no_chooser min = day_with 1 1 0 (min ∷ []) (5 ∷ []) (0 ∷ [])

-- K9: 'choice 0 optional 3..3, choice 1 mandatory 2..4'
unfoldable pub first_fails : Given
first_fails = day_with 2 1 4 (3 ∷ 2 ∷ []) (3 ∷ 4 ∷ []) (1 ∷ 0 ∷ [])

-- the (L+1)(2T+1) of each day
pub turns-that-settle : (turns_that_settle one_plan ∷ turns_that_settle short_one ∷ turns_that_settle (no_choice 0) ∷ turns_that_settle (no_slot 0) ∷ turns_that_settle (no_chooser 0) ∷ turns_that_settle first_fails ∷ [])
    ≡ 10 ∷ 10 ∷ 2 ∷ 6 ∷ 10 ∷ 26 ∷ []
unfolding day_with one_plan short_one no_choice no_slot no_chooser first_fails turns_that_settle starts_of sum_of_powers sum_below
turns-that-settle = refl

-- the search with so many turns; the plan held 7 before
abbrev answer_of : Given → List ℕ → Outcome Settled (List ℕ)
answer_of given before = search_of given (turns_of (turns_that_settle given)) before

-- a plan for each day that has one
pub plans-found : (answer_of one_plan (7 ∷ []) ∷ answer_of (no_choice 0) [] ∷ answer_of (no_slot 1) (7 ∷ []) ∷ answer_of (no_chooser 0) (7 ∷ []) ∷ answer_of first_fails (7 ∷ 7 ∷ []) ∷ [])
    ≡ outcome (done (plan (figures 1 1 0))) (0 ∷ []) ∷ outcome (done (plan (figures 0 1 0))) [] ∷ outcome (done (plan (figures 1 1 0))) (255 ∷ [])
    ∷ outcome (done (plan (figures 1 1 0))) (0 ∷ []) ∷ outcome (done (plan (figures 6 1 0))) (255 ∷ 0 ∷ []) ∷ []
unfolding day_with one_plan short_one no_choice no_slot no_chooser first_fails turns_of turns_that_settle starts_of sum_of_powers search_of search_judged day_judged search_in_range counts_in_range levels_in_range search_lengths lengths_fit map_full levels_rise all_at_most rows_judged row_keeps lent_judged orders_keep flags_judged map_keeps entry_fits is_whole ending_of passes_from pass_at lent_at order_of rows_counted sets_at levels_above search.start_of level_list keep any_of sum_over first_failing last_level looked_up start_of length_of has_entry window own_pools own_numbers own_starts own_lengths own_entry keep_below join_below list_below pad pass_order lent_order ordered_from ordered_with order_count order_at insert_after insert_at pass_of pass walk turn opened used sight_at sight_full candidates_at asked_at depth_at choice_at remaining_at next_draw draw_after plan_of decided loads_at bucket_of hopeless some_short sets_stuck held_by undecided_of some_stuck critical_of critical_slots open_below is_open allows rows_allow each_allows limits_hold all_of may_omit with_omission draws_one min_of max_of size_of sum_in sum_up_to sum_below count_in count_below one stands_in omitted slot_of feasible places_allowed place_allowed omission_allowed all_below slot_fits keeps_rows minimal_from by_size
plans-found = refl

-- the plan of each day that has one passes the check
pub plans-pass : (feasible (plan_day one_plan) (0 ∷ []) ∷ feasible (plan_day (no_choice 0)) [] ∷ feasible (plan_day (no_slot 1)) (255 ∷ []) ∷ feasible (plan_day (no_chooser 0)) (0 ∷ []) ∷ feasible (plan_day first_fails) (255 ∷ 0 ∷ []) ∷ [])
    ≡ true ∷ true ∷ true ∷ true ∷ true ∷ []
unfolding day_with one_plan short_one no_choice no_slot no_chooser first_fails feasible places_allowed place_allowed omission_allowed all_below slot_fits sum_in sum_up_to sum_below stands_in omitted slot_of keeps_rows all_of
plans-pass = refl

-- none for the days without a plan
pub none_found : (answer_of short_one (7 ∷ []) ∷ answer_of (no_choice 1) [] ∷ answer_of (no_slot 0) (7 ∷ []) ∷ answer_of (no_chooser 1) (7 ∷ []) ∷ [])
    ≡ outcome (done (no_plan (figures 1 1 0))) (7 ∷ []) ∷ outcome (done (no_plan (figures 0 1 0))) [] ∷ outcome (done (no_plan (figures 1 1 0))) (7 ∷ []) ∷ outcome (done (no_plan (figures 1 1 0))) (7 ∷ []) ∷ []
unfolding day_with one_plan short_one no_choice no_slot no_chooser first_fails turns_of turns_that_settle starts_of sum_of_powers search_of search_judged day_judged search_in_range counts_in_range levels_in_range search_lengths lengths_fit map_full levels_rise all_at_most rows_judged row_keeps lent_judged orders_keep flags_judged map_keeps entry_fits is_whole ending_of passes_from pass_at lent_at order_of rows_counted sets_at levels_above search.start_of level_list keep any_of sum_over first_failing last_level looked_up start_of length_of has_entry window own_pools own_numbers own_starts own_lengths own_entry keep_below join_below list_below pad pass_order lent_order ordered_from ordered_with order_count order_at insert_after insert_at pass_of pass walk turn opened used sight_at sight_full candidates_at asked_at depth_at choice_at remaining_at next_draw draw_after plan_of decided loads_at bucket_of hopeless some_short sets_stuck held_by undecided_of some_stuck critical_of critical_slots open_below is_open allows rows_allow each_allows limits_hold all_of may_omit with_omission draws_one min_of max_of size_of sum_in sum_up_to sum_below count_in count_below one stands_in omitted slot_of feasible places_allowed place_allowed omission_allowed all_below slot_fits keeps_rows minimal_from by_size
none_found = refl

-- no placement of a day without a plan passes the check
pub none_pass : (feasible (plan_day short_one) (0 ∷ []) ∷ feasible (plan_day short_one) (255 ∷ []) ∷ feasible (plan_day (no_choice 1)) [] ∷ feasible (plan_day (no_slot 0)) (255 ∷ []) ∷ feasible (plan_day (no_chooser 1)) (0 ∷ []) ∷ feasible (plan_day (no_chooser 1)) (255 ∷ []) ∷ [])
    ≡ false ∷ false ∷ false ∷ false ∷ false ∷ false ∷ []
unfolding day_with one_plan short_one no_choice no_slot no_chooser first_fails feasible places_allowed place_allowed omission_allowed all_below slot_fits sum_in sum_up_to sum_below stands_in omitted slot_of keeps_rows all_of
none_pass = refl

-- on fewer turns they may run out: K9 takes 6
pub turns-run-out : search_of first_fails (turns_of 5) (7 ∷ 7 ∷ []) ≡ outcome (done (out_of_turns (figures 5 1 0))) (7 ∷ 7 ∷ [])
unfolding day_with one_plan short_one no_choice no_slot no_chooser first_fails turns_of turns_that_settle starts_of sum_of_powers search_of search_judged day_judged search_in_range counts_in_range levels_in_range search_lengths lengths_fit map_full levels_rise all_at_most rows_judged row_keeps lent_judged orders_keep flags_judged map_keeps entry_fits is_whole ending_of passes_from pass_at lent_at order_of rows_counted sets_at levels_above search.start_of level_list keep any_of sum_over first_failing last_level looked_up start_of length_of has_entry window own_pools own_numbers own_starts own_lengths own_entry keep_below join_below list_below pad pass_order lent_order ordered_from ordered_with order_count order_at insert_after insert_at pass_of pass walk turn opened used sight_at sight_full candidates_at asked_at depth_at choice_at remaining_at next_draw draw_after plan_of decided loads_at bucket_of hopeless some_short sets_stuck held_by undecided_of some_stuck critical_of critical_slots open_below is_open allows rows_allow each_allows limits_hold all_of may_omit with_omission draws_one min_of max_of size_of sum_in sum_up_to sum_below count_in count_below one stands_in omitted slot_of feasible places_allowed place_allowed omission_allowed all_below slot_fits keeps_rows minimal_from by_size
turns-run-out = refl

-- ---- the demand of two of them: nothing is left to ask

-- pools of the map builder
abbrev pools : Map
pools = map_of (replicate 64 9) (replicate 64 9) (replicate 10240 9)

pub one-plan-map : OwnMap one_plan
unfolding day_with one_plan own_map_of own_judged own_counted counts_in_range map_full rows_judged first_failing own_pools own_numbers own_starts own_lengths own_entry join_below list_below keep_below pad
one-plan-map = record { pools = pools; written = refl }

pub one-plan-answer : outcome (done (plan (figures 1 1 0))) (0 ∷ []) ≡ answer_of one_plan (7 ∷ [])
unfolding day_with one_plan short_one no_choice no_slot no_chooser first_fails turns_of turns_that_settle starts_of sum_of_powers search_of search_judged day_judged search_in_range counts_in_range levels_in_range search_lengths lengths_fit map_full levels_rise all_at_most rows_judged row_keeps lent_judged orders_keep flags_judged map_keeps entry_fits is_whole ending_of passes_from pass_at lent_at order_of rows_counted sets_at levels_above search.start_of level_list keep any_of sum_over first_failing last_level looked_up start_of length_of has_entry window own_pools own_numbers own_starts own_lengths own_entry keep_below join_below list_below pad pass_order lent_order ordered_from ordered_with order_count order_at insert_after insert_at pass_of pass walk turn opened used sight_at sight_full candidates_at asked_at depth_at choice_at remaining_at next_draw draw_after plan_of decided loads_at bucket_of hopeless some_short sets_stuck held_by undecided_of some_stuck critical_of critical_slots open_below is_open allows rows_allow each_allows limits_hold all_of may_omit with_omission draws_one min_of max_of size_of sum_in sum_up_to sum_below count_in count_below one stands_in omitted slot_of feasible places_allowed place_allowed omission_allowed all_below slot_fits keeps_rows minimal_from by_size
one-plan-answer = refl

pub one-plan-settled : Settles one_plan (turns_that_settle one_plan) (plan (figures 1 1 0)) (0 ∷ [])
unfolding turns_of
one-plan-settled = demand one_plan (turns_of (turns_that_settle one_plan)) (7 ∷ []) refl one-plan-map (plan (figures 1 1 0)) (0 ∷ []) one-plan-answer

pub short-one-map : OwnMap short_one
unfolding day_with short_one own_map_of own_judged own_counted counts_in_range map_full rows_judged first_failing own_pools own_numbers own_starts own_lengths own_entry join_below list_below keep_below pad
short-one-map = record { pools = pools; written = refl }

pub short-one-answer : outcome (done (no_plan (figures 1 1 0))) (7 ∷ []) ≡ answer_of short_one (7 ∷ [])
unfolding day_with one_plan short_one no_choice no_slot no_chooser first_fails turns_of turns_that_settle starts_of sum_of_powers search_of search_judged day_judged search_in_range counts_in_range levels_in_range search_lengths lengths_fit map_full levels_rise all_at_most rows_judged row_keeps lent_judged orders_keep flags_judged map_keeps entry_fits is_whole ending_of passes_from pass_at lent_at order_of rows_counted sets_at levels_above search.start_of level_list keep any_of sum_over first_failing last_level looked_up start_of length_of has_entry window own_pools own_numbers own_starts own_lengths own_entry keep_below join_below list_below pad pass_order lent_order ordered_from ordered_with order_count order_at insert_after insert_at pass_of pass walk turn opened used sight_at sight_full candidates_at asked_at depth_at choice_at remaining_at next_draw draw_after plan_of decided loads_at bucket_of hopeless some_short sets_stuck held_by undecided_of some_stuck critical_of critical_slots open_below is_open allows rows_allow each_allows limits_hold all_of may_omit with_omission draws_one min_of max_of size_of sum_in sum_up_to sum_below count_in count_below one stands_in omitted slot_of feasible places_allowed place_allowed omission_allowed all_below slot_fits keeps_rows minimal_from by_size
short-one-answer = refl

pub short-one-settled : Settles short_one (turns_that_settle short_one) (no_plan (figures 1 1 0)) (7 ∷ [])
unfolding turns_of
short-one-settled = demand short_one (turns_of (turns_that_settle short_one)) (7 ∷ []) refl short-one-map (no_plan (figures 1 1 0)) (7 ∷ []) short-one-answer
