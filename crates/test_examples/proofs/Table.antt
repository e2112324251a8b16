-- 01's examples K1 to K10, each as the test that it states, in one table under one claim.
use mathlib.Core.Path.{◌≡◌, refl}
use mathlib.Core.Bool.{Bool, true, false, ◌&&◌, not, cond}
use mathlib.Core.List.{List, [], ◌∷◌, flat_map}
use Prim.Native.Nat.{ℕ}
use lib.Dec.{eqb}
use lib.IntN.{pos}
use lib.ListN.{length, replicate}
use Rattle.base_lists.specs.All.{all_of, all_at_most}
use Rattle.base_lists.specs.Below.{one, all_below, count_below, sum_below}
use Rattle.base_lists.specs.First.{first_failing}
use Rattle.base_lists.specs.Flat.{list_below, join_below}
use Rattle.base_lists.specs.Group.{keep_below, class_of, heads, classes}
use Rattle.base_lists.specs.Keep.{keep, any_of, sum_over}
use Rattle.base_lists.specs.Pool.{pad, window}
use Rattle.base_lists.specs.Sorted.{inserted, inserted_all, unique_sorted}
use Rattle.day_rows.specs.Check.{row_keeps, rows_judged, counts_in_range}
use Rattle.day_rows.specs.Kinds.{columns_of, kinds}
use Rattle.day_rows.specs.Op.{extra_of, lt_op, leq_op}
use Rattle.day_rows.specs.Row.{row_of, row_number, plain_row}
use Rattle.day_rows.specs.Told.{Told, done, refused}
use Rattle.day_rows.specs.declared.check.Counts.{Counts}
use Rattle.day_rows.specs.declared.row.Row.{Row}
use Rattle.reduce_union_find.specs.State.{fresh, sound_at, taken, climb, root_of, hung, linked, join_of, join_from, join_all}
use Rattle.reduce_turn.specs.Turn.{turned_row, turned_one, clashes_at}
use Rattle.reduce_added.specs.Groups.{join_one, same_choosers}
use Rattle.reduce_added.specs.Pairs.{pair_row, pairs_of, mandatory_one, mandatory_pairs}
use Rattle.reduce_added.specs.Copies.{copy_to, copies_in, is_copied, copies_of}
use Rattle.reduce.specs.Reduction.{added_to, expanded, reduced_rows, reduction_of, reduce_of}
use Rattle.reduce.specs.declared.Reduction.{Reduction}
use Rattle.day_rows.specs.Levels.{levels_in_range, levels_rise, last_level}
use Rattle.plan_check.specs.Plan.{slot_of, omitted, stands_in, count_in, sum_up_to, sum_in}
use Rattle.plan_check.specs.Rows.{op_holds, slots_differ, offset_kept, keeps_row, keeps_rows}
use Rattle.plan_check.specs.Feasible.{omission_allowed, place_allowed, places_allowed, slot_fits, feasible, lengths_fit}
use Rattle.plan_check.specs.Check.{flags_judged}
use Rattle.base_choice_sets.specs.Reach.{some_stuck}
use Rattle.sets_analysis.specs.LevelList.{by_size, minimal_from, level_list}
use Rattle.sets_analysis.specs.declared.analysis.Analysis.TheVariants.{Off}
use Rattle.search_map.specs.Map as entries
use Rattle.search_map.specs.Map.{Map, map_of, length_of, has_entry, looked_up, entry_fits, is_whole, map_keeps}
use Rattle.search_map.specs.Calls.{map_full}
use Rattle.base_pools.specs.Insert.{insert_at, insert_after}
use Rattle.search_order.specs.Order.{is_permutation, order_count, order_at, orders_keep, lent_order, ordered_with, ordered_from, pass_order}
use Rattle.search_candidates.specs.Allow.{each_allows, limits_hold, rows_allow}
use Rattle.search_candidates.specs.Loads.{min_of, max_of, size_of}
use Rattle.search_candidates.specs.Tests.{some_short, sets_stuck, critical_slots}
use Rattle.search_candidates.specs.Bucket.{allows, hopeless, is_open, open_below, may_omit, with_omission, critical_of, bucket_of, draws_one}
use Rattle.search_rules.specs.Walk.{turn, opened, used, walk, pass}
use Rattle.search_rules.specs.Passes.{passes_from}
use Rattle.search_rules.specs.Decided.{decided, loads_at}
use Rattle.search_rules.specs.Pass.{choice_at, remaining_at, depth_at, asked_at, candidates_at, next_draw, draw_after, plan_of, sight_full, sight_as_the_rust, sight_at, pass_of}
use Rattle.search_meaning.specs.Given.{Given, given_of}
use Rattle.search_meaning.specs.Judged.{search_in_range, search_lengths, day_judged, lent_judged}
use Rattle.search_meaning.specs.declared.counts.SearchCounts.{SearchCounts}
use Rattle.search_meaning.specs.Search.{start_of, levels_above, sets_at, rows_counted, order_of, lent_at, pass_at, ending_of}
use Rattle.search_meaning.specs.Calls.{Settled, plan, no_plan, out_of_turns, search_judged, search_of}
use Rattle.search_meaning.specs.declared.settings.Settings.{Settings}

-- a row by its columns, extra as the column holds it
abbrev row : ℕ → ℕ → ℕ → ℕ → Row
row kind left right extra = record { kind = kind; left = left; right = right; extra = extra }

-- the number of a row whose extra is 0
abbrev number : ℕ → ℕ → ℕ → ℕ
number kind left right = row_number (plain_row kind left right)

-- a day's counts: choices, slots, choosers, rows
abbrev day : ℕ → ℕ → ℕ → ℕ → Counts
day choices slots choosers rows = record { choices = choices; slots = slots; choosers = choosers; rows = rows }

-- two lists of numbers are equal
unfoldable pub same : List ℕ → List ℕ → Bool
same [] [] = true
same [] (y ∷ ys) = false
same (x ∷ xs) [] = false
same (x ∷ xs) (y ∷ ys) = eqb x y && same xs ys

-- what a reduction tells is that many rows, and that flag
abbrev pub tells_rows : Told Reduction → ℕ → Bool → Bool
tells_rows (done reduction) count clash = eqb reduction.count count && cond clash reduction.clash (not reduction.clash)
tells_rows (refused number carried) count clash = false

-- a pool as it is lent, whatever stood in it
abbrev pub lent : List ℕ
lent = replicate 1024 7

-- rows reduce to a result: it is their reduced rows, and the call takes the day, tells how many they are and
-- the clash flag, and leaves the pool with them and zeros after them
unfoldable pub reduces_to : Counts → List ℕ → List ℕ → Bool → Bool
reduces_to counts rows result clash =
    let reduced = reduce_of counts rows lent in
    same (reduced_rows counts rows) result && tells_rows reduced.answer (length result) clash && same reduced.buffers (pad 1024 result)

-- 'K1 Rows (10,0,1,0),(11,0,2,0),(11,0,0,0), C 3, H 1 reduce to
-- (4,0,1,0),(4,2,0,0),(10,0,1,0),(11,0,0,0),(11,0,1,0),(11,0,2,0)'
abbrev pub k1 : Bool
k1 =
    reduces_to (day 3 0 1 3) (number 10 0 1 ∷ number 11 0 2 ∷ number 11 0 0 ∷ [])
    (number 4 0 1 ∷ number 4 2 0 ∷ number 10 0 1 ∷ number 11 0 0 ∷ number 11 0 1 ∷ number 11 0 2 ∷ []) false

-- 'K2 Rows (11,0,1,0),(14,1,0,0) reduce to (4,1,1,0),(11,0,1,0)'
abbrev pub k2 : Bool
k2 = reduces_to (day 2 0 1 2) (number 11 0 1 ∷ number 14 1 0 ∷ []) (number 4 1 1 ∷ number 11 0 1 ∷ []) false

-- 'K3 (9,0,1,0) clashes; K4 (9,1,1,0) doesn't; both leave no row'
abbrev pub k3 : Bool
k3 = reduces_to (day 0 2 0 1) (number 9 0 1 ∷ []) [] true

abbrev pub k4 : Bool
k4 = reduces_to (day 0 2 0 1) (number 9 1 1 ∷ []) [] false

-- two choices in slots 0 and 1, and slot 2 empty
abbrev pub apart : List ℕ
apart = 0 ∷ 1 ∷ []

-- 'K5 Lt 0 fails for an empty slot; K6 Leq 0 passes'
abbrev pub k5 : Bool
k5 = not (keeps_row apart (row 6 2 0 lt_op))

abbrev pub k6 : Bool
k6 = keeps_row apart (row 6 2 0 leq_op)

-- 'K7 Offset 1, left in 0, right in 1 passes; K8 exchanged fails'
abbrev pub k7 : Bool
k7 = keeps_row apart (row 5 0 1 (extra_of (pos 1)))

abbrev pub k8 : Bool
k8 = not (keeps_row apart (row 5 1 0 (extra_of (pos 1))))

-- ---- the search

-- a plan was found in so many turns
abbrev pub found_in : Told Settled → ℕ → Bool
found_in (done (plan figures)) turns = eqb figures.turns turns
found_in (done (no_plan figures)) turns = false
found_in (done (out_of_turns figures)) turns = false
found_in (refused number carried) turns = false

-- no plan was found, in so many turns
abbrev pub none_in : Told Settled → ℕ → Bool
none_in (done (plan figures)) turns = false
none_in (done (no_plan figures)) turns = eqb figures.turns turns
none_in (done (out_of_turns figures)) turns = false
none_in (refused number carried) turns = false

-- C, S and H of a day with one level and no row
abbrev search_counts : ℕ → ℕ → ℕ → SearchCounts
search_counts choices slots choosers =
    record { choices = choices; slots = slots; choosers = choosers; levels = 1; rows = 0; numbers = 0 }

-- the own map of no row
abbrev no_rows : Map
no_rows = map_of (replicate 64 0) (replicate 64 0) (replicate 10240 0)

-- the settings: as the Rust or full, analysis off, from the bound, with turns enough
abbrev settings : Bool → Settings
settings full = record { full = full; analysis = Off; at_last_level = false; pass_budget = 100; total_budget = 100 }

-- K9's day: 'S 1, H 4, L 1, level 0, no rows, analysis off, draw 1; choice 0 optional 3..3, choice 1
-- mandatory 2..4'
abbrev nine : Given
nine =
    given_of (search_counts 2 1 4) (3 ∷ 2 ∷ []) (3 ∷ 4 ∷ []) (1 ∷ 0 ∷ []) (0 ∷ []) (replicate 8 0) [] no_rows [] [] (1 ∷ [])

-- K10's day: 'C 0, S 1'
abbrev ten : ℕ → Given
ten choosers = given_of (search_counts 0 1 choosers) [] [] [] (0 ∷ []) [] [] no_rows [] [] []

-- a plan as it is lent, whatever stood in it
abbrev pub before : List ℕ
before = 7 ∷ 7 ∷ []

-- K9: 'As the Rust: none, 2 turns. Full: 0 out, 1 in slot 0, 6 turns.'
unfoldable pub k9 : Bool
k9 =
    let as_the_rust = search_of nine (settings false) before in
    let full = search_of nine (settings true) before in
    none_in as_the_rust.answer 2 && same as_the_rust.buffers before && found_in full.answer 6 && same full.buffers (255 ∷ 0 ∷ [])

-- 'K10 C 0, S 1: H 0 finds an empty plan in 0 turns; H 1 gives none'; in both modes
unfoldable pub k10 : Bool → Bool
k10 full =
    found_in (search_of (ten 0) (settings full) []).answer 0 && none_in (search_of (ten 1) (settings full) []).answer 0

-- the table of all examples
abbrev pub table : List Bool
table = k1 ∷ k2 ∷ k3 ∷ k4 ∷ k5 ∷ k6 ∷ k7 ∷ k8 ∷ k9 ∷ k10 false ∷ k10 true ∷ []

-- the one claim: every example holds
pub all_hold : all_of (λ (holds : Bool). holds) table ≡ true
unfolding all_of same reduces_to reduce_of reduction_of counts_in_range rows_judged row_keeps first_failing columns_of kinds pad row_of row_number flat_map all_below keep_below class_of heads classes any_of inserted inserted_all unique_sorted fresh sound_at taken climb root_of hung linked join_of join_from join_all turned_row turned_one clashes_at join_one same_choosers pair_row pairs_of mandatory_one mandatory_pairs copy_to copies_in is_copied copies_of added_to expanded reduced_rows keeps_row op_holds slots_differ offset_kept slot_of omitted stands_in count_in count_below one k9 k10 all_at_most sum_below list_below join_below keep sum_over window levels_in_range levels_rise last_level sum_up_to sum_in keeps_rows omission_allowed place_allowed places_allowed slot_fits feasible lengths_fit flags_judged by_size minimal_from level_list some_stuck length_of has_entry looked_up entry_fits is_whole map_keeps map_full insert_at insert_after is_permutation order_count order_at orders_keep lent_order ordered_with ordered_from pass_order each_allows limits_hold rows_allow min_of max_of size_of some_short sets_stuck critical_slots allows hopeless is_open open_below may_omit with_omission critical_of bucket_of draws_one turn opened used walk pass decided loads_at choice_at remaining_at depth_at asked_at candidates_at next_draw draw_after plan_of sight_full sight_as_the_rust sight_at pass_of passes_from search_in_range search_lengths day_judged lent_judged start_of levels_above sets_at rows_counted order_of lent_at pass_at ending_of search_judged search_of entries.start_of
all_hold = refl
