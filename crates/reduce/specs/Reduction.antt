-- Module 2, the whole reduction, and the answer of the call.
use Rattle.std.specs.Prelude.{cond, ◌&&◌, List, ◌++◌, ℕ, eqb, leb, length, replicate}
use Rattle.base_lists.specs.Keep.{keep}
use Rattle.base_lists.specs.Pool.{pad}
use Rattle.base_lists.specs.Sorted.{unique_sorted}
use Rattle.day_rows.specs.Check.{counts_in_range, rows_judged}
use Rattle.day_rows.specs.Told.{done, refuse, unless, Outcome, outcome, judged}
use Rattle.day_rows.specs.declared.check.Counts.{Counts}
use Rattle.day_rows.specs.declared.check.Takes.TheVariants as takes
use Rattle.reduce_turn.specs.Turn.{kind_of, turned_rows, clash_of}
use Rattle.reduce_added.specs.Groups.{same_choosers}
use Rattle.reduce_added.specs.Pairs.{group_pairs, mandatory_pairs}
use Rattle.reduce_added.specs.Copies.{copies_all}
use Rattle.reduce.specs.declared.Reduction.{Reduction}

-- the turned rows, and all that is added to them, before equal rows become one
unfoldable pub added_to : List (List ℕ) → ℕ → List ℕ → List ℕ
added_to groups choosers turned =
    turned ++ (group_pairs groups ++ (mandatory_pairs turned choosers ++ copies_all groups turned))

unfoldable pub expanded : Counts → List ℕ → List ℕ
expanded counts rows =
    added_to (same_choosers counts.choices (turned_rows rows)) counts.choosers (turned_rows rows)

-- the reduced rows of a day: 'All rows sort .., and equal rows become one'
unfoldable pub reduced_rows : Counts → List ℕ → List ℕ
reduced_rows counts rows = unique_sorted (expanded counts rows)

-- the two lists of a result: 'its rows of kinds 1 to 6, in order, are the search's list, those of 10 to 13
-- the roster's'
unfoldable pub search_list : List ℕ → List ℕ
search_list result = keep (λ number. leb 1 (kind_of number) && leb (kind_of number) 6) result

unfoldable pub roster_list : List ℕ → List ℕ
roster_list result = keep (λ number. leb 10 (kind_of number) && leb (kind_of number) 13) result

-- the reduction of rows that keep the table: 6 for over 1,024 rows before equals are dropped, the pool then
-- all zero
unfoldable pub reduction_of : Counts → List ℕ → Outcome Reduction (List ℕ)
reduction_of counts rows =
    let result = reduced_rows counts rows in
    cond (leb (length (expanded counts rows)) 1024)
    (outcome (done (record { count = length result; clash = clash_of rows })) (pad 1024 result))
    (outcome (refuse 6) (replicate 1024 0))

-- what `reduce` leaves: 1, then 2, then 5, the pool as it was; then the reduction
unfoldable pub reduce_of : Counts → List ℕ → List ℕ → Outcome Reduction (List ℕ)
reduce_of counts rows pool =
    judged
    (unless (counts_in_range counts takes.Given) 1
    (unless (eqb (length rows) counts.rows && eqb (length pool) 1024) 2
    (rows_judged counts takes.Given rows)))
    pool
    (reduction_of counts rows)
