-- The refusals in order, then the reduction.
use mathlib.Core.Path.{sym, ◌∙◌, ap}
use Rattle.day_rows.specs.Told.{Told, outcome}
use Rattle.day_rows.proofs.ToldLaws.{passed_on}
use Rattle.reduce.specs.declared.Reduction.{Reduction}
use Rattle.reduce.proofs.Calling.{given_of, call_count, call_rows, call_pool, call_good, call_bad}
use Rattle.reduce.proofs.reduce.Goals as goal

pub returns-then-not-counts_in_range : goal.returns-then-not-counts_in_range
returns-then-not-counts_in_range c = call_count _ _ _ (sym c.counts_in_range.ensures ∙ c.if-not-counts_in_range.true)

pub returns-then-rows-counts : goal.returns-then-rows-counts
returns-then-rows-counts c = call_rows _ _ _ (sym c.counts_in_range.ensures ∙ c.if-not-counts_in_range.false) c.if-rows-counts.true

pub returns-then-pool-ne-MOST_ROWS : goal.returns-then-pool-ne-MOST_ROWS
returns-then-pool-ne-MOST_ROWS c = call_pool _ _ _ (sym c.counts_in_range.ensures ∙ c.if-not-counts_in_range.false) c.if-rows-counts.false c.if-pool-ne-MOST_ROWS.true

pub reduce_rows-requires : goal.reduce_rows-requires
reduce_rows-requires c = given_of _ _ _ (sym c.counts_in_range.ensures ∙ c.if-not-counts_in_range.false) c.if-rows-counts.false c.if-pool-ne-MOST_ROWS.false

pub returns-in_err-check_each_row : goal.returns-in_err-check_each_row
returns-in_err-check_each_row c =
    ap (λ (told : Told Reduction). outcome told c.args.pool.now) (passed_on _ _ c.from_residual.ensures.1)
    ∙ call_bad _ _ _ (sym c.counts_in_range.ensures ∙ c.if-not-counts_in_range.false) c.if-rows-counts.false c.if-pool-ne-MOST_ROWS.false c.in_err-check_each_row.ensures

pub returns : goal.returns
returns c = call_good _ _ _ (sym c.counts_in_range.ensures ∙ c.if-not-counts_in_range.false) c.if-rows-counts.false c.if-pool-ne-MOST_ROWS.false c.in_ok-check_each_row.ensures c.reduce_rows.ensures
