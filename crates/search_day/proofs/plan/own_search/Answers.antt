-- 6, or what the search answers with the own map.
use mathlib.Core.Path.{refl, sym, ◌∙◌, ap}
use native.Mathlib.Omega.{arith}
use lib.ListN.{replicate}
use lib.Seq.{length-take-le}
use Rattle.day_rows.specs.Told.{outcome}
use Rattle.search_meaning.specs.Given.{row_counts}
use Rattle.search_meaning.proofs.AnswerBack.{searched-passed}
use Rattle.search_meaning.proofs.Answers.{refused-says}
use Rattle.search_day.proofs.WholeSteps.{whole_is}
use Rattle.search_day.proofs.PlanSteps.{zeros_full, own-refused, own-searched}
use Rattle.search_day.proofs.plan.own_search.Goals as goal

pub slice_bounds-given_by-end : goal.slice_bounds-given_by-end
slice_bounds-given_by-end c =
    sym (length-take-le c.whole_length-size.result c.count_up.new.whole (omega (arith, c.whole_length-size.ensures, c.count_up.ensures.0)))

pub returns-in_err-count : goal.returns-in_err-count
returns-in_err-count c =
    let given = c.args.given.now in (
      ap (λ told. outcome told c.args.plan.now) (searched-passed _ _ c.from_residual.ensures.1)
          ∙ own-refused given.counts given.mins.now given.maxs.now given.optional.now given.levels.now given.preferences.now given.rows.now given.orders.now given.draws.now c.args.plan.now _ c.requires
          (c.row_counts-counts.ensures ∙ ap row_counts c.with_numbers.ensures) (replicate 64 0) (replicate 64 0) (replicate 10240 0) zeros_full c.in_err-count.ensures,
      refused-says _ _ _ _ _ c.from_residual.ensures.1,
    )

pub returns : goal.returns
returns c =
    let given = c.args.given.now in
    own-searched given.counts given.mins.now given.maxs.now given.optional.now given.levels.now given.preferences.now given.rows.now given.orders.now given.draws.now c.args.plan.now _ c.requires
    (c.row_counts-counts.ensures ∙ ap row_counts c.with_numbers.ensures) (replicate 64 0) (replicate 64 0) (replicate 10240 0) zeros_full c.in_ok-count.ensures refl
    c.given_by-mapped.ensures c.full_by.ensures (whole_is given.rows.now c.count_up.new.whole c.whole_length-size.ensures c.count_up.ensures.1) c.search.result c.search.ensures
