-- Each first refusal, and else what the search answers.
use mathlib.Core.Path.{sym, ◌∙◌, ap}
use Rattle.day_rows.specs.Told.{outcome}
use Rattle.search_meaning.proofs.AnswerBack.{searched-passed}
use Rattle.search_meaning.proofs.Answers.{refused-says}
use Rattle.search_day.proofs.PlanSteps.{first-refused}
use Rattle.search_day.proofs.plan.plan_day.Goals as goal

pub returns-in_err-judge_first : goal.returns-in_err-judge_first
returns-in_err-judge_first c =
    let given = c.args.given.now in (
      ap (λ told. outcome told c.args.plan.now) (searched-passed _ _ c.from_residual.ensures.1)
          ∙ first-refused given.counts given.mins.now given.maxs.now given.optional.now given.levels.now given.preferences.now given.rows.now given.orders.now given.draws.now c.args.plan.now _ c.in_err-judge_first.ensures,
      refused-says _ _ _ _ _ c.from_residual.ensures.1,
    )

pub own_search-requires : goal.own_search-requires
own_search-requires c = sym c.in_ok-judge_first.ensures
