-- Each refusal, and else what the passes answer.
use mathlib.Core.Path.{refl, sym, ◌∙◌, ap}
use Rattle.day_rows.specs.Told.{outcome}
use Rattle.search_meaning.specs.Given.{given_lent}
use Rattle.search_meaning.proofs.AnswerBack.{searched-passed}
use Rattle.search.proofs.CallSteps.{day-refused, sets-refused, sets-found, lent-refused, passes-ready, passes-answer}
use Rattle.search.proofs.search.search.Goals as goal

pub returns-in_err-judge_day : goal.returns-in_err-judge_day
returns-in_err-judge_day c =
    ap (λ told. outcome told c.args.plan.now) (searched-passed _ _ c.from_residual.ensures.1) ∙ day-refused _ _ _ c.in_err-judge_day.ensures

pub returns-in_err-found : goal.returns-in_err-found
returns-in_err-found c =
    ap (λ told. outcome told c.args.plan.now) (searched-passed _ _ c.from_residual-in_err-found.ensures.1)
    ∙ sets-refused (given_lent c.args.given.now) c.args.settings _ (sym c.in_ok-judge_day.ensures) _ _ refl refl c.sets_day-day.ensures c.in_err-found.ensures refl

pub returns-in_err-judge_lent : goal.returns-in_err-judge_lent
returns-in_err-judge_lent c =
    let given = given_lent c.args.given.now in
    let d = sym c.in_ok-judge_day.ensures in
    let found = sets-found given c.args.settings c.args.plan.now d _ _ refl refl c.sets_day-day.ensures c.in_ok-found.ensures refl in
    ap (λ told. outcome told c.args.plan.now) (searched-passed _ _ c.from_residual-in_err-judge_lent.ensures.1) ∙ lent-refused given c.args.settings c.args.plan.now d found c.in_err-judge_lent.ensures

pub passes_from-requires : goal.passes_from-requires
passes_from-requires c =
    let given = given_lent c.args.given.now in
    let d = sym c.in_ok-judge_day.ensures in
    let found = sets-found given c.args.settings c.args.plan.now d _ _ refl refl c.sets_day-day.ensures c.in_ok-found.ensures refl in
    passes-ready given c.args.settings c.args.plan.now d found (sym c.in_ok-judge_lent.ensures) c.plan_day.ensures (sym c.masks-2-1.given) (sym c.set_levels-2-1.given)

pub returns : goal.returns
returns c =
    let given = given_lent c.args.given.now in
    let d = sym c.in_ok-judge_day.ensures in
    let found = sets-found given c.args.settings c.args.plan.now d _ _ refl refl c.sets_day-day.ensures c.in_ok-found.ensures refl in
    passes-answer given c.args.settings c.args.plan.now d found (sym c.in_ok-judge_lent.ensures) c.plan_day.ensures c.start_of-start.ensures c.passes_from.ensures
