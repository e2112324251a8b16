use Rattle.list_rule_tables.proofs.FigureLaws.{free-start, free_step}
use mathlib.Core.Path.{◌≡◌}
use native.Mathlib.Omega.{arith}
use Rattle.list_rule_tables.proofs.figures.free_choices.Goals as goal

pub loop-choice-init : goal.loop-choice-init
loop-choice-init c =
    free-start _

pub loop-choice-preserved : goal.loop-choice-preserved
loop-choice-preserved c =
    free_step _ _ _ _ _ (omega (arith, c.loop-choice-test.true, c.requires)) c.loop-choice.invariant c.is_settled-settled.ensures c.with_if-free.ensures

pub returns : goal.returns
returns c =
    let e : c.loop-choice.choice ≡ c.args.choices = omega (arith, c.loop-choice-test.false, c.loop-choice.auto.choice-end) in rw e at c.loop-choice.invariant
