use mathlib.Core.Path.{refl, ◌∙◌}
use Rattle.text_lines.proofs.ChoiceLaws.{lines_start, lines_fits, lines_part, lines_end}
use Rattle.text_lines.proofs.plan_lines.put_choices.Goals as goal

pub loop-i-init : goal.loop-i-init
loop-i-init c =
    (lines_start c.args.plan.now c.args.text.now.bytes.now c.args.text.now.next c.requires, refl)

pub put_choice-requires : goal.put_choice-requires
put_choice-requires c = lines_fits c.args.plan.now c.loop-i.invariant.0 c.loop-i-test.true

pub loop-i-preserved : goal.loop-i-preserved
loop-i-preserved c = (lines_part c.args.plan.now c.loop-i.invariant.0 c.loop-i-test.true c.put_choice.ensures.put, c.put_choice.ensures.same ∙ c.loop-i.invariant.1)

pub returns-clause-put : goal.returns-clause-put
returns-clause-put c = lines_end c.args.plan.now c.loop-i.invariant.0 c.loop-i-test.false

pub returns-clause-same : goal.returns-clause-same
returns-clause-same c = c.loop-i.invariant.1
