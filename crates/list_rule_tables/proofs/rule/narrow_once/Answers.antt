use mathlib.Core.Path.{◌≡◌}
use native.Mathlib.Omega.{arith}
use Rattle.list_rule_tables.proofs.FigureLaws.{first-within}
use Rattle.list_rule_tables.proofs.RuleLaws.{once-start, once-step, once_spared}
use Rattle.list_rule_tables.proofs.rule.narrow_once.Goals as goal

pub returns-then-weighed : goal.returns-then-weighed
returns-then-weighed c =
    once_spared _ _ _ _ _ _ _ _ _ _ _ _ _ _ c.weigh-weighed.ensures.need_value c.weigh-weighed.ensures.spare_value c.weigh-weighed.ensures.heaviest_value c.if-weighed.true

pub loop-choice-init : goal.loop-choice-init
loop-choice-init c =
    once-start _ _ _ _ _ _ _ _ _ _ _ c.requires.1.1

pub loop-choice-preserved : goal.loop-choice-preserved
loop-choice-preserved c =
    once-step _ _ _ _ _ _ _ _ _ _ _ _ _ _ _ _ _ c.loop-choice.invariant (omega (arith, c.loop-choice-test.true, c.requires)) c.weigh-weighed.ensures.need_value c.weigh-weighed.ensures.spare_value c.member-inside.ensures c.next_domain.ensures

pub returns : goal.returns
returns c =
    let e : c.loop-choice.choice ≡ c.args.day.now.counts.choices = omega (arith, c.loop-choice-test.false, first-within _ _ _ c.requires.1.1, c.loop-choice.auto) in rw e at c.loop-choice.invariant
