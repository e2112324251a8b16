use mathlib.Core.Path.{◌≡◌}
use native.Mathlib.Omega.{arith}
use Rattle.list_rule_counts.proofs.WantLaws.{each_none, keeps-step}
use Rattle.list_rule_counts.proofs.wants.narrow_free.Goals as goal

pub loop-choice-init : goal.loop-choice-init
loop-choice-init c =
    each_none _ _

pub loop-choice-preserved : goal.loop-choice-preserved
loop-choice-preserved c =
    keeps-step _ _ _ _ _ _ _ c.loop-choice.invariant c.member.ensures c.kept_of.ensures

pub returns : goal.returns
returns c =
    let e : c.loop-choice.choice ≡ c.args.choices = omega (arith, c.loop-choice-test.false, c.loop-choice.auto.choice-end) in rw e at c.loop-choice.invariant
