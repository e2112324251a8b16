use mathlib.Core.Path.{◌≡◌}
use borrow.Author.Rules.{rules}
use Prim.Native.Nat.{max}
use native.Mathlib.Omega.{arith}
use Rattle.list_rule_tables.proofs.FigureLaws.{first-within}
use Rattle.list_rule_tables.proofs.RuleLaws.{spare-start, spare-step, heaviest_start, heaviest_step}
use Rattle.list_rule_tables.proofs.rule.weigh.Goals as goal

pub loop-choice-init : goal.loop-choice-init
loop-choice-init c =
    ((omega arith, omega arith), (spare-start _ _ _ _ _ c.requires.1, heaviest_start _ _ _ _ _ c.requires.1))

pub loop-choice-preserved : goal.loop-choice-preserved
loop-choice-preserved c =
    let m : c.max-heaviest.result ≡ max c.loop-choice.heaviest c.free_weight-weight.result = search rules in
    ((omega (arith, c.loop-choice.invariant.0.0, c.free_weight-weight.ensures.1), omega (arith, c.loop-choice.invariant.0.1, c.free_weight-weight.ensures.1, m)), (spare-step _ _ _ _ _ _ _ c.loop-choice.invariant.1.0 c.member.ensures c.free_weight-weight.ensures.0, heaviest_step _ _ _ _ _ _ _ _ c.loop-choice.invariant.1.1 c.member.ensures c.free_weight-weight.ensures.0 m))

pub invariant_of-result : goal.invariant_of-result
invariant_of-result c =
    let e : c.loop-choice.choice ≡ c.args.counts.choices = omega (arith, c.loop-choice-test.false, first-within _ _ _ c.requires.1, c.loop-choice.auto) in
    record { in_range = (c.need_of-need.ensures.1, omega (arith, e, c.loop-choice.invariant.0.0, c.requires.0.0), c.loop-choice.invariant.0.1) }

pub returns : goal.returns
returns c =
    let e : c.loop-choice.choice ≡ c.args.counts.choices = omega (arith, c.loop-choice-test.false, first-within _ _ _ c.requires.1, c.loop-choice.auto) in
    record { need_value = c.need_of-need.ensures.0; spare_value = rw e at c.loop-choice.invariant.1.0; heaviest_value = rw e at c.loop-choice.invariant.1.1 }
