use native.Mathlib.Omega.{arith}
use Rattle.search_pass.proofs.PlanLaws.{adding_start, adding_more, adding_end, choice-there}
use Rattle.search_pass.proofs.pass.all_max.Goals as goal

pub loop-choice-init : goal.loop-choice-init
loop-choice-init c =
    adding_start _ _

pub bounds-maxs-from : goal.bounds-maxs-from
bounds-maxs-from c =
    choice-there c.args.order.now c.args.maxs.now _ _ c.requires.0 c.loop-choice-test.true c.from.ensures

pub overflow_add-sum : goal.overflow_add-sum
overflow_add-sum c =
    omega (arith, c.loop-choice.invariant.fits, c.loop-choice.invariant.within, c.requires.1)

pub loop-choice-preserved : goal.loop-choice-preserved
loop-choice-preserved c =
    adding_more _ _ _ _ _ _ c.loop-choice.invariant c.loop-choice-test.true c.from.ensures c.from-sum.ensures (omega arith)

pub returns : goal.returns
returns c =
    adding_end c.args.order.now c.args.maxs.now _ _ c.loop-choice.invariant c.loop-choice-test.false
