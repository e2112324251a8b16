use Rattle.search_levels.proofs.LevelSteps.{levels-start, levels-here, levels-on, levels-none}
use Rattle.search_levels.proofs.levels.levels_up_to.Goals as goal

pub loop-i-init : goal.loop-i-init
loop-i-init c = levels-start c.args.levels.now c.args.limit

pub returns-then-limit-level : goal.returns-then-limit-level
returns-then-limit-level c = levels-here c.args.levels.now c.args.limit c.loop-i.i c.loop-i-test.true c.if-limit-level.true c.loop-i.invariant

pub loop-i-preserved : goal.loop-i-preserved
loop-i-preserved c = levels-on c.args.levels.now c.args.limit c.loop-i.i c.loop-i-test.true c.if-limit-level.false c.loop-i.invariant

pub returns : goal.returns
returns c = levels-none c.args.levels.now c.args.limit c.loop-i.i c.loop-i-test.false c.loop-i.invariant
