-- What is ahead is the whole call.
use Prim.Native.Nat.{◌+◌, ◌-◌}
use lib.ListN.{length}
use Rattle.search.specs.steps.LevelPass.{basis_lent, ground_on}
use Rattle.search.proofs.AlongSteps.{Along}
use Rattle.search.proofs.passes.passes_from.Given as goal

abbrev pub invariant-loop-answer : goal.invariant-loop-answer
invariant-loop-answer l =
    Along (ground_on (basis_lent l.basis)) l.settings.pass_budget l.settings.total_budget l.start l.initial.plan l.limit l.above l.left l.draw l.pass l.plan

abbrev pub decreases-loop-answer : goal.decreases-loop-answer
decreases-loop-answer l =
    length l.basis.levels.now + 1 - l.above
