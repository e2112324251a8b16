-- The loop's invariant: the walk from where the code stands is the whole pass.
use Rattle.search_rules.specs.Pass.{pass_lent, pass_of}
use Rattle.search_pass.specs.steps.Taken.{Taken}
use Rattle.search_pass.proofs.TurnLaws.{Standing}
use Rattle.search_pass.proofs.pass.walk_pass.Given as goal

abbrev pub invariant-loop-left : goal.invariant-loop-left
invariant-loop-left l =
    let lent = pass_lent l.lent in
    Standing lent (pass_of lent l.budget l.first_draw) l.left l.state.is_new l.state.depth l.draw l.state.remaining l.state l.candidates l.next l.end × Taken lent

abbrev pub decreases-loop-left : goal.decreases-loop-left
decreases-loop-left l =
    l.left
