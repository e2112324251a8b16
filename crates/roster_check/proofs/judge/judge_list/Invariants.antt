-- The loop's invariant: the search for the first bad row goes on from here.
use Rattle.roster_check.proofs.JudgeLaws.{ListFrom}
use Rattle.roster_check.proofs.judge.judge_list.Given as goal

abbrev pub invariant-loop-i : goal.invariant-loop-i
invariant-loop-i l =
    ListFrom l.counts l.takes l.before l.rows l.i
