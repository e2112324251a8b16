-- The loop's invariant: the choices passed are in slots or omitted, and counted.
use Rattle.plan_check.proofs.KeptLaws.{Sizing}
use Rattle.plan_check.proofs.kept.count_sizes.Given as goal

abbrev pub invariant-loop-place : goal.invariant-loop-place
invariant-loop-place l = Sizing l.plan l.place-index l.sizes
