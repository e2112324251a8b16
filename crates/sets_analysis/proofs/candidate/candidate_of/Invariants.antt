-- The loop's invariant: the choices before this one are looked at.
use Prim.Native.Nat.{◌≤◌, ◌*◌}
use lib.ListN.{length}
use Rattle.sets_analysis.specs.steps.Pools.{Looked}
use Rattle.sets_analysis.proofs.candidate.candidate_of.Given as goal

abbrev pub invariant-loop-choice : goal.invariant-loop-choice
invariant-loop-choice l =
    (l.choice ≤ length l.mins) × (l.min_sum ≤ 65535 * l.choice) × Looked l.level l.start l.mins l.preferences l.members l.min_sum l.choice
