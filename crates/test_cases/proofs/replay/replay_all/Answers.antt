-- The first record read is one case at most, and each record judged is two at most.
use Rattle.std.proofs.Common.{arith, ◌-◌, ◌*◌, ◌^◌}
use Rattle.test_cases.proofs.TallyLaws.{opened, judged}
use Rattle.test_cases.proofs.replay.replay_all.Goals as goal

pub loop-run-init : goal.loop-run-init
loop-run-init g c =
    let of = c.of-run.ensures in
    let first = opened _ of.1 in
    (first.0, omega (arith, of.0, first.1))

pub loop-run-preserved : goal.loop-run-preserved
loop-run-preserved g c =
    let i = c.loop-run.invariant in
    let next = c.next-run.ensures in
    let more = judged _ _ _ (2 ^ 33 - 2 * c.loop-run.run.left) next.1 i.0 (omega (arith, i.1)) (omega arith) in
    (more.0, omega (arith, c.loop-run-test.true, i.1, next.0, more.1))
