-- The tally that is read on has nothing counted.
use Rattle.std.proofs.Common.{arith, sym}
use Rattle.test_cases.proofs.TallyLaws.{nothing_counted}
use Rattle.test_cases.proofs.replay.Replay.of.Goals as goal

pub returns : goal.returns
returns g c =
    let read = c.read_on.ensures in
    let new = c.new.ensures in
    (omega (arith, read.0), rw (sym (nothing_counted _ _ _ new.0 new.1 new.2)) read.1)
