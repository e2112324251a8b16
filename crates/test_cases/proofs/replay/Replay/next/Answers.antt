-- The tally that is read on has this record counted.
use Rattle.std.proofs.Common.{sym}
use Rattle.test_cases.proofs.replay.Replay.next.Goals as goal

pub returns : goal.returns
returns c =
    let read = c.read_on.ensures in
    let counts = c.with.ensures in
    (read.0, rw (sym counts) read.1)
