-- Past the end the list gives 0 too.
use Rattle.std.proofs.Common.{sym}
use lib.ListN.{get_or-eq_default}
use Rattle.test_cases.proofs.byte.Goals as goal

pub returns-then-bytes-at : goal.returns-then-bytes-at
returns-then-bytes-at c =
    sym (get_or-eq_default c.args.bytes.now 0 c.if-bytes-at.true)
