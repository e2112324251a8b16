use mathlib.Core.Path.{sym}
use borrow.Author.Tests.{le-leb, lt-leb}
use Rattle.base_lists.proofs.Below.{all_more, one-fails}
use Rattle.base_lists.proofs.Through.{all_none}
use Rattle.day_file.proofs.judge.optional_in.Goals as goal

pub loop-i-init : goal.loop-i-init
loop-i-init c =
    all_none _

pub returns-then-file-flags-gt1 : goal.returns-then-file-flags-gt1
returns-then-file-flags-gt1 c =
    sym (one-fails _ _ _ c.loop-i-test.true (lt-leb _ _ c.if-file-flags-gt1.true))

pub loop-i-preserved : goal.loop-i-preserved
loop-i-preserved c =
    all_more _ _ c.loop-i.invariant (le-leb _ _ c.if-file-flags-gt1.false)
