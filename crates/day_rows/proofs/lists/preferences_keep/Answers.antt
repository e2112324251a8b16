use mathlib.Core.Path.{sym}
use borrow.Author.Tests.{le-leb, lt-leb}
use Rattle.base_lists.proofs.Below.{all_more, one-fails}
use Rattle.base_lists.proofs.Through.{all_none, all_done}
use Rattle.base_lists.specs.All.{all_at_most}
use Rattle.day_rows.proofs.lists.preferences_keep.Goals as goal

pub loop-preference-init : goal.loop-preference-init
loop-preference-init c = all_none _

pub returns-then-last-preference : goal.returns-then-last-preference
unfolding all_at_most
returns-then-last-preference c =
    sym (one-fails _ _ _ c.loop-preference-test.true (lt-leb _ _ c.if-last-preference.true))

pub loop-preference-preserved : goal.loop-preference-preserved
loop-preference-preserved c =
    all_more _ _ c.loop-preference.invariant (le-leb _ _ c.if-last-preference.false)

pub returns : goal.returns
unfolding all_at_most
returns c =
    all_done _ _ _ c.loop-preference.auto.preference-index-end c.loop-preference-test.false c.loop-preference.invariant
