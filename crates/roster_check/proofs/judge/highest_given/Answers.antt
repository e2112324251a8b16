use borrow.Author.Rules.{rules}
use mathlib.Core.Path.{refl}
use native.Mathlib.Omega.{arith}
use Rattle.roster_check.proofs.HighestLaws.{highest-none, highest-more, highest-done}
use Rattle.roster_check.proofs.judge.highest_given.Goals as goal

pub loop-preference-init : goal.loop-preference-init
loop-preference-init c =
    highest-none _

pub loop-preference-preserved : goal.loop-preference-preserved
loop-preference-preserved c =
    highest-more _ _ c.loop-preference.invariant refl (search rules)

pub returns : goal.returns
returns c =
    highest-done _ _ _ (omega arith) c.loop-preference-test.false c.loop-preference.invariant
