use mathlib.Core.Path.{sym, ◌∙◌}
use native.Mathlib.Omega.{arith}
use borrow.Author.Tests.{eq-eqb}
use Rattle.base_lists.proofs.Below.{all_more}
use Rattle.base_lists.proofs.Through.{all_none}
use Rattle.search_map.proofs.Holding.{whole-fails, whole-done}
use Rattle.search_map.proofs.map.is_whole.Goals as goal

pub loop-i-init : goal.loop-i-init
loop-i-init c =
    all_none _

pub returns-then-from-i : goal.returns-then-from-i
returns-then-from-i c =
    whole-fails _ _ c.loop-i-test.true c.from.ensures c.if-from-i.true

pub loop-i-preserved : goal.loop-i-preserved
loop-i-preserved c =
    all_more _ _ c.loop-i.invariant (eq-eqb _ _ (sym c.from.ensures ∙ c.if-from-i.false))

pub returns : goal.returns
returns c =
    whole-done _ _ (omega arith) c.loop-i-test.false c.loop-i.invariant
