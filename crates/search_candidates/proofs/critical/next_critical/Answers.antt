use native.Mathlib.Omega.{arith}
use Rattle.search_candidates.proofs.TestLaws.{is-critical, not_critical, next-on, next_here}
use Rattle.search_candidates.proofs.critical.next_critical.Goals as goal

pub returns-then-together-asked : goal.returns-then-together-asked
returns-then-together-asked c = next_here _ _ _ _ (omega arith) c.loop-slot-test.true c.loop-slot.invariant (is-critical _ _ _ _ _ _ c.load.ensures c.together.ensures c.if-together-asked.true)

pub loop-slot-preserved : goal.loop-slot-preserved
loop-slot-preserved c = next-on _ _ _ c.loop-slot.invariant (not_critical _ _ _ _ _ _ c.load.ensures c.together.ensures c.if-together-asked.false)
