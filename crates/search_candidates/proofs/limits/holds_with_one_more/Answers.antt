-- A count that can't grow is past every limit, as one more would be.
use mathlib.Core.Path.{◌∙◌}
use native.Mathlib.Omega.{arith}
use Rattle.search_candidates.proofs.CaseLaws.{past-limit}
use Rattle.search_candidates.proofs.limits.holds_with_one_more.Goals as goal

pub returns-then-count-eq4294967295 : goal.returns-then-count-eq4294967295
returns-then-count-eq4294967295 c =
    c.op_holds.ensures ∙ past-limit _ _ _ _ (omega (arith, c.if-count-eq4294967295.true)) (omega (arith, c.if-count-eq4294967295.true))
