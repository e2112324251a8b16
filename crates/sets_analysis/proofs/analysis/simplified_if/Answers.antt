-- Simplified if asked, else as they are.
use native.Mathlib.Omega.{arith}
use Rattle.sets_analysis.proofs.SimplifiedSteps.{asked-simplified, unasked}
use Rattle.sets_analysis.proofs.analysis.simplified_if.Goals as goal

pub simplify-requires : goal.simplify-requires
simplify-requires c = c.requires

pub returns-then-asked : goal.returns-then-asked
returns-then-asked c =
    (c.simplify.ensures.0, asked-simplified _ _ _ c.if-asked.true c.simplify.ensures.1)

pub returns : goal.returns
returns c = (omega arith, unasked _ _ c.if-asked.false)
