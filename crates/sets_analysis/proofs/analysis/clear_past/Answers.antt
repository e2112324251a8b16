-- Each pool keeps its first sets, and zeros come after them.
use native.Mathlib.Omega.{arith}
use Rattle.sets_analysis.proofs.PoolSteps.{cleared-part}
use Rattle.sets_analysis.proofs.analysis.clear_past.Goals as goal

pub returns : goal.returns
returns c = (
  cleared-part _ _ _ (omega (arith, c.requires.few, c.requires.masks-full)) c.requires.masks-full (c.fill.ensures.after (λ y e. e)),
  cleared-part _ _ _ (omega (arith, c.requires.few, c.requires.levels-full)) c.requires.levels-full (c.fill-2.ensures.after (λ y e. e)),
)
