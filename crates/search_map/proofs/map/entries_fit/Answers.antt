use mathlib.Core.Path.{sym, ◌∙◌}
use Rattle.base_lists.proofs.Below.{all_more, one-fails}
use Rattle.base_lists.proofs.Through.{all_none}
use Rattle.search_map.proofs.map.entries_fit.Goals as goal

pub loop-choice-init : goal.loop-choice-init
loop-choice-init c =
    all_none _

pub returns-then-not-entry_fits : goal.returns-then-not-entry_fits
returns-then-not-entry_fits c =
    sym (one-fails _ _ _ c.loop-choice-test.true (sym c.entry_fits.ensures ∙ c.if-not-entry_fits.true))

pub loop-choice-preserved : goal.loop-choice-preserved
loop-choice-preserved c =
    all_more _ _ c.loop-choice.invariant (sym c.entry_fits.ensures ∙ c.if-not-entry_fits.false)
