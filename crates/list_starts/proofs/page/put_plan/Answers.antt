-- A plan before the page, behind it, and on it.
use mathlib.Core.Path.{sym, ◌∙◌}
use Rattle.list_starts.proofs.FullLaws.{within-before, within-behind, within-not, within-here}
use Rattle.list_starts.proofs.page.put_plan.Goals as goal

pub returns-then-number-asked : goal.returns-then-number-asked
returns-then-number-asked c =
    within-before _ _ _ _ _ c.if-number-asked.true

pub returns-then-asked-place : goal.returns-then-asked-place
returns-then-asked-place c =
    within-behind _ _ _ _ _ c.if-number-asked.false c.if-asked-place.true

pub returns-then-not-buffer_fits : goal.returns-then-not-buffer_fits
returns-then-not-buffer_fits c =
    within-not _ _ _ _ _ c.if-number-asked.false (sym c.buffer_fits.ensures ∙ c.if-not-buffer_fits.true)

pub returns : goal.returns
returns c =
    c.copy_at.ensures ∙ within-here _ _ _ _ _ c.if-number-asked.false c.if-asked-place.false (sym c.buffer_fits.ensures ∙ c.if-not-buffer_fits.false)
