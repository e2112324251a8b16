use Rattle.search_pass.proofs.PlanLaws.{fits_not, fits-ordered}
use Rattle.search_pass.proofs.pass.pass_fits.Goals as goal

pub returns-then-not-shapes_fit : goal.returns-then-not-shapes_fit
returns-then-not-shapes_fit c =
    fits_not _ _ _ c.shapes_fit.ensures c.if-not-shapes_fit.true

pub returns : goal.returns
returns c =
    fits-ordered _ _ _ c.shapes_fit.ensures _ c.if-not-shapes_fit.false c.is_permutation.ensures
