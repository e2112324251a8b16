-- The tests decide whether the walk is made.
use mathlib.Core.Path.{sym, ◌∙◌}
use Rattle.search_pass.proofs.PlanLaws.{pass-not-taken, pass-walked, plan-fits, walk-taken}
use Rattle.search_pass.proofs.pass.run_pass.Goals as goal

pub returns-then-not-pass_fits : goal.returns-then-not-pass_fits
returns-then-not-pass_fits c =
    pass-not-taken _ _ _ _ _ c.pass_fits.ensures c.if-not-pass_fits.true

pub walk_pass-requires : goal.walk_pass-requires
walk_pass-requires c =
    let h = sym c.pass_fits.ensures ∙ c.if-not-pass_fits.false in
    record { fact = walk-taken _ _ h; plan_len = plan-fits _ _ h }

pub shape_of-plan : goal.shape_of-plan
shape_of-plan c =
    c.walk_pass.auto.plan

pub returns : goal.returns
returns c =
    pass-walked _ _ _ _ _ c.pass_fits.ensures _ c.if-not-pass_fits.false c.walk_pass.ensures
