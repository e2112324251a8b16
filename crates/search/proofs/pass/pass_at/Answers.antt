-- The pass has its order and its sets.
use mathlib.Core.Path.{sym}
use native.Mathlib.Omega.{arith}
use lib.Seq.{length-take-le}
use Rattle.search.proofs.LentSteps.{pass-answers}
use Rattle.search.proofs.pass.pass_at.Goals as goal

pub slice_bounds-lent-end : goal.slice_bounds-lent-end
slice_bounds-lent-end c = sym (length-take-le c.min-choices.result c.order_at-order.result (omega (arith, c.min-choices.ensures, c.order_at-order.ensures.0)))

pub slice_bounds-lent-end-2 : goal.slice_bounds-lent-end-2
slice_bounds-lent-end-2 c = sym (length-take-le _ _ c.sets_at-sets.ensures.0)

pub returns : goal.returns
returns c = pass-answers _ _ _ _ _ _ c.min-choices.ensures c.order_at-order.ensures.1 c.sets_at-sets.ensures.1 c.run_pass.ensures
