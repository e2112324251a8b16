-- What is written into the first C places is the order.
use mathlib.Core.Path.{refl, sym}
use native.Mathlib.Omega.{arith}
use lib.ListN.{replicate}
use lib.Seq.{length-take-le}
use Rattle.search.proofs.OrderSteps.{order-first}
use Rattle.search.proofs.order.order_at.Goals as goal

pub slice_bounds-order_pass-end-2 : goal.slice_bounds-order_pass-end-2
slice_bounds-order_pass-end-2 c = sym (length-take-le c.args.choices (replicate 64 0) (omega (arith, c.requires)))

pub returns : goal.returns
returns c = order-first c.args.choices _ _ _ c.args.pass _ _ c.requires c.count_rows-counted.ensures c.order_pass.ensures refl
