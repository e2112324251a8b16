-- H times all slots but one: both factors are small.
use mathlib.Core.Path.{ap}
use native.Mathlib.Omega.{arith}
use Prim.Native.Nat.{ℕ, ◌*◌}
use Rattle.sets_analysis.proofs.DaySteps.{product_few}
use Rattle.sets_analysis.proofs.kept.room_of.Goals as goal

pub overflow_mul-result : goal.overflow_mul-result
overflow_mul-result c =
    let s = c in
    let few = product_few s.args.counts.choosers c.all_but_one.result 200 24 s.requires.0 (omega (arith, s.requires.1, c.all_but_one.ensures)) in
    omega (arith, few)

pub returns : goal.returns
returns c =
    let s = c in
    ap (λ (n : ℕ). s.args.counts.choosers * n) c.all_but_one.ensures
