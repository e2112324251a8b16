use mathlib.Core.Path.{◌≡◌, refl, sym, ap, ◌∙◌}
use Prim.Native.Nat.{◌+◌, ◌-◌}
use native.Mathlib.Omega.{arith}
use borrow.Author.Tests.{lt-ltb, le-ltb}
use lib.Dec.{ltb}
use lib.ListN.{get_or}
use Rattle.base_lists.specs.Below.{all_below}
use Rattle.base_lists.proofs.Below.{all_more, one-fails}
use Rattle.day_rows.specs.Levels.{levels_rise}
use Rattle.day_rows.proofs.lists.levels_rise.Goals as goal

pub loop-i-init : goal.loop-i-init
unfolding all_below
loop-i-init c = (omega arith, refl)

pub returns-then-levels-i : goal.returns-then-levels-i
unfolding levels_rise
returns-then-levels-i c =
    let e : c.loop-i.i - 1 + 1 ≡ c.loop-i.i = omega arith in
    sym (one-fails _ _ (c.loop-i.i - 1) (omega arith) (rw e (le-ltb _ _ c.if-levels-i.true)))

pub loop-i-preserved : goal.loop-i-preserved
loop-i-preserved c =
    let e : c.loop-i.i - 1 + 1 ≡ c.loop-i.i = omega arith in
    let more = all_more (λ k. ltb (get_or c.args.levels.now k 0) (get_or c.args.levels.now (k + 1) 0)) (c.loop-i.i - 1) c.loop-i.invariant.1 (rw e (lt-ltb _ _ c.if-levels-i.false)) in
    (omega arith, ap (λ n. all_below n (λ k. ltb (get_or c.args.levels.now k 0) (get_or c.args.levels.now (k + 1) 0))) (omega arith) ∙ more)

pub returns : goal.returns
unfolding levels_rise
returns c =
    sym (ap (λ n. all_below n (λ k. ltb (get_or c.args.levels.now k 0) (get_or c.args.levels.now (k + 1) 0))) (omega arith) ∙ c.loop-i.invariant.1)
