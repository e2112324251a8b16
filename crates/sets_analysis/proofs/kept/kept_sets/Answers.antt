use native.Mathlib.Omega.{arith}
use Rattle.sets_analysis.proofs.KeptSteps.{down-start, down-next, kept_as, many_as, down-on, down-over, down-done}
use Rattle.sets_analysis.proofs.kept.kept_sets.Goals as goal

pub loop-index-init : goal.loop-index-init
loop-index-init c =
    down-start _ _ _ _ c.requires.1.levels-fit c.requires.0

pub keep_level-requires : goal.keep_level-requires
keep_level-requires c =
    (c.loop-index.invariant.lent, c.requires.1, omega (arith, c.loop-index-test.true, c.loop-index.invariant.so_far, c.requires.1.levels-fit))

pub shape_of-masks : goal.shape_of-masks
shape_of-masks c =
    omega (arith, c.loop-index.invariant.lent.masks-full, c.requires.0.masks-full)

pub shape_of-set_levels : goal.shape_of-set_levels
shape_of-set_levels c =
    omega (arith, c.loop-index.invariant.lent.levels-full, c.requires.0.levels-full)

pub returns-in_err-kept : goal.returns-in_err-kept
returns-in_err-kept c =
    let next = down-next _ _ _ _ _ c.loop-index.invariant c.loop-index-test.true in
    rw c.from_residual.ensures (down-over _ _ (many_as next c.in_err-kept.ensures))

pub loop-index-preserved : goal.loop-index-preserved
loop-index-preserved c =
    let next = down-next _ _ _ _ _ c.loop-index.invariant c.loop-index-test.true in
    down-on _ _ _ _ _ c.loop-index.invariant _ _ _ (kept_as next c.in_ok-kept.ensures.1) c.loop-index-test.true (omega arith) (omega arith) c.in_ok-kept.ensures.0

pub returns : goal.returns
returns c = (c.loop-index.invariant.lent.few, down-done _ _ _ _ _ c.loop-index.invariant c.loop-index-test.false)
