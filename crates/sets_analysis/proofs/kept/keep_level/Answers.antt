use mathlib.Core.Path.{refl}
use native.Mathlib.Omega.{arith}
use Rattle.sets_analysis.proofs.KeptSteps.{level-start, level-next, kept_as, many_as, level-on, level-over, level-done, candidate_fits, start_fits, room-is}
use Rattle.sets_analysis.proofs.kept.keep_level.Goals as goal

pub room_of-room-requires : goal.room_of-room-requires
room_of-room-requires c =
    (c.requires.1.few-choosers, c.requires.1.few-slots)

pub loop-chooser-init : goal.loop-chooser-init
loop-chooser-init c =
    level-start _ _ _ _ _ _ c.requires.0 refl

pub candidate_of-found-requires : goal.candidate_of-found-requires
candidate_of-found-requires c =
    candidate_fits _ _ _ _ _ _ _ c.requires.1 c.loop-chooser.invariant c.loop-chooser-test.true

pub keep-requires : goal.keep-requires
keep-requires c = c.loop-chooser.invariant.lent

pub overflow_mul-start : goal.overflow_mul-start
overflow_mul-start c =
    omega (arith, start_fits _ _ _ _ _ _ _ c.requires.1 c.loop-chooser.invariant c.loop-chooser-test.true)

pub shape_of-masks : goal.shape_of-masks
shape_of-masks c =
    omega (arith, c.loop-chooser.invariant.lent.masks-full, c.requires.0.masks-full)

pub shape_of-set_levels : goal.shape_of-set_levels
shape_of-set_levels c =
    omega (arith, c.loop-chooser.invariant.lent.levels-full, c.requires.0.levels-full)

pub returns-in_err-kept : goal.returns-in_err-kept
returns-in_err-kept c =
    let next = level-next _ _ _ _ _ _ _ c.loop-chooser.invariant _ _ _ c.requires.1.mins-fit (room-is _ _ c.room_of-room.ensures) c.candidate_of-found.ensures in
    rw c.from_residual.ensures (level-over _ _ _ _ c.loop-chooser-test.true (many_as next c.in_err-kept.ensures))

pub loop-chooser-preserved : goal.loop-chooser-preserved
loop-chooser-preserved c =
    let next = level-next _ _ _ _ _ _ _ c.loop-chooser.invariant _ _ _ c.requires.1.mins-fit (room-is _ _ c.room_of-room.ensures) c.candidate_of-found.ensures in
    level-on _ _ _ _ _ _ _ c.loop-chooser.invariant _ _ _ (kept_as next c.in_ok-kept.ensures.1) c.loop-chooser-test.true (omega arith) (omega arith) c.in_ok-kept.ensures.0

pub returns : goal.returns
returns c = (c.loop-chooser.invariant.lent.few, level-done _ _ _ _ _ _ _ c.loop-chooser.invariant c.loop-chooser-test.false)
