-- Too many sets, or the sets with their bound.
use mathlib.Core.Path.{sym, ◌∙◌}
use native.Mathlib.Omega.{arith}
use Rattle.day_rows.specs.Levels.{last_level}
use Rattle.sets_analysis.specs.SetsDay.{sets_day_lent}
use Rattle.sets_analysis.specs.Bound.{lowered_to}
use Rattle.sets_analysis.specs.steps.Pools.{simplified_if}
use Rattle.sets_analysis.proofs.PoolSteps.{front-of, front-told, lent-on, lent-back, sets-back}
use Rattle.sets_analysis.proofs.CallSteps.{day-over, day-answer}
use Rattle.sets_analysis.proofs.analysis.analyze_day.Goals as goal

pub kept_sets-requires : goal.kept_sets-requires
kept_sets-requires c = c.requires

pub clear_past-requires : goal.clear_past-requires
clear_past-requires c =
    record {
      masks-full = omega (arith, c.masks-1.given, c.requires.0.masks-full);
      levels-full = omega (arith, c.set_levels-1.given, c.requires.0.levels-full);
      few = omega arith;
    }

pub returns-in_default : goal.returns-in_default
returns-in_default c = day-over _ _ _ _ c.in_default.ensures c.clear_past.ensures

pub simplified_if-count-requires : goal.simplified_if-count-requires
simplified_if-count-requires c =
    front-of (lent-on _ _ _ c.requires.0 c.kept_sets.auto.masks c.kept_sets.auto.set_levels c.in-Some.ensures.0)

pub bound_of-bound-requires : goal.bound_of-bound-requires
bound_of-bound-requires c =
    let kept = lent-on _ c.kept_sets.new.masks c.kept_sets.new.set_levels c.requires.0 c.kept_sets.auto.masks c.kept_sets.auto.set_levels c.in-Some.ensures.0 in
    let s = c.simplified_if-count in
    let lent = lent-back kept s.result _ _ s.auto.masks s.auto.levels s.ensures.0 in
    (front-of lent, omega (arith, c.requires.1.some-levels, c.requires.1.levels-fit))

pub clear_past-requires-2 : goal.clear_past-requires-2
clear_past-requires-2 c =
    let kept = lent-on _ c.kept_sets.new.masks c.kept_sets.new.set_levels c.requires.0 c.kept_sets.auto.masks c.kept_sets.auto.set_levels c.in-Some.ensures.0 in
    let s = c.simplified_if-count in
    let lent = lent-back kept s.result _ _ s.auto.masks s.auto.levels s.ensures.0 in
    lent

pub shape_of-masks : goal.shape_of-masks
shape_of-masks c =
    let kept = lent-on _ c.kept_sets.new.masks c.kept_sets.new.set_levels c.requires.0 c.kept_sets.auto.masks c.kept_sets.auto.set_levels c.in-Some.ensures.0 in
    let s = c.simplified_if-count in
    let lent = lent-back kept s.result _ _ s.auto.masks s.auto.levels s.ensures.0 in
    c.clear_past-2.auto.masks ∙ lent.masks-full ∙ sym c.requires.0.masks-full

pub shape_of-set_levels : goal.shape_of-set_levels
shape_of-set_levels c =
    let kept = lent-on _ c.kept_sets.new.masks c.kept_sets.new.set_levels c.requires.0 c.kept_sets.auto.masks c.kept_sets.auto.set_levels c.in-Some.ensures.0 in
    let s = c.simplified_if-count in
    let lent = lent-back kept s.result _ _ s.auto.masks s.auto.levels s.ensures.0 in
    c.clear_past-2.auto.levels ∙ lent.levels-full ∙ sym c.requires.0.levels-full

pub returns : goal.returns
returns c =
    let day = sets_day_lent c.args.day.now in
    let kept = lent-on _ c.kept_sets.new.masks c.kept_sets.new.set_levels c.requires.0 c.kept_sets.auto.masks c.kept_sets.auto.set_levels c.in-Some.ensures.0 in
    let s = c.simplified_if-count in
    let lent = lent-back kept s.result _ _ s.auto.masks s.auto.levels s.ensures.0 in
    day-answer _ _ _ _ _ _ _ _ _ c.in-Some.ensures.1 c.in-Some.ensures.0 (sets-back kept s.result _ _ s.auto.masks s.auto.levels (simplified_if c.args.simplifies) s.ensures)
    (front-told (λ sets. lowered_to day.counts.slots sets (last_level day.levels) day.levels) lent c.bound_of-bound.ensures) lent c.clear_past-2.ensures
