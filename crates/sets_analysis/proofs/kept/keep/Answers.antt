-- Skipped for its sum or as covered; too many; or kept.
use mathlib.Core.Path.{sym, ◌∙◌}
use native.Mathlib.Omega.{arith}
use Rattle.base_lists.specs.Keep.{any_of}
use Rattle.sets_analysis.proofs.PoolSteps.{front-of, front-told}
use Rattle.sets_analysis.proofs.KeptSteps.{skips-sum, skips_covered, one_too_many, keeps-one, room-left}
use Rattle.sets_analysis.proofs.kept.keep.Goals as goal

pub is_covered-requires : goal.is_covered-requires
is_covered-requires c = front-of c.requires

pub returns-then-room-found : goal.returns-then-room-found
returns-then-room-found c = (c.requires.few, skips-sum _ _ _ _ _ _ c.if-room-found.true c.requires.few)

pub returns-then-is_covered : goal.returns-then-is_covered
returns-then-is_covered c =
    (c.requires.few, skips_covered _ _ _ _ _ _ c.if-room-found.false c.requires.few (sym (front-told (any_of _) c.requires c.is_covered.ensures) ∙ c.if-is_covered.true))

pub returns-then-count-eq-MOST_SETS : goal.returns-then-count-eq-MOST_SETS
returns-then-count-eq-MOST_SETS c =
    one_too_many _ _ _ _ _ _ c.if-room-found.false (sym (front-told (any_of _) c.requires c.is_covered.ensures) ∙ c.if-is_covered.false) c.if-count-eq-MOST_SETS.true

pub bounds-masks-count : goal.bounds-masks-count
bounds-masks-count c =
    (room-left _ _ _ c.requires c.if-count-eq-MOST_SETS.false).0

pub bounds-levels-count : goal.bounds-levels-count
bounds-levels-count c =
    (room-left _ _ _ c.requires c.if-count-eq-MOST_SETS.false).1

pub returns : goal.returns
returns c =
    let room = (room-left _ _ _ c.requires c.if-count-eq-MOST_SETS.false).0 in
    (omega (arith, room, c.requires.masks-full), keeps-one _ _ _ _ _ _ _ c.requires c.if-count-eq-MOST_SETS.false c.if-room-found.false (sym (front-told (any_of _) c.requires c.is_covered.ensures) ∙ c.if-is_covered.false))
