-- Every place is still open, or all but the twins are.
use Rattle.list_walk.proofs.StillLaws.{still_met, still_near, still_far}
use Rattle.list_walk.proofs.stand.pass_over.Goals as goal

pub returns-then-not-unmet : goal.returns-then-not-unmet
returns-then-not-unmet c =
    still_met _ _ _ _ _ _ _ _ c.if-not-unmet.true

pub returns-then-near_end : goal.returns-then-near_end
returns-then-near_end c =
    still_near _ _ _ _ _ _ _ _ c.if-not-unmet.false c.near_end.ensures c.if-near_end.true

pub returns : goal.returns
returns c =
    still_far _ _ _ _ _ _ _ _ c.if-not-unmet.false c.near_end.ensures c.if-near_end.false c.without_twins.ensures
