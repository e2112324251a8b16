-- The two sums of the place are given back.
use Rattle.list_walk.proofs.stand.leave_place.Goals as goal

pub returns : goal.returns
returns c =
    record { summed = c.take_at.ensures; filled = c.take_at-2.ensures }
