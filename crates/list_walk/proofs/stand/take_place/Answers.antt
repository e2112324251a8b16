-- The place, what the choice brings there, and the plan and the sums with it.
use Rattle.std.proofs.Common.{arith}
use Rattle.list_walk.proofs.stand.take_place.Goals as goal

pub returns : goal.returns
returns c =
    record {
      place = c.place_at-place.ensures;
      minimum = c.amount_of-least.ensures.0;
      maximum = c.amount_of-most.ensures.0;
      low = (omega (arith, c.amount_of-least.ensures.1), omega (arith, c.amount_of-most.ensures.1));
      placed = c.put_place.ensures;
      summed = c.add_at.ensures;
      filled = c.add_at-2.ensures;
    }
