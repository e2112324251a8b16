-- The rows in front, the places that they and the sums leave, and the first of these.
use Rattle.list_walk.proofs.NextLaws.{opened-front}
use Rattle.list_walk.proofs.next.open_next.Goals as goal

pub returns : goal.returns
returns c =
    let f = c.front_of-front.ensures in
    (f.0, (f.1, (opened-front _ _ _ _ _ _ _ _ _ _ _ f.0 c.open_to-places.ensures, c.first_in-left.ensures)))
