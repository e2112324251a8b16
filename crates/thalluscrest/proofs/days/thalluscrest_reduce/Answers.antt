-- What the reduction answers, and the pool that it leaves.
use Rattle.thalluscrest.proofs.CrossingLaws.{reduction-crosses}
use Rattle.thalluscrest.proofs.days.thalluscrest_reduce.Goals as goal

pub returns : goal.returns
returns c = reduction-crosses _ _ c.put_reduced.ensures c.reduce-reduced.ensures
