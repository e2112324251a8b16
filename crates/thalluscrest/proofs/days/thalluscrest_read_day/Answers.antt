-- What reading a day answers, and the pools that it leaves.
use Rattle.thalluscrest_figures.specs.Layouts.{day_figures}
use Rattle.thalluscrest.proofs.CrossingLaws.{crosses}
use Rattle.thalluscrest.proofs.days.thalluscrest_read_day.Goals as goal

pub returns : goal.returns
returns c = crosses day_figures _ _ c.put.ensures c.read_day-read.ensures
