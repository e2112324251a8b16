-- What writing a day answers, and the pool that it leaves.
use Rattle.thalluscrest_figures.specs.Layouts.{one_figure}
use Rattle.thalluscrest.proofs.CrossingLaws.{crosses}
use Rattle.thalluscrest.proofs.days.thalluscrest_write_day.Goals as goal

pub returns : goal.returns
returns c = crosses one_figure _ _ c.put.ensures c.write_day-written.ensures
