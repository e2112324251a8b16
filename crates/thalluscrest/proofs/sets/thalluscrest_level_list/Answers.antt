-- What a level's list answers, and the pool that it leaves.
use Rattle.thalluscrest_figures.specs.Layouts.{one_figure}
use Rattle.thalluscrest.proofs.CrossingLaws.{crosses}
use Rattle.thalluscrest.proofs.sets.thalluscrest_level_list.Goals as goal

pub returns : goal.returns
returns c = crosses one_figure _ _ c.put.ensures c.level_list-listed.ensures
