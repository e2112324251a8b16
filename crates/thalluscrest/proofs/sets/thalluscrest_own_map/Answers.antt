-- What the own map answers, and the pools that it leaves.
use Rattle.thalluscrest_figures.specs.Layouts.{one_figure}
use Rattle.thalluscrest.proofs.CrossingLaws.{crosses}
use Rattle.thalluscrest.proofs.sets.thalluscrest_own_map.Goals as goal

pub returns : goal.returns
returns c = crosses one_figure _ _ c.put.ensures c.own_map-mapped.ensures
