-- What the analysis answers, and the pools that it leaves.
use mathlib.Core.Path.{sym}
use Rattle.thalluscrest_figures.specs.Layouts.{sets_figures}
use Rattle.thalluscrest.proofs.CrossingLaws.{crosses}
use Rattle.thalluscrest.proofs.sets.thalluscrest_analyze.Goals as goal

pub returns : goal.returns
returns c = rw (sym c.analysis_by.ensures) (crosses sets_figures _ _ c.put.ensures c.analyze-analyzed.ensures)
