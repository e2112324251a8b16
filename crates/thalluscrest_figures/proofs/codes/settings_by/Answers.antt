-- Two flags and the analysis by their numbers.
use Rattle.thalluscrest_figures.proofs.FigureLaws.{settings-told}
use Rattle.thalluscrest_figures.proofs.codes.settings_by.Goals as goal

pub returns : goal.returns
returns c = let a = c.args in settings-told a.full a.analysis a.at_last_level a.pass_budget a.total_budget c.is_yes.ensures c.analysis_by.ensures c.is_yes-2.ensures
