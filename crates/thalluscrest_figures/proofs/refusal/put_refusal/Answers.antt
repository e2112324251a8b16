-- The row that a refusal carries, and its number.
use Rattle.day_rows.specs.Refusal.{carried_by}
use Rattle.thalluscrest_figures.proofs.FigureLaws.{refusal-told}
use Rattle.thalluscrest_figures.proofs.refusal.put_refusal.Goals as goal

pub returns : goal.returns
returns c = refusal-told (carried_by c.args.why) c.from.ensures c.row_of.ensures
