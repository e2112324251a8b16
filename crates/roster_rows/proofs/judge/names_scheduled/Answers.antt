-- A choice is scheduled by its byte.
use mathlib.Core.Path.{◌∙◌, ap}
use Rattle.plan_check.specs.Plan.{slot_of}
use Rattle.roster_rows.proofs.JudgeLaws.{named_by}
use Rattle.roster_rows.proofs.judge.names_scheduled.Goals as goal

pub returns : goal.returns
returns c =
    named_by _ _ (c.slot_of.ensures ∙ ap (slot_of c.args.plan.now) c.from.ensures)
