-- None of many, and the choices that have two places or more.
use Rattle.list_rule_tables.proofs.FigureLaws.{free-many, free-few}
use Rattle.list_rule_tables.proofs.figures.free_of.Goals as goal

pub returns-then-choices-gt64 : goal.returns-then-choices-gt64
returns-then-choices-gt64 c =
    free-many _ _ c.if-choices-gt64.true

pub returns : goal.returns
returns c =
    free-few _ _ _ c.if-choices-gt64.false c.free_choices.ensures
