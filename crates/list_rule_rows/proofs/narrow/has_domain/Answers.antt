-- The day's choices, and the 64 places.
use Rattle.list_rule_rows.proofs.SideLaws.{no_choice, by_place}
use Rattle.list_rule_rows.proofs.narrow.has_domain.Goals as goal

pub returns-then-choices-choice : goal.returns-then-choices-choice
returns-then-choices-choice c = no_choice _ _ c.if-choices-choice.true

pub returns : goal.returns
returns c = by_place _ _ c.if-choices-choice.false
