-- What the two sides can face.
use mathlib.Core.Path.{◌∙◌}
use Rattle.list_rule_rows.proofs.SideLaws.{left-faced}
use Rattle.list_rule_rows.proofs.sides.left_by_offset.Goals as goal

pub returns : goal.returns
returns c = c.facing_places.ensures ∙ left-faced _ _ _ _
