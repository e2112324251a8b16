-- Up or down, whichever is more.
use mathlib.Core.Path.{◌∙◌}
use Rattle.list_rule_rows.proofs.MoveLaws.{faced-up, faced-down}
use Rattle.list_rule_rows.proofs.moves.facing_places.Goals as goal
use Rattle.list_rule_rows.proofs.moves.facing_places.Goals.{then-up-down, else-up-down}

pub returns : goal.returns
returns c =
    elim c.if-up-down.branch [
      | then-up-down w ↦ c.both.ensures ∙ faced-up _ _ _ _ _ _ _ w.if-up-down.true (w.moved-is ∙ w.moved_up-moved.ensures) c.with_omission.ensures
      | else-up-down w ↦ c.both.ensures ∙ faced-down _ _ _ _ _ _ _ w.if-up-down.false (w.moved-is ∙ w.moved_down-moved.ensures) c.with_omission.ensures
    ]
