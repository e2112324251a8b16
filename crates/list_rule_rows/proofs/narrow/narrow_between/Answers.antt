-- The two sides are one choice, or they are two.
use mathlib.Core.Path.{sym, ◌∙◌}
use Rattle.list_rule_rows.proofs.SideLaws.{between-one, between-two}
use Rattle.list_rule_rows.proofs.narrow.narrow_between.Goals as goal

pub returns-then-left_of-right_of : goal.returns-then-left_of-right_of
returns-then-left_of-right_of c = let t = c in c.narrow_self.ensures ∙ between-one _ _ _ _ (sym t.left_of.ensures ∙ t.if-left_of-right_of.true ∙ t.right_of.ensures)

pub returns : goal.returns
returns c = let t = c in c.narrow_pair.ensures ∙ between-two _ _ _ _ λ e. t.if-left_of-right_of.false (t.left_of.ensures ∙ e ∙ sym t.right_of.ensures)
