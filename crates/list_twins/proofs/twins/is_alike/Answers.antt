-- Named, other sums, or what the maximums say.
use mathlib.Core.Path.{sym, ◌∙◌}
use Rattle.list_twins.proofs.AlikeLaws.{unlike_named, unlike_sums, alike-by}
use Rattle.list_twins.proofs.twins.is_alike.Goals as goal

pub returns-then-member : goal.returns-then-member
returns-then-member c =
    unlike_named _ _ _ _ _ _ (sym c.member.ensures ∙ c.if-member.true)

pub returns-then-not-same_sum : goal.returns-then-not-same_sum
returns-then-not-same_sum c =
    unlike_sums _ _ _ _ _ _ _ (sym c.member.ensures ∙ c.if-member.false) c.same_sum.ensures c.if-not-same_sum.true

pub returns : goal.returns
returns c =
    alike-by _ _ _ _ _ _ _ _ _ _ (sym c.member.ensures ∙ c.if-member.false) c.same_sum.ensures c.if-not-same_sum.false c.min.ensures c.min-2.ensures c.same_sum-2.ensures
