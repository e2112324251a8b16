-- A choice has no domain, or both domains are changed.
use mathlib.Core.Path.{sym, ◌∙◌}
use Rattle.list_rule_rows.proofs.SideLaws.{domain_below, pair_no_left, pair_no_right, pair-by}
use Rattle.list_rule_rows.proofs.narrow.narrow_pair.Goals as goal

pub returns-then-not-has_domain : goal.returns-then-not-has_domain
returns-then-not-has_domain c = pair_no_left _ _ _ _ _ c.left_of-left.ensures (sym c.has_domain.ensures ∙ c.if-not-has_domain.true)

pub returns-then-not-has_domain-2 : goal.returns-then-not-has_domain-2
returns-then-not-has_domain-2 c = pair_no_right _ _ _ _ _ c.right_of-right.ensures (sym c.has_domain-2.ensures ∙ c.if-not-has_domain-2.true)

pub bounds-domains-right : goal.bounds-domains-right
bounds-domains-right c = domain_below _ _ (sym c.has_domain-2.ensures ∙ c.if-not-has_domain-2.false)

pub bounds-domains-left : goal.bounds-domains-left
bounds-domains-left c = domain_below _ _ (sym c.has_domain.ensures ∙ c.if-not-has_domain.false)

pub bounds-domains-left-2 : goal.bounds-domains-left-2
bounds-domains-left-2 c = domain_below _ _ (sym c.has_domain.ensures ∙ c.if-not-has_domain.false)

pub bounds-domains-right-2 : goal.bounds-domains-right-2
bounds-domains-right-2 c = domain_below _ _ (sym c.has_domain-2.ensures ∙ c.if-not-has_domain-2.false)

pub returns : goal.returns
returns c = pair-by _ _ _ _ _ _ _ _ c.left_of-left.ensures c.right_of-right.ensures (sym c.has_domain.ensures ∙ c.if-not-has_domain.false) (sym c.has_domain-2.ensures ∙ c.if-not-has_domain-2.false) c.left_side-narrowed.ensures c.right_side.ensures
