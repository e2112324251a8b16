-- The choice has no domain, or its domain is changed.
use mathlib.Core.Path.{sym, ◌∙◌}
use Rattle.list_rule_rows.proofs.SideLaws.{domain_below, self_none, self_by}
use Rattle.list_rule_rows.proofs.narrow.narrow_self.Goals as goal

pub returns-then-not-has_domain : goal.returns-then-not-has_domain
returns-then-not-has_domain c = self_none _ _ _ _ _ c.left_of-left.ensures (sym c.has_domain.ensures ∙ c.if-not-has_domain.true)

pub bounds-domains-left : goal.bounds-domains-left
bounds-domains-left c = domain_below _ _ (sym c.has_domain.ensures ∙ c.if-not-has_domain.false)

pub bounds-domains-left-2 : goal.bounds-domains-left-2
bounds-domains-left-2 c = domain_below _ _ (sym c.has_domain.ensures ∙ c.if-not-has_domain.false)

pub returns : goal.returns
returns c = self_by _ _ _ _ _ _ c.left_of-left.ensures (sym c.has_domain.ensures ∙ c.if-not-has_domain.false) c.self_leaves.ensures
