-- Nothing left, more than one place left, or omission decides.
use mathlib.Core.Path.{◌∙◌, sym, ap}
use mathlib.Core.Bool.{not}
use borrow.Author.Rules.{rules}
use Rattle.list_domains.proofs.PlaceLaws.{empty-not-one, not-one, one-by}
use Rattle.list_domains.proofs.places.in_one_slot.Goals as goal

pub returns-then-domain-eq0 : goal.returns-then-domain-eq0
returns-then-domain-eq0 c = empty-not-one _ _ (search rules) c.if-domain-eq0.true

pub returns-then-not-is_settled : goal.returns-then-not-is_settled
returns-then-not-is_settled c = not-one _ _ (sym c.is_settled.ensures ∙ c.if-not-is_settled.true)

pub returns : goal.returns
returns c =
    ap not c.member.ensures
    ∙ one-by _ _ (search rules) c.if-domain-eq0.false (sym c.is_settled.ensures ∙ c.if-not-is_settled.false)
