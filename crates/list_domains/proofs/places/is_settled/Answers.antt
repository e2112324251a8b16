-- Nothing left, or one law, of bits.
use borrow.Author.Rules.{rules}
use Rattle.list_domains.proofs.PlaceLaws.{settled-none, settled_law}
use Rattle.list_domains.proofs.places.is_settled.Goals as goal

pub returns-then-domain-eq0 : goal.returns-then-domain-eq0
returns-then-domain-eq0 c = settled-none _ (search rules) c.if-domain-eq0.true

pub returns : goal.returns
returns c = settled_law _ (search rules) c.if-domain-eq0.false
