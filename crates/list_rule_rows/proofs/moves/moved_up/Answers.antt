-- One law, of bits; past every place nothing is left.
use Rattle.list_rule_rows.proofs.MoveLaws.{up_law, up-past}
use Rattle.list_rule_rows.proofs.moves.moved_up.Goals as goal

pub returns-then-by-ge64 : goal.returns-then-by-ge64
returns-then-by-ge64 c = up-past _ _ _ c.if-by-ge64.true

pub returns : goal.returns
returns c = up_law _ _ _ _ c.first_domain.ensures
