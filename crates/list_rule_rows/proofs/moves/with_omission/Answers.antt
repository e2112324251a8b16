-- One law, of bits.
use Rattle.list_rule_rows.proofs.MoveLaws.{omission_law}
use borrow.Author.Rules.{rules}
use Rattle.list_rule_rows.proofs.moves.with_omission.Goals as goal

pub returns : goal.returns
returns c = omission_law _ _ _ _ (search rules) (search rules) c.only.ensures
