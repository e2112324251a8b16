-- One law, of bits.
use Rattle.list_twins.proofs.NameLaws.{either_law}
use borrow.Author.Rules.{rules}
use Rattle.list_twins.proofs.names.either.Goals as goal

pub returns : goal.returns
returns c =
    either_law _ _ (search rules) (search rules)
