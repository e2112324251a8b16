-- One law, of bits.
use Rattle.list_domains.proofs.PlaceLaws.{both_law}
use borrow.Author.Rules.{rules}
use Rattle.list_domains.proofs.places.both.Goals as goal

pub returns : goal.returns
returns c = both_law _ _ (search rules) (search rules)
