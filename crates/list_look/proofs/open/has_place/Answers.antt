-- One law, of bits.
use Rattle.base_choice_sets.proofs.SetLaws.{member_law}
use Rattle.list_look.proofs.open.has_place.Goals as goal

pub returns : goal.returns
returns c = member_law _ _
