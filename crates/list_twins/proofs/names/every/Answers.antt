-- One law, of bits.
use Rattle.list_twins.proofs.NameLaws.{every-slot}
use Rattle.list_twins.proofs.names.every.Goals as goal

pub returns : goal.returns
returns c =
    every-slot
