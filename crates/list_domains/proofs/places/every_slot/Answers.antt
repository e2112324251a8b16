-- One law, of bits; no place is past 63.
use lib.Pow.{pow_pos}
use Rattle.base_choice_sets.proofs.SetLaws.{bit_fits}
use Rattle.list_domains.proofs.PlaceLaws.{every_law, every-past}
use Rattle.list_domains.proofs.places.every_slot.Goals as goal

pub returns-then-slots-ge64 : goal.returns-then-slots-ge64
returns-then-slots-ge64 c = every-past _ c.if-slots-ge64.true

pub overflow_sub-result : goal.overflow_sub-result
overflow_sub-result c = rw (bit_fits _ c.if-slots-ge64.false) (pow_pos _)

pub returns : goal.returns
returns c = every_law _ c.if-slots-ge64.false
