-- A place is a slot, or omission.
use mathlib.Core.Path.{sym}
use Rattle.list_domains.proofs.DomainLaws.{number_in, number-out}
use Rattle.list_domains.proofs.places.place_number.Goals as goal

pub returns-then-place-slots : goal.returns-then-place-slots
returns-then-place-slots c =
    sym (number_in _ _ c.if-place-slots.true)

pub returns : goal.returns
returns c =
    sym (number-out _ _ c.if-place-slots.false)
