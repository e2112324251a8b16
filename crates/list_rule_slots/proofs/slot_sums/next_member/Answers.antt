-- The zeros below the lowest bit from the place on: past the slots, or under them.
use mathlib.Core.Path.{refl}
use Prim.Native.Nat.{◌/◌, ◌^◌}
use native.Mathlib.Omega.{arith}
use lib.Count.{trailing_le}
use Rattle.list_rule_slots.proofs.SumLaws.{next-none, next-found}
use Rattle.list_rule_slots.proofs.slot_sums.next_member.Goals as goal

pub overflow_cast-place : goal.overflow_cast-place
overflow_cast-place c =
    omega (arith, trailing_le 64 (c.args.set / 2 ^ c.args.from))

pub overflow_add-place : goal.overflow_add-place
overflow_add-place c =
    omega (arith, c.requires.0, c.requires.1, trailing_le 64 (c.args.set / 2 ^ c.args.from))

pub returns-then-slots-place : goal.returns-then-slots-place
returns-then-slots-place c =
    next-none _ _ _ _ c.requires.0 refl c.requires.1 c.if-slots-place.true

pub returns : goal.returns
returns c =
    next-found _ _ _ _ c.requires.0 refl c.if-slots-place.false
