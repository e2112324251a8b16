use mathlib.Core.Path.{refl}
use native.Mathlib.Omega.{arith}
use Rattle.list_tables.specs.steps.Tables.{entry_at}
use Rattle.list_rule_tables.proofs.FigureLaws.{first-within}
use Rattle.list_rule_counts.proofs.RoomLaws.{slot-wide, slot-start, slot_step, slot-end}
use Rattle.list_rule_counts.proofs.rooms.narrow_slot.Goals as goal

pub returns-then-room-gt64 : goal.returns-then-room-gt64
returns-then-room-gt64 c =
    slot-wide _ _ _ _ _ _ _ _ _ _ refl c.if-room-gt64.true

pub loop-choice-init : goal.loop-choice-init
loop-choice-init c =
    let e = c.requires.1.1.1 in slot-start _ _ _ _ _ _ _ _ _ e

pub loop-choice-preserved : goal.loop-choice-preserved
loop-choice-preserved c =
    slot_step (entry_at _) _ _ _ _ _ _ _ _ _ _ _ _ _ _ refl refl refl c.loop-choice.invariant c.member.ensures c.left_with.ensures

pub returns : goal.returns
returns c =
    slot-end _ _ _ _ _ _ _ _ _ _ _ _ refl c.if-room-gt64.false (omega (arith, c.loop-choice-test.false, first-within _ _ _ c.requires.1.1.1, c.loop-choice.auto)) c.loop-choice.invariant
