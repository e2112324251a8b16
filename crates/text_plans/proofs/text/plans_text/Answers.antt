use Rattle.text_plans.proofs.CallLaws.{text-room, text-length, text-made}
use Rattle.text_plans.proofs.text.plans_text.Goals as goal

pub returns-then-room-gt-MOST_ROOM : goal.returns-then-room-gt-MOST_ROOM
returns-then-room-gt-MOST_ROOM c =
    text-room _ _ _ _ _ c.if-room-gt-MOST_ROOM.true

pub returns-then-text-ne-LONGEST_TEXT : goal.returns-then-text-ne-LONGEST_TEXT
returns-then-text-ne-LONGEST_TEXT c =
    text-length _ _ _ _ _ c.if-room-gt-MOST_ROOM.false c.if-text-ne-LONGEST_TEXT.true

pub returns : goal.returns
returns c =
    text-made _ _ _ _ _ c.if-room-gt-MOST_ROOM.false c.if-text-ne-LONGEST_TEXT.false (c.fill.ensures.after (λ _ e. e)) c.put_plans_of_file.ensures
