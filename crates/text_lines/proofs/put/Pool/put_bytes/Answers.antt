-- No room: nothing is put; else the bytes are.
use mathlib.Core.Path.{sym, ◌∙◌}
use borrow.Author.Tests.{leb-true, leb-false}
use Rattle.text_lines.proofs.PutLaws.{put-none, put_some}
use Rattle.text_lines.proofs.put.Pool.put_bytes.Goals as goal

pub returns-then-not-has_room-clause-put : goal.returns-then-not-has_room-clause-put
returns-then-not-has_room-clause-put c =
    put-none _ _ _ (leb-false _ _ (sym c.has_room.ensures ∙ c.if-not-has_room.true))

pub put_fitting-requires : goal.put_fitting-requires
put_fitting-requires c =
    leb-true _ _ (sym c.has_room.ensures ∙ c.if-not-has_room.false)

pub returns-clause-put : goal.returns-clause-put
returns-clause-put c =
    put_some _ _ _ (leb-true _ _ (sym c.has_room.ensures ∙ c.if-not-has_room.false)) c.put_fitting.ensures.put
