-- Another slot, or the tried one.
use mathlib.Core.Path.{sym, ◌∙◌}
use Rattle.search_candidates.proofs.CaseLaws.{room-elsewhere, room_tried}
use Rattle.search_candidates.proofs.limits.room_allows.Goals as goal

pub returns-then-place-slot : goal.returns-then-place-slot
returns-then-place-slot c =
    sym (room-elsewhere _ _ _ λ e. c.if-place-slot.true (e ∙ sym c.left_of-slot.ensures))

pub returns : goal.returns
returns c =
    c.room_for.ensures ∙ rw (c.extra_of.ensures, c.load.ensures, c.right_of.ensures, c.left_of-slot.ensures) (sym (room_tried _ _ _ (c.if-place-slot.false ∙ c.left_of-slot.ensures)))
