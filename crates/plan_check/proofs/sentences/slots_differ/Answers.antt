-- An omitted choice passes; a scheduled one by comparing the bytes.
use mathlib.Core.Path.{sym, ◌∙◌}
use Rattle.plan_check.proofs.RowLaws.{differ_out, differ_in}
use Rattle.plan_check.proofs.sentences.slots_differ.Goals as goal

pub returns-then-place : goal.returns-then-place
returns-then-place c =
    sym (differ_out _ _ _ (sym c.slot_of-place.ensures ∙ c.if-place.true))

pub returns : goal.returns
returns c =
    let l = c.slot_of-place.ensures in
    rw (l, c.slot_of.ensures) (sym (differ_in _ _ _ λ z. c.if-place.false (l ∙ z)))
