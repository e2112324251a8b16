-- Each way out of `is_sound` is a law of `Entry`.
use mathlib.Core.Path.{sym, ◌∙◌}
use Rattle.reduce_union_find.proofs.Entry.{sound-high, sound-root, sound-out, sound-up}
use Rattle.reduce_union_find.proofs.UnionFind.is_sound.Goals as goal

pub returns-then-height-gt64 : goal.returns-then-height-gt64
returns-then-height-gt64 c = sym (sound-high _ _ _ c.if-height-gt64.true)

pub returns-then-parent-eq255 : goal.returns-then-parent-eq255
returns-then-parent-eq255 c = sym (sound-root _ _ _ c.if-height-gt64.false (sym c.from-parent.ensures ∙ c.if-parent-eq255.true))

pub returns-then-parent-choices : goal.returns-then-parent-choices
returns-then-parent-choices c =
    let e = c.from-parent.ensures in
    sym (sound-out _ _ _ (λ z. c.if-parent-eq255.false (e ∙ z)) (rw e at c.if-parent-choices.true))

pub returns : goal.returns
returns c =
    let e = c.from-parent.ensures in
    rw e (sym (sound-up _ _ _ c.if-height-gt64.false (λ z. c.if-parent-eq255.false (e ∙ z)) (rw e at c.if-parent-choices.false)))
