use mathlib.Core.Path.{sym, ◌∙◌}
use native.Mathlib.Omega.{arith}
use Rattle.reduce_union_find.proofs.Root.{ends_in, climb-here, next}
use Rattle.reduce_union_find.proofs.+climb.Goals as goal

pub bounds-parents-element : goal.bounds-parents-element
bounds-parents-element t c =
    let h = c.requires in
    rw h.0 (ends_in _ _ _ h.1)

pub returns-then-parent-eq255 : goal.returns-then-parent-eq255
returns-then-parent-eq255 t c = sym (climb-here _ _ _ (sym c.from-parent.ensures ∙ c.if-parent-eq255.true))

pub overflow_add-steps : goal.overflow_add-steps
overflow_add-steps t c =
    let k = next _ _ _ c.requires.1 (λ z. c.if-parent-eq255.false (c.from-parent.ensures ∙ z)) in
    omega (arith, k.room)

pub climb-requires : goal.climb-requires
climb-requires t c =
    let h = c.requires in
    let e = c.from-parent.ensures in
    let k = next _ _ _ h.1 (λ z. c.if-parent-eq255.false (e ∙ z)) in
    (omega (arith, k.room, c.decreases), (h.0, rw e k.ends))

pub returns : goal.returns
returns t c =
    let h = c.requires in
    let e = c.from-parent.ensures in
    c.climb.ensures ∙ rw e (next _ _ _ h.1 (λ z. c.if-parent-eq255.false (e ∙ z))).same
