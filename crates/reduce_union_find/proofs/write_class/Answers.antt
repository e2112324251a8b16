use mathlib.Core.Path.{sym, ◌∙◌}
use mathlib.Core.Logic.{⊎_elim}
use native.Mathlib.Omega.{arith}
use Rattle.reduce_union_find.proofs.Writing.{class_start, class_takes, class_skips, class_place}
use Rattle.reduce_union_find.proofs.write_class.Goals as goal

pub loop-i-init : goal.loop-i-init
loop-i-init c = class_start _ _ _ _

pub bounds-members-at : goal.bounds-members-at
bounds-members-at c =
    let h = c.requires in
    class_place _ _ _ _ _ _ _ c.loop-i.invariant _ c.loop-i-test.true (sym c.from.ensures ∙ c.if-from-root.true) (rw h.2 h.3)

pub overflow_add-at : goal.overflow_add-at
overflow_add-at c =
    let h = c.requires in
    omega (arith, h.2, class_place _ _ _ _ _ _ _ c.loop-i.invariant _ c.loop-i-test.true (sym c.from.ensures ∙ c.if-from-root.true) (rw h.2 h.3))

pub loop-i-preserved : goal.loop-i-preserved
loop-i-preserved c =
    let w = c.loop-i.invariant in
    let e = c.from.ensures in
    ⊎_elim (λ a. rw (a.members-is, a.at-is) (class_takes _ _ _ _ _ _ _ w (sym e ∙ a.if-from-root.true)))
    (λ a. rw (a.members-is, a.at-is) (class_skips _ _ _ _ _ _ _ w (λ z. a.if-from-root.false (e ∙ z))))
    c.if-from-root.branch-raw
