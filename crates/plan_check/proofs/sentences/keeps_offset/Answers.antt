-- The three ways out: left omitted, right alone omitted, both scheduled.
use mathlib.Core.Path.{sym, ◌∙◌, ap}
use Prim.Native.Nat.{ℕ}
use lib.Dec.{eqb}
use Rattle.plan_check.proofs.RowLaws.{offset-left-out, offset-right-out, offset-both}
use Rattle.plan_check.proofs.sentences.keeps_offset.Goals as goal

pub returns-then-from : goal.returns-then-from
returns-then-from c =
    let l = c.slot_of-from.ensures in
    let r = c.slot_of-to.ensures in
    ap (λ (x : ℕ). eqb x 255) r ∙ sym (offset-left-out _ _ _ _ (sym l ∙ c.if-from.true))

pub returns-then-to : goal.returns-then-to
returns-then-to c =
    let l = c.slot_of-from.ensures in
    let r = c.slot_of-to.ensures in
    sym (offset-right-out _ _ _ _ (λ z. c.if-from.false (l ∙ z)) (sym r ∙ c.if-to.true))

pub returns : goal.returns
returns c =
    let l = c.slot_of-from.ensures in
    let r = c.slot_of-to.ensures in
    rw (l, r) (sym (offset-both _ _ _ _ (λ z. c.if-from.false (l ∙ z)) (λ z. c.if-to.false (r ∙ z))))
