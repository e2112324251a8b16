-- Each kind's arm is its sentence; past them all, no plan keeps the row.
use mathlib.Core.Path.{◌≡◌, sym, ◌∙◌, ap}
use mathlib.Core.Bool.{not}
use Prim.Native.Nat.{ℕ}
use Rattle.plan_check.proofs.RowLaws.{keeps_in_slot, keeps-not_in_slot, keeps-same-slot, keeps-not-same-slot, keeps-offset-row, keeps_limited_size, keeps_no_other}
use Rattle.plan_check.proofs.rows.keeps_row.Goals as goal

-- the column's kind is none that the read kind is not
other : {column kind : ℕ} {code : ℕ} → column ≡ kind → (kind ≡ code → ⊥) → column ≡ code → ⊥
other e n c = n (sym e ∙ c)

pub returns-in-1 : goal.returns-in-1
returns-in-1 c =
    c.in_slot.ensures ∙ sym (keeps_in_slot _ _ (sym c.kind_of.ensures ∙ c.in-1.is))

pub returns-in-2 : goal.returns-in-2
returns-in-2 c =
    ap not c.in_slot-in-2.ensures ∙ sym (keeps-not_in_slot _ _ (sym c.kind_of.ensures ∙ c.in-2.is))

pub returns-in-3 : goal.returns-in-3
returns-in-3 c =
    c.same_slot.ensures ∙ rw (c.left_of.ensures, c.right_of.ensures) (sym (keeps-same-slot _ _ (sym c.kind_of.ensures ∙ c.in-3.is)))

pub returns-in-4 : goal.returns-in-4
returns-in-4 c =
    c.slots_differ.ensures ∙ rw (c.left_of-in-4.ensures, c.right_of-in-4.ensures) (sym (keeps-not-same-slot _ _ (sym c.kind_of.ensures ∙ c.in-4.is)))

pub returns-in-5 : goal.returns-in-5
returns-in-5 c =
    c.keeps_offset.ensures ∙ rw (c.left_of-in-5.ensures, c.right_of-in-5.ensures, c.extra_of.ensures) (sym (keeps-offset-row _ _ (sym c.kind_of.ensures ∙ c.in-5.is)))

pub returns-in-6 : goal.returns-in-6
returns-in-6 c =
    let size = c.size_of.ensures ∙ c.requires.counts _ in
    c.op_holds.ensures ∙ rw (c.extra_of-in-6.ensures, size, c.left_of-in-6.ensures, c.right_of-in-6.ensures) (sym (keeps_limited_size _ _ (sym c.kind_of.ensures ∙ c.in-6.is)))

pub returns-in_default : goal.returns-in_default
returns-in_default c =
    let r = c.in_default.in_default-own.rest in
    let e = sym c.kind_of.ensures in
    sym (keeps_no_other _ _ (other e r.0.0.0.0.0.1) (other e r.0.0.0.0.1) (other e r.0.0.0.1) (other e r.0.0.1) (other e r.0.1) (other e r.1))
