-- Each kind of row by its sentence; past them all, no roster keeps the row.
use mathlib.Core.Path.{◌≡◌, sym, ◌∙◌, ap}
use mathlib.Core.Bool.{not}
use Prim.Native.Nat.{ℕ}
use Rattle.roster_rows.proofs.KindLaws.{keeps_10, keeps_11, keeps_12, keeps_13, keeps-other}
use Rattle.roster_rows.proofs.assignment.keeps_assignment_row.Goals as goal

other : {column kind : ℕ} {code : ℕ} → column ≡ kind → (kind ≡ code → ⊥) → column ≡ code → ⊥
other e n c = n (sym e ∙ c)

pub returns-in-10 : goal.returns-in-10
returns-in-10 c =
    c.keeps_same_choosers.ensures ∙ rw (c.left_of-left.ensures, c.right_of-right.ensures) (sym (keeps_10 _ _ (sym c.kind_of.ensures ∙ c.in-10.is)))

pub returns-in-11 : goal.returns-in-11
returns-in-11 c =
    c.keeps_chooser_in.ensures ∙ rw (c.left_of-left.ensures, c.right_of-right.ensures) (sym (keeps_11 _ _ (sym c.kind_of.ensures ∙ c.in-11.is)))

pub returns-in-12 : goal.returns-in-12
returns-in-12 c =
    ap not c.seated.ensures ∙ rw (c.left_of-left.ensures, c.right_of-right.ensures) (sym (keeps_12 _ _ (sym c.kind_of.ensures ∙ c.in-12.is)))

pub returns-in-13 : goal.returns-in-13
returns-in-13 c =
    c.same_choices.ensures ∙ rw (c.left_of-left.ensures, c.right_of-right.ensures) (sym (keeps_13 _ _ (sym c.kind_of.ensures ∙ c.in-13.is)))

pub returns-in_default : goal.returns-in_default
returns-in_default c =
    let r = c.in_default.in_default-own.rest in
    let e = sym c.kind_of.ensures in
    sym (keeps-other _ _ (other e r.0.0.0.1) (other e r.0.0.1) (other e r.0.1) (other e r.1))
