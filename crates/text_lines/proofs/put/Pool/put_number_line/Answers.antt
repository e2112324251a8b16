-- No room for the word, or for the number behind it: nothing is put; else the line is.
use mathlib.Core.Path.{sym, ◌∙◌}
use Prim.Native.Nat.{◌+◌, ◌≤◌}
use native.Mathlib.Omega.{arith}
use borrow.Author.Rules.{rules}
use borrow.Author.Tests.{leb-true, leb-false}
use lib.ListN.{length}
use Rattle.text_lines.proofs.PutLaws.{put-none, put_some}
use Rattle.text_lines.proofs.NewlineLaws.{line_no_word, line_no_number, line-fits}
use Rattle.text_lines.proofs.DecimalLaws.{decimal-length}
use Rattle.text_lines.proofs.put.Pool.put_number_line.Goals as goal

pub returns-then-not-has_room-clause-put : goal.returns-then-not-has_room-clause-put
returns-then-not-has_room-clause-put c =
    let a = c.args in
    put-none _ _ _ (line_no_word a.self.now.bytes.now a.self.now.next a.word.now a.number (leb-false _ _ (sym c.has_room.ensures ∙ c.if-not-has_room.true)))

pub overflow_add-digits_at : goal.overflow_add-digits_at
overflow_add-digits_at c =
    let a = c.args in
    let h : a.self.now.next + length a.word.now ≤ length a.self.now.bytes.now = leb-true _ _ (sym c.has_room.ensures ∙ c.if-not-has_room.false) in
    search rules

pub overflow_add-digits_of : goal.overflow_add-digits_of
overflow_add-digits_of c =
    let d = decimal-length c.args.number in omega (arith, d, c.digits_of.ensures)

pub returns-then-not-has_room-2-clause-put : goal.returns-then-not-has_room-2-clause-put
returns-then-not-has_room-2-clause-put c =
    let a = c.args in
    put-none _ _ _ (line_no_number a.self.now.bytes.now a.self.now.next a.word.now a.number c.digits_of.ensures (leb-false _ _ (sym c.has_room-2.ensures ∙ c.if-not-has_room-2.true)))

pub put_fitting_line-requires : goal.put_fitting_line-requires
put_fitting_line-requires c =
    let a = c.args in
    line-fits a.self.now.bytes.now a.self.now.next a.word.now a.number c.digits_of.ensures (leb-true _ _ (sym c.has_room-2.ensures ∙ c.if-not-has_room-2.false))

pub returns-clause-put : goal.returns-clause-put
returns-clause-put c =
    let a = c.args in
    put_some _ _ _ (line-fits a.self.now.bytes.now a.self.now.next a.word.now a.number c.digits_of.ensures (leb-true _ _ (sym c.has_room-2.ensures ∙ c.if-not-has_room-2.false))) c.put_fitting_line.ensures.put
