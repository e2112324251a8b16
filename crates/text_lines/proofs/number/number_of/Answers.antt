use mathlib.Core.Path.{◌≡◌, sym, ◌∙◌}
use Prim.Native.Nat.{◌+◌, ◌*◌, ◌-◌}
use borrow.Author.Tests.{eqb-true}
use lib.ListN.{get_or}
use native.Mathlib.Omega.{arith}
use Rattle.text_lines.proofs.NumberLaws.{number-empty, reading_other, reading_large, reading_digit, reading_end}
use Rattle.text_lines.specs.Number.{is_digit}
use Rattle.text_lines.proofs.number.number_of.Goals as goal

pub returns-then-is_empty : goal.returns-then-is_empty
returns-then-is_empty c =
    number-empty _ (eqb-true _ 0 (sym c.is_empty.ensures ∙ c.if-is_empty.true))

pub returns-then-not-is_ascii_digit : goal.returns-then-not-is_ascii_digit
unfolding is_digit
returns-then-not-is_ascii_digit c =
    reading_other c.loop-byte.invariant c.loop-byte-test.true (sym c.is_ascii_digit.ensures.value ∙ c.if-not-is_ascii_digit.true)

pub returns-in_err-checked_mul : goal.returns-in_err-checked_mul
returns-in_err-checked_mul c =
    rw c.from_residual.ensures (reading_large c.loop-byte.invariant c.loop-byte-test.true (let over = c.in_err-checked_mul.ensures in omega (arith, over)))

pub returns-in_err-value : goal.returns-in_err-value
returns-in_err-value c =
    rw c.from_residual-in_err-value.ensures (reading_large c.loop-byte.invariant c.loop-byte-test.true (let ten = c.in_ok-checked_mul.ensures in let digit = c.from.ensures in let over = c.in_err-value.ensures in omega (arith, ten, digit, over)))

pub loop-byte-preserved : goal.loop-byte-preserved
unfolding is_digit
loop-byte-preserved c =
    let ten = c.in_ok-checked_mul.ensures in
    let sum = c.in_ok-value.ensures in
    let read : c.in_ok-value.value ≡ 10 * c.loop-byte.value + (get_or c.args.bytes.now c.loop-byte.byte-index 0 - 48) = omega (arith, c.from.ensures, ten, sum) in
    rw read (reading_digit c.loop-byte.invariant c.loop-byte-test.true (sym c.is_ascii_digit.ensures.value ∙ c.if-not-is_ascii_digit.false) (omega (arith, c.from.ensures, ten, sum)))

pub returns : goal.returns
returns c =
    reading_end c.loop-byte.invariant c.loop-byte-test.false
