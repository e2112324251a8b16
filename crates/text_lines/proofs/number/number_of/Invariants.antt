-- The loop's invariant: the bytes before i are digits, and their value is read.
use Rattle.text_lines.proofs.NumberLaws.{Reading}
use Rattle.text_lines.proofs.number.number_of.Given as goal

abbrev pub invariant-loop-byte : goal.invariant-loop-byte
invariant-loop-byte l =
    Reading l.bytes l.value l.byte-index
