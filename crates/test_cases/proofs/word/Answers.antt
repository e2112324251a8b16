-- Two bytes of the list.
use Rattle.std.proofs.Common.{le-ltb, lt-ltb}
use Rattle.test_cases.specs.steps.Numbers.{word_at}
use Rattle.test_cases.proofs.word.Goals as goal

pub returns-then-at-gt4294967295 : goal.returns-then-at-gt4294967295
unfolding word_at
returns-then-at-gt4294967295 c =
    rw (lt-ltb _ _ c.if-at-gt4294967295.true)

pub returns : goal.returns
unfolding word_at
returns c =
    rw (le-ltb _ _ c.if-at-gt4294967295.false, c.from.ensures, c.from-2.ensures, c.byte.ensures, c.byte-2.ensures)
