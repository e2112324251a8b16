-- Four words of the list.
use Rattle.std.proofs.Common.{le-ltb, lt-ltb}
use Rattle.test_cases.specs.steps.Numbers.{number_at}
use Rattle.test_cases.proofs.number.Goals as goal

pub returns-then-at-gt4294967295 : goal.returns-then-at-gt4294967295
unfolding number_at
returns-then-at-gt4294967295 c =
    rw (lt-ltb _ _ c.if-at-gt4294967295.true)

pub returns : goal.returns
unfolding number_at
returns c =
    rw (le-ltb _ _ c.if-at-gt4294967295.false, c.from.ensures, c.from-2.ensures, c.from-3.ensures, c.from-4.ensures, c.word.ensures, c.word-2.ensures, c.word-3.ensures, c.word-4.ensures)
