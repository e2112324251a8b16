-- The loop's invariant: the entries up to here are read, and the next one's place is the one after them.
use Rattle.std.proofs.Common.{◌≡◌, length, take}
use Rattle.test_cases.specs.steps.Readings.{EachRead}
use Rattle.test_cases.proofs.ReadingLaws.{place}
use Rattle.test_cases.proofs.read_entries_by.Given as goal

abbrev pub invariant-loop-x : goal.invariant-loop-x
invariant-loop-x g l =
    (length l.entries ≡ length l.initial.entries)
    × (l.at ≡ place l.size l.from l.x-index)
    × EachRead (g.R.Reading.MayRead l.reading l.bytes) l.size l.from (take l.x-index l.entries)
