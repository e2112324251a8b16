-- The loop's invariant: what the entries from here on tell, all of them tell.
use Rattle.std.proofs.Common.{◌-◌, Bool, drop}
use Rattle.test_cases.specs.steps.Readings.{Agreed}
use Rattle.test_cases.proofs.parts.entries_agree_by.Given as goal

abbrev pub invariant-loop-i : goal.invariant-loop-i
invariant-loop-i g l =
    (told : Bool)
    → Agreed (g.R.Reading.MayRead l.reading l.bytes) (g.T.PartialEq.eq) l.past l.apart l.at (l.n - l.i) (drop l.i l.pool) told
    → Agreed (g.R.Reading.MayRead l.reading l.bytes) (g.T.PartialEq.eq) l.past l.apart l.from l.n l.pool told
