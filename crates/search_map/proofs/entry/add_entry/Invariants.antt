-- The loop's invariant: the entry of the rows so far is written.
use Rattle.search_map.proofs.Entries.{EntryTo}
use Rattle.search_map.proofs.entry.add_entry.Given as goal

abbrev pub invariant-loop-i : goal.invariant-loop-i
invariant-loop-i l =
    EntryTo l.rows l.choice l.initial.numbers l.from l.i l.at l.numbers
