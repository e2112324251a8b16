-- The loop's invariant: the entries of the choices so far are written.
use Rattle.search_map.specs.Map.{map_of}
use Rattle.search_map.specs.steps.Filling.{Entered}
use Rattle.search_map.proofs.own_map.add_entries.Given as goal

abbrev pub invariant-loop-choice : goal.invariant-loop-choice
invariant-loop-choice l =
    Entered l.choice l.rows (map_of l.initial.starts l.initial.lengths l.initial.numbers) l.at (map_of l.starts l.lengths l.numbers)
