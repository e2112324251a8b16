-- The loop's invariant: what is left to store gives what was to store.
use Rattle.base_lists.proofs.Stores.{Each}
use Rattle.reduce_added.specs.Pairs.{mandatory_one}
use Rattle.reduce_added.proofs.pairs.mandatory.Given as goal

abbrev pub invariant-loop-row : goal.invariant-loop-row
invariant-loop-row l = Each (mandatory_one l.chooser) l.rows l.initial.list 0 l.list l.at l.row-index
