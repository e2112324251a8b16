-- The loop's invariant: the pairs of the choosers so far are written, and a chooser whose flag is zero has
-- none.
use mathlib.Core.Path.{◌≡◌}
use lib.ListN.{length}
use Rattle.reduce_turn.specs.steps.Free.{Wrote}
use Rattle.reduce_added.specs.Pairs.{mandatory_pairs}
use Rattle.reduce_added.specs.steps.Marks.{Marked}
use Rattle.reduce_added.proofs.pairs.write_mandatory_pairs.Given as goal

abbrev pub invariant-loop-chooser : goal.invariant-loop-chooser
invariant-loop-chooser l = (length l.list ≡ 128) × (l.end.rows.ghost_name ≡ l.initial.end.rows.ghost_name) × (length l.named ≡ 256) × Marked l.rows l.named × Wrote l.initial.end.rows.now 0 (mandatory_pairs l.rows l.chooser) l.end.at l.end.rows.now
