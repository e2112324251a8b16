-- The loop's invariant: the lines of the first i choices are put, there is room for all, and the pool is the same.
use Rattle.text_lines.specs.steps.Put.{SamePool}
use Rattle.text_lines.proofs.ChoiceLaws.{Lines}
use Rattle.text_lines.proofs.plan_lines.put_choices.Given as goal

abbrev pub invariant-loop-i : goal.invariant-loop-i
invariant-loop-i l = Lines l.plan l.initial.text.bytes.now l.initial.text.next l.text.bytes.now l.text.next l.i × SamePool l.initial.text l.text
