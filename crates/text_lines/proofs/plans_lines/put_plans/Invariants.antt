-- The loop's invariant: the lines of the first i plans are put, and the pool is the same.
use Prim.Native.Nat.{◌+◌, ◌*◌, ◌^◌, ◌≤◌, ◌<◌}
use lib.ListN.{length}
use Rattle.text_lines.specs.steps.Put.{SamePool}
use Rattle.text_lines.proofs.PlanLaws.{Lines}
use Rattle.text_lines.proofs.plans_lines.put_plans.Given as goal

abbrev pub invariant-loop-i : goal.invariant-loop-i
invariant-loop-i l =
    (l.page.count * l.page.choices ≤ length l.page.plans.now) × (l.page.first + l.page.count < 2 ^ 64) × Lines l.page.first l.page.count l.page.choices l.page.plans.now l.initial.text.bytes.now l.initial.text.next l.text.bytes.now l.text.next l.i × SamePool l.initial.text l.text
