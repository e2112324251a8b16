-- The loop's invariant: the first i places are put, there is room for all, and the pool is the same.
use mathlib.Core.List.{flat_map}
use Rattle.base_lists.proofs.Stores.{Each}
use Rattle.text_lines.specs.PlansLines.{place_text}
use Rattle.text_lines.specs.steps.Put.{Fits, SamePool}
use Rattle.text_lines.proofs.plans_lines.put_places.Given as goal

abbrev pub invariant-loop-place : goal.invariant-loop-place
invariant-loop-place l =
    Fits l.initial.text.bytes.now l.initial.text.next (flat_map place_text l.plan) × Each place_text l.plan l.initial.text.bytes.now l.initial.text.next l.text.bytes.now l.text.next l.place-index × SamePool l.initial.text l.text
