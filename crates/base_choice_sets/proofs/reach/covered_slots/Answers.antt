-- The slots that meet the set, counted.
use mathlib.Core.Path.{◌∙◌, ap}
use lib.Seq.{take_all}
use Rattle.std.specs.List.{count_by}
use Rattle.base_choice_sets.specs.Sets.{meets}
use Rattle.base_choice_sets.proofs.ReachLaws.{covered-of}
use Rattle.base_choice_sets.proofs.reach.covered_slots.Goals as goal

pub returns : goal.returns
returns c =
    let l = c.loop-slot in
    l.invariant.1
    ∙ ap (count_by (λ slot. meets slot c.args.set)) (take_all l.slot-index c.args.slots.now c.loop-slot-test.false)
    ∙ covered-of _ _
