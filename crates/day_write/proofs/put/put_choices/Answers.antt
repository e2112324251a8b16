use mathlib.Core.Path.{refl, ◌∙◌}
use Rattle.base_lists.proofs.Stores.{sets-start, sets_join}
use Rattle.day_file.specs.File.{choice_bytes}
use Rattle.day_file.proofs.FileLaws.{length-choice}
use Rattle.day_write.proofs.WriteLaws.{choice-is}
use Rattle.day_write.proofs.put.put_choices.Goals as goal

pub loop-i-init : goal.loop-i-init
loop-i-init c =
    (refl, sets-start _ _ _)

pub loop-i-preserved : goal.loop-i-preserved
loop-i-preserved c =
    let day = c.args.day.now in
    (c.put_choice.auto.pool ∙ c.loop-i.invariant.0, sets_join 5 (choice_bytes day.mins.now day.maxs.now day.optional.now) (length-choice day.mins.now day.maxs.now day.optional.now) _ _ _ c.loop-i.invariant.1 (choice-is _ _ _ _ _ _ c.put_choice.ensures))
