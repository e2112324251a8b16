-- The array of roots gives the same classes as the climb.
use mathlib.Core.Path.{ap, ◌∙◌}
use Rattle.base_lists.proofs.Group.{classes_ext}
use Rattle.reduce_union_find.specs.Groups.{groups_written}
use Rattle.reduce_union_find.proofs.Writing.{cleared}
use Rattle.reduce_union_find.proofs.write_all.Goals as goal

pub write_groups-requires : goal.write_groups-requires
write_groups-requires c =
    let a = c in
    let h = a.requires in
    (c.roots_of-roots.ensures.0, h.0.small, cleared _ a.args.members.now (c.fill.ensures.after (λ _ e. e)) h.1, cleared _ a.args.ends.now (c.fill-2.ensures.after (λ _ e. e)) h.2)

pub returns : goal.returns
returns c =
    c.write_groups.ensures ∙ ap groups_written (classes_ext _ _ _ c.roots_of-roots.ensures.1)
