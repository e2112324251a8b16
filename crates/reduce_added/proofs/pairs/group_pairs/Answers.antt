-- Nothing is written for groups that do not fit.
use mathlib.Core.Path.{sym, ◌∙◌}
use Rattle.reduce_added.proofs.Limits.{no_groups, groups_require, groups-written}
use Rattle.reduce_added.proofs.pairs.group_pairs.Goals as goal

pub returns-then-not-groups_fit : goal.returns-then-not-groups_fit
returns-then-not-groups_fit c =
    no_groups _ _ _ (sym c.groups_fit.ensures ∙ c.if-not-groups_fit.true)

pub write_group_pairs-requires : goal.write_group_pairs-requires
write_group_pairs-requires c =
    groups_require _ _ (sym c.groups_fit.ensures ∙ c.if-not-groups_fit.false)

pub returns : goal.returns
returns c =
    groups-written _ _ (sym c.groups_fit.ensures ∙ c.if-not-groups_fit.false) _ _ c.write_group_pairs.ensures
