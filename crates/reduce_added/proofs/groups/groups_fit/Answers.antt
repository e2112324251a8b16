-- The limits of members and groups, then the ends.
use mathlib.Core.Path.{◌∙◌}
use Rattle.reduce_added.proofs.Fitting.{many-members, many-groups, ends_decide}
use Rattle.reduce_added.proofs.groups.groups_fit.Goals as goal

pub returns-then-groups-gt64 : goal.returns-then-groups-gt64
returns-then-groups-gt64 c = many-members _ _ c.if-groups-gt64.true

pub returns-then-groups-gt64-2 : goal.returns-then-groups-gt64-2
returns-then-groups-gt64-2 c = many-groups _ _ c.if-groups-gt64.false c.if-groups-gt64-2.true

pub returns : goal.returns
returns c =
    c.ends_fit.ensures ∙ ends_decide _ _ c.if-groups-gt64.false c.if-groups-gt64-2.false
