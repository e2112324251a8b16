-- Nothing is written for too many rows, nor for groups that do not fit.
use mathlib.Core.Path.{sym, ◌∙◌}
use Rattle.reduce_added.proofs.Fitting.{many-rows, not-fitting, copies_requires, copies_written}
use Rattle.reduce_added.proofs.copies.copies.Goals as goal

pub returns-then-rows-gt128 : goal.returns-then-rows-gt128
returns-then-rows-gt128 c = many-rows _ _ _ _ c.if-rows-gt128.true

pub returns-then-not-groups_fit : goal.returns-then-not-groups_fit
returns-then-not-groups_fit c =
    not-fitting _ _ _ c.if-rows-gt128.false _ (sym c.groups_fit.ensures ∙ c.if-not-groups_fit.true)

pub write_copies-requires : goal.write_copies-requires
write_copies-requires c =
    copies_requires _ _ _ c.if-rows-gt128.false (sym c.groups_fit.ensures ∙ c.if-not-groups_fit.false)

pub returns : goal.returns
returns c =
    copies_written _ _ _ c.if-rows-gt128.false (sym c.groups_fit.ensures ∙ c.if-not-groups_fit.false) _ _ c.write_copies.ensures
