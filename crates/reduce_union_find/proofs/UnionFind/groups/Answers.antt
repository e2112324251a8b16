-- Each way out of `groups` is a law of `Grouping`.
use mathlib.Core.Path.{sym, ap, ◌∙◌}
use Rattle.reduce_union_find.specs.Groups.{groups_written}
use Rattle.reduce_union_find.proofs.Grouping.{groups_untaken, groups-members, groups-ends, groups-wrote, roots_are, taken_climbs}
use borrow.Author.Rules.{rules}
use Rattle.reduce_union_find.proofs.UnionFind.groups.Goals as goal

pub returns-then-not-is_taken : goal.returns-then-not-is_taken
returns-then-not-is_taken c = sym (groups_untaken _ _ _ _ (sym c.is_taken.ensures ∙ c.if-not-is_taken.true))

pub returns-then-members-ne64 : goal.returns-then-members-ne64
returns-then-members-ne64 c = sym (groups-members _ _ _ _ (sym c.is_taken.ensures ∙ c.if-not-is_taken.false) c.if-members-ne64.true)

pub returns-then-ends-ne64 : goal.returns-then-ends-ne64
returns-then-ends-ne64 c = sym (groups-ends _ _ _ _ (sym c.is_taken.ensures ∙ c.if-not-is_taken.false) c.if-ends-ne64.true)

pub write_all-requires : goal.write_all-requires
write_all-requires c = (taken_climbs _ _ (search rules) (sym c.is_taken.ensures ∙ c.if-not-is_taken.false), c.if-members-ne64.false, c.if-ends-ne64.false)

pub returns : goal.returns
returns c =
    c.write_all.ensures
    ∙ ap groups_written (roots_are _ _)
    ∙ sym (groups-wrote _ _ _ _ (sym c.is_taken.ensures ∙ c.if-not-is_taken.false) c.if-members-ne64.false c.if-ends-ne64.false)
