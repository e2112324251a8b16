-- Each way out of `find` is a law of `Root`.
use mathlib.Core.Path.{sym, ap, ◌∙◌}
use Rattle.day_rows.specs.Told.{done}
use Rattle.reduce_union_find.proofs.Root.{find_untaken, find_out, find_root, root_is, taken-ends}
use borrow.Author.Rules.{rules}
use Rattle.reduce_union_find.proofs.UnionFind.find.Goals as goal

pub returns-then-not-is_taken : goal.returns-then-not-is_taken
returns-then-not-is_taken c = sym (find_untaken _ _ _ (sym c.is_taken.ensures ∙ c.if-not-is_taken.true))

pub returns-then-element-choices : goal.returns-then-element-choices
returns-then-element-choices c = sym (find_out _ _ _ c.if-element-choices.true)

pub climb-requires : goal.climb-requires
climb-requires c = (search rules, taken-ends _ _ (sym c.is_taken.ensures ∙ c.if-not-is_taken.false) _ c.if-element-choices.false)

pub returns : goal.returns
returns c =
    ap done (root_is _ _ _ c.climb.ensures)
    ∙ sym (find_root _ _ _ (sym c.is_taken.ensures ∙ c.if-not-is_taken.false) c.if-element-choices.false)
