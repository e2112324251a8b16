-- Each way out of `join` is a law of `Linking`.
use mathlib.Core.Path.{sym, ap₂, ◌∙◌}
use Rattle.reduce_union_find.specs.State.{linked}
use Rattle.reduce_union_find.proofs.Root.{root_is, roots_fit, taken-ends}
use Rattle.reduce_union_find.proofs.Linking.{join_untaken, join_left_out, join_right_out, join_links}
use borrow.Author.Rules.{rules}
use Rattle.reduce_union_find.proofs.UnionFind.join.Goals as goal

pub returns-then-not-is_taken : goal.returns-then-not-is_taken
returns-then-not-is_taken c =
    c.refused.ensures ∙ sym (join_untaken _ _ _ _ (sym c.is_taken.ensures ∙ c.if-not-is_taken.true))

pub returns-then-left-choices : goal.returns-then-left-choices
returns-then-left-choices c = c.refused-then-left-choices.ensures ∙ sym (join_left_out _ _ _ _ c.if-left-choices.true)

pub returns-then-right-choices : goal.returns-then-right-choices
returns-then-right-choices c = c.refused-then-right-choices.ensures ∙ sym (join_right_out _ _ _ _ c.if-right-choices.true)

pub climb-left_root-requires : goal.climb-left_root-requires
climb-left_root-requires c = (search rules, taken-ends _ _ (sym c.is_taken.ensures ∙ c.if-not-is_taken.false) _ c.if-left-choices.false)

pub climb-right_root-requires : goal.climb-right_root-requires
climb-right_root-requires c = (search rules, taken-ends _ _ (sym c.is_taken.ensures ∙ c.if-not-is_taken.false) _ c.if-right-choices.false)

pub link-requires : goal.link-requires
link-requires c =
    let uf = c.args.self in
    rw (root_is uf _ _ c.climb-left_root.ensures, root_is uf _ _ c.climb-right_root.ensures)
    (roots_fit _ _ _ _ (sym c.is_taken.ensures ∙ c.if-not-is_taken.false) c.if-left-choices.false c.if-right-choices.false)

pub returns : goal.returns
returns c =
    c.link.ensures
    ∙ ap₂ (linked _) (root_is _ _ _ c.climb-left_root.ensures) (root_is _ _ _ c.climb-right_root.ensures)
    ∙ sym (join_links _ _ _ _ (sym c.is_taken.ensures ∙ c.if-not-is_taken.false) c.if-left-choices.false c.if-right-choices.false)
