-- Each way out of `link` is a law of `Linking`.
use mathlib.Core.Path.{sym, ◌∙◌}
use borrow.Author.Tests.{ltb-true, ltb-false}
use Rattle.reduce_union_find.proofs.Linking.{linked-same, linked-left, linked-right}
use Rattle.reduce_union_find.proofs.UnionFind.link.Goals as goal

pub returns-then-left-right : goal.returns-then-left-right
returns-then-left-right c = sym (linked-same _ _ _ c.if-left-right.true)

pub returns-then-is_higher : goal.returns-then-is_higher
returns-then-is_higher c = rw c.hang.ensures (sym (linked-left _ _ _ c.if-left-right.false (ltb-true _ _ (sym c.is_higher.ensures ∙ c.if-is_higher.true))))

pub returns : goal.returns
returns c = rw c.hang-2.ensures (sym (linked-right _ _ _ c.if-left-right.false (ltb-false _ _ (sym c.is_higher.ensures ∙ c.if-is_higher.false))))
