use mathlib.Core.Path.{refl, sym, ◌∙◌}
use Rattle.base_lists.proofs.Stores.{each_part, each-end, each-count, stored-none}
use Rattle.reduce_added.proofs.Copying.{copies_none, copies_some}
use Rattle.reduce_added.proofs.copies.copies_in.Goals as goal

pub returns-then-not-holds : goal.returns-then-not-holds
returns-then-not-holds c = (refl, stored-none _ _ (copies_none _ _ (sym c.holds.ensures ∙ c.if-not-holds.true)))

pub copy_to-requires : goal.copy_to-requires
copy_to-requires c =
    let l = c.loop-member in
    let a = c.args in
    let e = copies_some a.row a.group.now (sym c.holds.ensures ∙ c.if-not-holds.false) in
    each-count _ _ l.member-index 0 _ c.loop-member-test.true l.invariant.1 (rw e at c.requires)

pub loop-member-preserved : goal.loop-member-preserved
loop-member-preserved c =
    let l = c.loop-member in
    let w = c.copy_to.ensures in
    (w.0 ∙ l.invariant.0, each_part _ _ l.member-index 0 c.loop-member-test.true l.invariant.1 w.1)

pub returns : goal.returns
returns c =
    let a = c.args in
    let l = c.loop-member in
    let e = copies_some a.row a.group.now (sym c.holds.ensures ∙ c.if-not-holds.false) in
    rw e (l.invariant.0, each-end _ _ _ c.loop-member-test.false l.invariant.1)
