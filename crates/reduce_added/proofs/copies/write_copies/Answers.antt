use mathlib.Core.Path.{◌∙◌}
use Rattle.std.proofs.Common.{rules}
use Rattle.base_lists.proofs.Stores.{each_part, each-end, each-count}
use Rattle.reduce_added.proofs.copies.write_copies.Goals as goal

pub copies_for-requires : goal.copies_for-requires
copies_for-requires c =
    let l = c.loop-row in
    (c.requires.0, each-count _ _ l.row-index 0 _ c.loop-row-test.true l.invariant.1 c.requires.1)

pub loop-row-preserved : goal.loop-row-preserved
loop-row-preserved c =
    let l = c.loop-row in
    let w = c.copies_for.ensures in
    (w.0 ∙ l.invariant.0, each_part _ _ l.row-index 0 c.loop-row-test.true l.invariant.1 w.1)

pub returns : goal.returns
returns c =
    let w = each-end _ _ _ c.loop-row-test.false c.loop-row.invariant.1 in
    let s = c.loop-row.invariant.0 in
    search rules
