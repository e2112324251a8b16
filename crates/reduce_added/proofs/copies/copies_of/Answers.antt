use mathlib.Core.Path.{◌∙◌}
use Rattle.base_lists.proofs.Cut.{cuts_end}
use Rattle.reduce_added.proofs.Cutting.{turn}
use borrow.Author.Rules.{rules}
use Rattle.reduce_added.proofs.copies.copies_of.Goals as goal

pub offset_bounds-members-start : goal.offset_bounds-members-start
offset_bounds-members-start c =
    let l = c.loop-byte in
    let k = (turn _ _ _ l.start l.byte-index _ c.from-end.ensures c.loop-byte-test.true l.invariant.1).starts-within in
    search rules

pub slice_bounds-copies_in-count : goal.slice_bounds-copies_in-count
slice_bounds-copies_in-count c =
    let l = c.loop-byte in
    (turn _ _ _ l.start l.byte-index _ c.from-end.ensures c.loop-byte-test.true l.invariant.1).rises

pub slice_bounds-copies_in-start : goal.slice_bounds-copies_in-start
slice_bounds-copies_in-start c =
    let l = c.loop-byte in
    (turn _ _ _ l.start l.byte-index _ c.from-end.ensures c.loop-byte-test.true l.invariant.1).rises

pub slice_bounds-copies_in-end : goal.slice_bounds-copies_in-end
slice_bounds-copies_in-end c =
    let l = c.loop-byte in
    (turn _ _ _ l.start l.byte-index _ c.from-end.ensures c.loop-byte-test.true l.invariant.1).ends-within

pub copies_in-requires : goal.copies_in-requires
copies_in-requires c =
    let l = c.loop-byte in
    (turn _ _ _ l.start l.byte-index _ c.from-end.ensures c.loop-byte-test.true l.invariant.1).counts _ c.requires.1

pub loop-byte-preserved : goal.loop-byte-preserved
loop-byte-preserved c =
    let l = c.loop-byte in
    let w = c.copies_in.ensures in
    (w.0 ∙ l.invariant.0, (turn _ _ _ l.start l.byte-index _ c.from-end.ensures c.loop-byte-test.true l.invariant.1).next w.1)

pub returns : goal.returns
returns c = (c.loop-byte.invariant.0, cuts_end _ _ _ c.loop-byte.start c.loop-byte.byte-index c.loop-byte-test.false c.loop-byte.invariant.1)
