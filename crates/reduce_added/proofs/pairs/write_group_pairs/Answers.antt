use mathlib.Core.Path.{◌∙◌}
use Rattle.base_lists.proofs.Cut.{cuts_end}
use Rattle.reduce_added.specs.Pairs.{pairs_of}
use Rattle.reduce_added.proofs.Cutting.{turn}
use borrow.Author.Rules.{rules}
use Rattle.reduce_added.proofs.pairs.write_group_pairs.Goals as goal

pub offset_bounds-members-start : goal.offset_bounds-members-start
offset_bounds-members-start c =
    let l = c.loop-byte in
    let k = (turn _ _ _ l.start l.byte-index _ c.from-end.ensures c.loop-byte-test.true l.invariant.1).starts-within in
    search rules

pub slice_bounds-pairs_of-count : goal.slice_bounds-pairs_of-count
slice_bounds-pairs_of-count c =
    let l = c.loop-byte in
    (turn _ _ _ l.start l.byte-index _ c.from-end.ensures c.loop-byte-test.true l.invariant.1).rises

pub slice_bounds-pairs_of-start : goal.slice_bounds-pairs_of-start
slice_bounds-pairs_of-start c =
    let l = c.loop-byte in
    (turn _ _ _ l.start l.byte-index _ c.from-end.ensures c.loop-byte-test.true l.invariant.1).rises

pub slice_bounds-pairs_of-end : goal.slice_bounds-pairs_of-end
slice_bounds-pairs_of-end c =
    let l = c.loop-byte in
    (turn _ _ _ l.start l.byte-index _ c.from-end.ensures c.loop-byte-test.true l.invariant.1).ends-within

pub pairs_of-requires : goal.pairs_of-requires
pairs_of-requires c =
    let l = c.loop-byte in
    (turn _ _ _ l.start l.byte-index _ c.from-end.ensures c.loop-byte-test.true l.invariant.1).counts _ c.requires.1

pub loop-byte-preserved : goal.loop-byte-preserved
loop-byte-preserved c =
    let l = c.loop-byte in
    let w = c.pairs_of.ensures in
    (w.0 ∙ l.invariant.0, (turn _ _ _ l.start l.byte-index _ c.from-end.ensures c.loop-byte-test.true l.invariant.1).next w.1)

pub returns : goal.returns
returns c =
    let w = cuts_end pairs_of _ _ c.loop-byte.start c.loop-byte.byte-index c.loop-byte-test.false c.loop-byte.invariant.1 in
    let s = c.loop-byte.invariant.0 in
    search rules
