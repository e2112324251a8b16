use mathlib.Core.Path.{◌∙◌}
use native.Mathlib.Omega.{arith}
use Rattle.base_lists.proofs.Stores.{stores-end}
use Rattle.reduce_added.proofs.Pairing.{pairs-part, pairs-room, pairs_end}
use Rattle.reduce_added.proofs.pairs.pairs_of.Goals as goal

pub pairs_with-requires : goal.pairs_with-requires
pairs_with-requires c =
    let l = c.loop-i in
    omega (arith, pairs-room c.args.list.now l.i c.loop-i-test.true, l.invariant.1.counted, c.requires)

pub loop-i-preserved : goal.loop-i-preserved
loop-i-preserved c =
    let l = c.loop-i in
    let w = c.pairs_with.ensures in
    (w.0 ∙ l.invariant.0, pairs-part _ l.i c.loop-i-test.true l.invariant.1 w.1)

pub returns : goal.returns
returns c =
    let l = c.loop-i in
    (l.invariant.0, stores-end (rw (pairs_end _ l.i c.loop-i-test.false) at l.invariant.1))
