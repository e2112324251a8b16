use native.Mathlib.Omega.{arith}
use Rattle.base_lists.proofs.Stores.{each_part, each-end, each-room}
use Rattle.reduce_added.specs.Pairs.{mandatory_one}
use Rattle.reduce_added.proofs.Pairing.{mandatory-most}
use Rattle.reduce_added.proofs.pairs.mandatory.Goals as goal

pub list_one-at-requires : goal.list_one-at-requires
list_one-at-requires c =
    let l = c.loop-row in
    let a = c.args in
    omega (arith, each-room (mandatory_one a.chooser) a.rows.now l.row-index 0 c.loop-row-test.true, l.invariant.1.counted, l.invariant.1.same, mandatory-most a.rows.now a.chooser, c.requires)

pub loop-row-preserved : goal.loop-row-preserved
loop-row-preserved c =
    let l = c.loop-row in
    each_part _ _ l.row-index 0 c.loop-row-test.true l.invariant c.list_one-at.ensures

pub returns : goal.returns
returns c = each-end _ _ _ c.loop-row-test.false c.loop-row.invariant
