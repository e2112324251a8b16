use mathlib.Core.Path.{◌∙◌}
use Rattle.std.proofs.Common.{rules}
use Rattle.base_lists.proofs.Stores.{each-count, each_part, each-end}
use Rattle.reduce_turn.specs.Turn.{turned_one}
use Rattle.reduce_turn.proofs.turn.write_turned.Goals as goal

pub turn_one-requires : goal.turn_one-requires
turn_one-requires c =
    let l = c.loop-row in
    each-count turned_one _ l.row-index 0 _ c.loop-row-test.true l.invariant.1 c.requires

pub loop-row-preserved : goal.loop-row-preserved
loop-row-preserved c =
    let l = c.loop-row in
    let w = c.turn_one.ensures in
    (w.0 ∙ l.invariant.0, each_part turned_one _ l.row-index 0 c.loop-row-test.true l.invariant.1 w.1)

pub returns : goal.returns
returns c =
    let w = each-end turned_one _ c.loop-row.row-index c.loop-row-test.false c.loop-row.invariant.1 in
    let s = c.loop-row.invariant.0 in
    search rules
