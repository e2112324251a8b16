use native.Mathlib.Omega.{arith}
use Rattle.search_map.proofs.Entries.{entry-start, entry-few, entry_next, entry_done}
use Rattle.search_map.proofs.entry.add_entry.Goals as goal

pub loop-i-init : goal.loop-i-init
loop-i-init c =
    entry-start _ _ _ _

pub add_row-at-requires : goal.add_row-at-requires
add_row-at-requires c =
    let l = c.loop-i.invariant in
    (omega (arith, c.loop-i-test.true, c.requires.0), omega (arith, entry-few _ _ l, l.within, c.requires.0, c.requires.1))

pub loop-i-preserved : goal.loop-i-preserved
loop-i-preserved c =
    entry_next _ _ c.loop-i.invariant c.loop-i-test.true c.add_row-at.ensures

pub returns : goal.returns
returns c =
    entry_done _ _ c.loop-i.invariant c.loop-i-test.false
