use native.Mathlib.Omega.{arith}
use Rattle.search_map.proofs.Filling.{entered_start, entered_few, wrote-short, entered_next}
use Rattle.search_map.proofs.own_map.add_entries.Goals as goal

pub loop-choice-init : goal.loop-choice-init
loop-choice-init c =
    entered_start _ _ _ _

pub add_entry-after-requires : goal.add_entry-after-requires
add_entry-after-requires c =
    (c.requires.rows_in, omega (arith, entered_few _ _ _ _ c.loop-choice.invariant 1024 c.requires.rows_in, c.loop-choice-test.true, c.requires.choices_in))

pub overflow_cast-starts : goal.overflow_cast-starts
overflow_cast-starts c =
    omega (arith, entered_few _ _ _ _ c.loop-choice.invariant 1024 c.requires.rows_in, c.loop-choice-test.true, c.requires.choices_in)

pub overflow_cast-lengths : goal.overflow_cast-lengths
overflow_cast-lengths c =
    omega (arith, (wrote-short _ _ _ _ c.loop-choice.invariant c.add_entry-after.ensures).1, c.requires.rows_in)

pub loop-choice-preserved : goal.loop-choice-preserved
loop-choice-preserved c =
    entered_next _ _ _ _ c.loop-choice.invariant c.add_entry-after.ensures
