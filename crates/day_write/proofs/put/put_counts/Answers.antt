-- Counts in their ranges fit a byte each, the row count two.
use native.Mathlib.Omega.{arith}
use Rattle.day_file.proofs.CountLaws.{in_range}
use Rattle.day_write.proofs.put.put_counts.Goals as goal

pub overflow_cast-pool : goal.overflow_cast-pool
overflow_cast-pool c =
    let r = in_range _ c.requires.ranges in omega arith

pub overflow_cast-pool-2 : goal.overflow_cast-pool-2
overflow_cast-pool-2 c =
    let r = in_range _ c.requires.ranges in omega arith

pub overflow_cast-pool-3 : goal.overflow_cast-pool-3
overflow_cast-pool-3 c =
    let r = in_range _ c.requires.ranges in omega arith

pub overflow_cast-pool-4 : goal.overflow_cast-pool-4
overflow_cast-pool-4 c =
    let r = in_range _ c.requires.ranges in omega arith

pub overflow_cast-counts : goal.overflow_cast-counts
overflow_cast-counts c =
    let r = in_range _ c.requires.ranges in omega arith
