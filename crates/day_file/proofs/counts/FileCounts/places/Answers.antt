-- Counts in their ranges keep every sum far below 2^64.
use native.Mathlib.Omega.{arith}
use Rattle.day_file.proofs.CountLaws.{in_range}
use Rattle.day_file.proofs.counts.FileCounts.places.Goals as goal

pub overflow_mul-levels : goal.overflow_mul-levels
overflow_mul-levels c =
    let r = in_range _ c.requires in omega arith

pub overflow_add-levels : goal.overflow_add-levels
overflow_add-levels c =
    let r = in_range _ c.requires in omega arith

pub overflow_mul-preferences : goal.overflow_mul-preferences
overflow_mul-preferences c =
    let r = in_range _ c.requires in omega arith

pub overflow_add-preferences : goal.overflow_add-preferences
overflow_add-preferences c =
    let r = in_range _ c.requires in omega arith

pub overflow_mul-rows : goal.overflow_mul-rows
overflow_mul-rows c =
    let r = in_range _ c.requires in omega arith

pub overflow_mul-rows-2 : goal.overflow_mul-rows-2
overflow_mul-rows-2 c =
    let r = in_range _ c.requires in omega arith

pub overflow_add-rows : goal.overflow_add-rows
overflow_add-rows c =
    let r = in_range _ c.requires in omega arith

pub overflow_mul-result : goal.overflow_mul-result
overflow_mul-result c =
    let r = in_range _ c.requires in omega arith

pub overflow_add-result : goal.overflow_add-result
overflow_add-result c =
    let r = in_range _ c.requires in omega arith
