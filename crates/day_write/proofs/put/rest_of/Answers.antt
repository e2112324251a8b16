-- Counts in their ranges keep every sum far below 2^64.
use native.Mathlib.Omega.{arith}
use Rattle.day_file.proofs.CountLaws.{in_range}
use Rattle.day_write.proofs.put.rest_of.Goals as goal

pub overflow_mul-preferences : goal.overflow_mul-preferences
overflow_mul-preferences c =
    let r = in_range _ c.requires in omega arith

pub overflow_mul-result : goal.overflow_mul-result
overflow_mul-result c =
    let r = in_range _ c.requires in omega arith

pub overflow_add-result : goal.overflow_add-result
overflow_add-result c =
    let r = in_range _ c.requires in omega arith

pub overflow_mul-result-2 : goal.overflow_mul-result-2
overflow_mul-result-2 c =
    let r = in_range _ c.requires in omega arith

pub overflow_add-result-2 : goal.overflow_add-result-2
overflow_add-result-2 c =
    let r = in_range _ c.requires in omega arith

pub overflow_mul-result-3 : goal.overflow_mul-result-3
overflow_mul-result-3 c =
    let r = in_range _ c.requires in omega arith

pub overflow_add-result-3 : goal.overflow_add-result-3
overflow_add-result-3 c =
    let r = in_range _ c.requires in omega arith

pub overflow_mul-result-4 : goal.overflow_mul-result-4
overflow_mul-result-4 c =
    let r = in_range _ c.requires in omega arith

pub overflow_add-result-4 : goal.overflow_add-result-4
overflow_add-result-4 c =
    let r = in_range _ c.requires in omega arith
