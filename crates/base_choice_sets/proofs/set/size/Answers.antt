-- The law of `count_ones`.
use native.Mathlib.Omega.{arith}
use lib.Count.{ones-le}
use Rattle.base_choice_sets.proofs.SetLaws.{size_law}
use borrow.Author.Rules.{rules}
use Rattle.base_choice_sets.proofs.set.size.Goals as goal

pub overflow_cast-result : goal.overflow_cast-result
overflow_cast-result c = omega (arith, ones-le 64 c.args.set (search rules))

pub returns : goal.returns
returns c = size_law _ (search rules)
