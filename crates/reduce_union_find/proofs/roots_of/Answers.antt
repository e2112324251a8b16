use native.Mathlib.Omega.{arith}
use Rattle.reduce_union_find.proofs.Root.{climb_in}
use Rattle.reduce_union_find.proofs.roots_of.Goals as goal

pub overflow_cast-roots : goal.overflow_cast-roots
overflow_cast-roots c =
    let h = c.requires in
    omega (arith, c.climb.ensures, climb_in 64 _ _ (h.ends _ c.loop-i-test.true))
