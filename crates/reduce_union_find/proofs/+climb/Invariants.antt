-- The climb: 64 minus the steps climbed falls, since a climb that ends has a step left wherever there is a
-- parent.
use Prim.Native.Nat.{◌-◌}
use Rattle.reduce_union_find.proofs.+climb.Given as goal

abbrev pub decreases-climb : goal.decreases-climb
decreases-climb l = 64 - l.steps
