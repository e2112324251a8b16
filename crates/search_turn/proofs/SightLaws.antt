-- What stands at a depth, for each way through the code, and against the rule.
use mathlib.Core.Path.{◌≡◌, sym}
use mathlib.Core.Bool.{Bool, true, false, cond}
use mathlib.Core.List.{List}
use Prim.Native.Nat.{ℕ, ◌≤◌, ◌<◌}
use borrow.Author.Tests.{lt-ltb, le-ltb}
use lib.Dec.{eqb}
use lib.ListN.{take}
use Rattle.plan_check.specs.Day.{Day}
use Rattle.plan_check.specs.Feasible.{is_feasible}
use Rattle.search_rules.specs.Walk.{Sight, goal, over, on}
use Rattle.search_rules.specs.Pass.{sight_full, sight_as_the_rust}
use Rattle.search_turn.specs.steps.Seen.{sight_from}

module _ (full : Bool) (day : Day) (decisions : List ℕ) (depth : ℕ) where
  -- above depth C the pass goes on
  pub sight_above : depth < day.counts.choices → on ≡ sight_from full day decisions depth
  unfolding sight_from
  sight_above h = rw (lt-ltb _ _ h)

  module _ (passes : Bool) (seen : Sight) (plan : List ℕ) (h : day.counts.choices ≤ depth) (q : plan ≡ take day.counts.choices decisions) (p : passes ≡ is_feasible day plan) where
    pub sight_of_full : full ≡ true → seen ≡ cond passes goal (cond (eqb day.counts.choices 0) over on) → seen ≡ sight_from full day decisions depth
    unfolding sight_from sight_full
    sight_of_full t e = rw (t, le-ltb _ _ h, sym q, sym p) e

    pub sight_of_the_rust : full ≡ false → seen ≡ cond (eqb day.counts.slots 0) over (cond passes goal over) → seen ≡ sight_from full day decisions depth
    unfolding sight_from sight_as_the_rust
    sight_of_the_rust t e = rw (t, le-ltb _ _ h, sym q, sym p) e
