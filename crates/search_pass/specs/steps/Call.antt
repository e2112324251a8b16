-- A pass as its worker runs it: what it takes, what it answers, and the plan.
use Rattle.std.specs.Prelude.{Bool, ◌&&◌, cond, List, ℕ}
use Rattle.plan_check.specs.Feasible.{shapes_fit}
use Rattle.search_rules.specs.Walk.{Out, hit, dry, cut}
use Rattle.search_order.specs.Order.{is_permutation}
use Rattle.search_rules.specs.Pass.{Lent, plan_of, pass_of}
use Rattle.search_pass.specs.declared.pass.Passed.{Passed}
use Rattle.search_pass.specs.declared.pass.Passed.TheVariants as passed

-- how a pass ended, with the turns left and the place of the next draw: with a plan, without one, or for want
-- of a turn
pub data Ended : Type 0 where
  found : (left draw : ℕ) → Ended
  without : (left draw : ℕ) → Ended
  wanting : (draw : ℕ) → Ended

-- what the code's answer tells
abbrev pub passed_tells : Passed → Ended
passed_tells (passed.Found left draw) = found left draw
passed_tells (passed.Without left draw) = without left draw
passed_tells (passed.Wanting draw) = wanting draw

-- what a pass leaves: how it ended, and the plan at exit
pub record Leaves : Type 0 where
  pub ended : Ended
  pub plan : List ℕ

abbrev pub leaves : Ended → List ℕ → Leaves
leaves ended plan = record { ended = ended; plan = plan }

-- what a pass leaves by its end: only a plan that is found is written
abbrev pub left_by : Lent → List ℕ → Out → Leaves
left_by lent plan (hit left places draw) = leaves (found left draw) (plan_of lent places)
left_by lent plan (dry left draw) = leaves (without left draw) plan
left_by lent plan (cut draw) = leaves (wanting draw) plan

-- what a pass takes: a day's shape, and an order that is a permutation of the choices
unfoldable pub pass_fits : Lent → List ℕ → Bool
pass_fits lent plan = shapes_fit lent.day plan && is_permutation lent.day.counts.choices lent.order

-- what a pass leaves on any input: what isn't taken has no plan
unfoldable pub pass_leaves : Lent → ℕ → ℕ → List ℕ → Leaves
pass_leaves lent budget draw plan =
    cond (pass_fits lent plan) (left_by lent plan (pass_of lent budget draw)) (leaves (without budget draw) plan)
