-- No two outcomes fit what `sight_at`, `write_plan` and `shapes_fit` promise.
use mathlib.Core.Path.{◌≡◌, refl, sym, ap, ◌∙◌}
use mathlib.Core.Bool.{Bool}
use mathlib.Core.List.{List}
use Prim.Native.Nat.{ℕ}
use Rattle.base_lists.proofs.Outcome.{no_two}
use Rattle.plan_check.specs.Day.{Day}
use Rattle.plan_check.specs.Feasible.{shapes_fit}
use Rattle.search_rules.specs.Walk.{Sight, goal, over, on}
use Rattle.search_turn.specs.steps.Seen.{sight_tells, sight_from, plan_left}
use Rattle.search_turn.specs.declared.sight.Sight.{Sight as Seen}
use Rattle.search_turn.specs.declared.sight.Sight.TheVariants as seen

-- what stands at the places decided, read back from what it tells
abbrev seen_back : Sight → Seen
seen_back goal = seen.Goal
seen_back over = seen.Over
seen_back on = seen.On

seen_back_lem : (answer : Seen) → seen_back (sight_tells answer) ≡ answer
seen_back_lem seen.Goal = refl
seen_back_lem seen.Over = refl
seen_back_lem seen.On = refl

pub one_sight : (full : Bool) (day : Day) (decisions : List ℕ) (depth : ℕ) {a b : Seen} → sight_tells a ≡ sight_from full day decisions depth → sight_tells b ≡ sight_from full day decisions depth → a ≡ b
one_sight full day decisions depth {a} {b} p q = sym (seen_back_lem a) ∙ ap seen_back (no_two p q) ∙ seen_back_lem b

pub one-shape : (day : Day) (plan : List ℕ) {a b : Bool} → a ≡ shapes_fit day plan → b ≡ shapes_fit day plan → a ≡ b
one-shape day plan = no_two

pub one-plan : (decisions plan : List ℕ) {a b : List ℕ} → a ≡ plan_left decisions plan → b ≡ plan_left decisions plan → a ≡ b
one-plan decisions plan = no_two
