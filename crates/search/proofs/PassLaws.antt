-- A pass that finds a plan finds one that passes the check, and a plan found as the Rust is found in full.
use mathlib.Core.Path.{◌≡◌, refl, ap}
use mathlib.Core.Bool.{Bool, true, false, cond, false≢true}
use mathlib.Core.List.{List}
use Prim.Native.Nat.{ℕ}
use lib.Dec.{eqb, ltb}
use lib.ListN.{length}
use Rattle.plan_check.specs.Day.{Day}
use Rattle.plan_check.specs.Feasible.{feasible}
use Rattle.search_map.specs.Map.{Map}
use Rattle.search_rules.specs.Walk.{Sight, goal, over, on, hit}
use Rattle.search_rules.proofs.Sound as sound
use Rattle.search_rules.proofs.TwoSights as two
use Rattle.search_rules.specs.Pass.{Lent, lent_of, choice_at, remaining_at, depth_at, asked_at, candidates_at, draw_after, plan_of, sight_full, sight_as_the_rust, sight_at, pass_of}

-- whether a plan stands there, and whether the pass goes on
abbrev is_goal : Sight → Bool
is_goal goal = true
is_goal over = false
is_goal on = false

abbrev is_on : Sight → Bool
is_on goal = false
is_on over = false
is_on on = true

-- 'At depth C the plan check decides', full or not
pub goal-feasible : (lent : Lent) (places : List ℕ) → sight_at lent places ≡ goal → feasible lent.day (plan_of lent places) ≡ true
unfolding sight_at sight_full sight_as_the_rust
goal-feasible lent places e =
    go (ltb (length places) lent.day.counts.choices) (feasible lent.day (plan_of lent places)) lent.full (eqb lent.day.counts.choices 0) (eqb lent.day.counts.slots 0) (ap is_goal e)
  where
    go : (above passes full none nowhere : Bool) → is_goal (cond above on (cond full (cond passes goal (cond none over on)) (cond nowhere over (cond passes goal over)))) ≡ true → passes ≡ true
    go true passes full none nowhere h = absurd (false≢true h)
    go false true full none nowhere h = refl
    go false false true true nowhere h = h
    go false false true false nowhere h = h
    go false false false none true h = h
    go false false false none false h = h

-- the plan of a pass passes the check
pub hit-feasible : (lent : Lent) (turns draw left : ℕ) (places : List ℕ) (draw' : ℕ) → pass_of lent turns draw ≡ hit left places draw' → feasible lent.day (plan_of lent places) ≡ true
unfolding pass_of
hit-feasible lent turns draw left places draw' e =
    goal-feasible lent places (sound.hit-goal (sight_at lent) (candidates_at lent) (draw_after lent) turns draw left places draw' e)

-- ---- as the Rust, and full

module _ (day : Day) (map : Map) (whole order sets draws : List ℕ) where
  abbrev rusty : Lent
  rusty = lent_of false day map whole order sets draws

  abbrev thorough : Lent
  thorough = lent_of true day map whole order sets draws

  -- a plan for the one is a plan for the other
  goals : (places : List ℕ) → sight_at rusty places ≡ goal → sight_at thorough places ≡ goal
  unfolding sight_at sight_full sight_as_the_rust plan_of
  goals places e =
      go (ltb (length places) day.counts.choices) (feasible day (plan_of rusty places)) (eqb day.counts.choices 0) (eqb day.counts.slots 0) (ap is_goal e)
    where
      go : (above passes none nowhere : Bool) → is_goal (cond above on (cond nowhere over (cond passes goal over))) ≡ true → cond above on (cond passes goal (cond none over on)) ≡ goal
      go true passes none nowhere h = absurd (false≢true h)
      go false passes none true h = absurd (false≢true h)
      go false true none false h = refl
      go false false none false h = absurd (false≢true h)

  -- where the one goes on, so does the other
  ons : (places : List ℕ) → sight_at rusty places ≡ on → sight_at thorough places ≡ on
  unfolding sight_at sight_full sight_as_the_rust plan_of
  ons places e =
      go (ltb (length places) day.counts.choices) (feasible day (plan_of rusty places)) (eqb day.counts.choices 0) (eqb day.counts.slots 0) (ap is_on e)
    where
      go : (above passes none nowhere : Bool) → is_on (cond above on (cond nowhere over (cond passes goal over))) ≡ true → cond above on (cond passes goal (cond none over on)) ≡ on
      go true passes none nowhere h = refl
      go false passes none true h = absurd (false≢true h)
      go false true none false h = absurd (false≢true h)
      go false false none false h = absurd (false≢true h)

  same_bucket : (places : List ℕ) (draw : ℕ) → candidates_at rusty places draw ≡ candidates_at thorough places draw
  unfolding candidates_at asked_at depth_at choice_at remaining_at
  same_bucket places draw = refl

  -- a plan that a pass finds as the Rust is found in full, with the same turns and draws
  pub same-plan : (turns draw left : ℕ) (places : List ℕ) (draw' : ℕ) → pass_of rusty turns draw ≡ hit left places draw' → pass_of thorough turns draw ≡ hit left places draw'
  unfolding pass_of candidates_at asked_at depth_at choice_at remaining_at draw_after
  same-plan turns draw left places draw' e =
      two.same-plan (sight_at rusty) (sight_at thorough) (candidates_at rusty) (draw_after rusty) goals ons turns draw left places draw' e
