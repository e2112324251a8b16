-- The starts of a day's plans, walked in dictionary order by any eyes: what the walk carries along tells
-- which starts are worth going on from.
use Rattle.std.specs.Prelude.{◌≡◌, Bool, true, false, ◌&&◌, not, cond, List, [], ◌∷◌, ◌++◌, map, ℕ, zero, suc, ◌<◌, length}
use Rattle.plan_check.specs.Day.{Day}
use Rattle.plan_check.specs.Feasible.{feasible}
use Rattle.list_nodes.specs.Placements.{places, is_node}
use Rattle.list_nodes.specs.steps.Walk.{if_feasible}

-- what happens on a walk: a start is visited, or a plan is met
pub data Event : Type 0 where
  visit : Event
  plan : List ℕ → Event

-- the plans met among these events, in order
unfoldable pub plans_in : List Event → List (List ℕ)
plans_in [] = []
plans_in (visit ∷ es) = plans_in es
plans_in (plan p ∷ es) = p ∷ plans_in es

-- how many starts are visited among these events
unfoldable pub visits_in : List Event → ℕ
visits_in [] = 0
visits_in (visit ∷ es) = suc (visits_in es)
visits_in (plan p ∷ es) = visits_in es

-- no plan is in a list of plans
unfoldable pub is_none : List (List ℕ) → Bool
is_none [] = true
is_none (p ∷ plans) = false

-- what happens at each of these places that is open; once one has met no plan, its twins among the later ones
-- are passed over
unfoldable pub passing : (ℕ → List Event) → (ℕ → ℕ → Bool) → (ℕ → Bool) → List ℕ → List Event
passing at twin opens [] = []
passing at twin opens (place ∷ rest) =
    cond (opens place)
    (at place
    ++ passing at twin (λ later. opens later && not (is_none (plans_in (at place)) && twin place later)) rest)
    (passing at twin opens rest)

-- the eyes of a walk that carries an X: whether a start is worth going on from, whether its next choice may
-- take a place, what is carried there, and whether a later place may be passed over once a first one has met
-- no plan
pub record Eyes (X : Type 0) : Type 0 where
  pub worth : List ℕ → X → Bool
  pub opens : List ℕ → X → ℕ → Bool
  pub next : List ℕ → X → ℕ → X
  pub twin : List ℕ → X → ℕ → ℕ → Bool

module _ (day : Day) {X : Type 0} (eyes : Eyes X) where
  -- the walk from a start on with so many choices left; the plan check judges every full start
  unfoldable pub events : ℕ → List ℕ → X → List Event
  events zero start x = visit ∷ cond (eyes.worth start x) (map plan (if_feasible day start)) []
  events (suc n) start x =
      visit
      ∷ cond (eyes.worth start x)
      (passing (λ place. events n (start ++ (place ∷ [])) (eyes.next start x place))
      (eyes.twin start x) (eyes.opens start x) (places day.counts.slots))
      []

  -- eyes are safe if something that holds of what is carried keeps every feasible plan in sight, and every
  -- start that is visited is a node of request 03
  pub record Safe (Holds : List ℕ → X → Type 0) : Type 0 where
    pub node : (start : List ℕ) (x : X) → Holds start x → is_node day start ≡ true
    pub worth : (start rest : List ℕ) (x : X) → Holds start x
        → length (start ++ rest) ≡ day.counts.choices → feasible day (start ++ rest) ≡ true
        → eyes.worth start x ≡ true
    pub opens : (start rest : List ℕ) (place : ℕ) (x : X) → Holds start x
        → length ((start ++ (place ∷ [])) ++ rest) ≡ day.counts.choices
        → feasible day ((start ++ (place ∷ [])) ++ rest) ≡ true
        → eyes.opens start x place ≡ true
    pub next : (start : List ℕ) (place : ℕ) (x : X) → Holds start x
        → length start < day.counts.choices → eyes.opens start x place ≡ true
        → Holds (start ++ (place ∷ [])) (eyes.next start x place)
    pub twin : (start : List ℕ) (place later : ℕ) (x : X) → Holds start x
        → length start < day.counts.choices
        → eyes.opens start x place ≡ true → eyes.opens start x later ≡ true
        → eyes.twin start x place later ≡ true
        → ((rest : List ℕ) → length ((start ++ (place ∷ [])) ++ rest) ≡ day.counts.choices
        → feasible day ((start ++ (place ∷ [])) ++ rest) ≡ false)
        → (rest : List ℕ) → length ((start ++ (later ∷ [])) ++ rest) ≡ day.counts.choices
        → feasible day ((start ++ (later ∷ [])) ++ rest) ≡ false
