-- Safe eyes visit no more starts than request 03 has nodes: where those are within a budget, turns never run
-- out.
use mathlib.Core.Path.{◌≡◌, sym, ap}
use mathlib.Core.Bool.{Bool, true, false, cond}
use mathlib.Core.List.{List, [], ◌∷◌, ◌++◌, map}
use Prim.Native.Nat.{ℕ, zero, suc, ◌+◌, ◌≤◌}
use native.Mathlib.Omega.{arith}
use lib.ListN.{length}
use Rattle.base_lists.specs.Keep.{keep, sum_over}
use Rattle.base_lists.proofs.SumBelow.{sum_ext}
use Rattle.plan_check.specs.Day.{Day}
use Rattle.plan_check.specs.Feasible.{feasible}
use Rattle.list_nodes.specs.Placements.{places, placements, is_node, nodes}
use Rattle.list_nodes.specs.steps.Walk.{if_feasible}
use Rattle.list_nodes.proofs.WholeLaws.{nodes_of, nodes_up_to, nodes-last, nodes-more, map_same}
use Rattle.list_nodes.specs.steps.Alive.{Event, plan, plans_in, visits_in, passing, Eyes, events, Safe}
use Rattle.list_nodes.proofs.EventLaws.{passing-visits, passing_costs, visits-told}
use Rattle.list_nodes.proofs.AnyEyes.{next-length}

module _ (day : Day) {X : Type 0} (eyes : Eyes X) where
  -- what happens at a place
  abbrev there : ℕ → List ℕ → X → ℕ → List Event
  there n start x place = events day eyes n (start ++ (place ∷ [])) (eyes.next start x place)

  -- what happens at all the places that are open, but for twins
  abbrev all : ℕ → List ℕ → X → List Event
  all n start x = passing (there n start x) (eyes.twin start x) (eyes.opens start x) (places day.counts.slots)

  module _ {Holds : List ℕ → X → Type 0} (safe : Safe day eyes Holds) where
    -- from any start on no more starts are visited than there are nodes
    pub visits-within : (n : ℕ) (start : List ℕ) (x : X) → Holds start x → length start + n ≡ day.counts.choices
        → visits_in (events day eyes n start x) ≤ nodes_up_to day start n
    unfolding visits_in events
    visits-within zero start x h e = rw (nodes-last day start (safe.node start x h)) (go (eyes.worth start x))
      where
        go : (b : Bool) → suc (visits_in (cond b (map plan (if_feasible day start)) [])) ≤ 1
        go true = rw (visits-told (if_feasible day start)) (omega arith)
        go false = omega arith
    visits-within (suc n) start x h e =
        rw (nodes-more day start n (safe.node start x h))
        (go (eyes.worth start x) λ place o.
        visits-within n (start ++ (place ∷ [])) (eyes.next start x place) (safe.next start place x h (omega arith) o) (next-length start place n day.counts.choices e))
      where
        go : (b : Bool) → ((place : ℕ) → eyes.opens start x place ≡ true → visits_in (there n start x place) ≤ nodes_up_to day (start ++ (place ∷ [])) n)
            → suc (visits_in (cond b (all n start x) [])) ≤ suc (sum_over (λ place. nodes_up_to day (start ++ (place ∷ [])) n) (places day.counts.slots))
        go true ih =
            omega (
              arith,
              passing-visits (there n start x) (eyes.twin start x) (λ place. nodes_up_to day (start ++ (place ∷ [])) n) (eyes.opens start x) (places day.counts.slots) ih,
            )
        go false ih = omega arith

    -- from the empty start on no more starts are visited than the day has nodes
    pub visits-few : (x : X) → Holds [] x → visits_in (events day eyes day.counts.choices [] x) ≤ nodes day
    unfolding nodes nodes_up_to nodes_of
    visits-few x h =
        rw
        (sym
        (sum_ext (suc day.counts.choices) (nodes_of day []) (λ n. length (keep (is_node day) (placements day.counts.slots n))) λ n l.
        ap (λ (l : List (List ℕ)). length (keep (is_node day) l)) (map_same (placements day.counts.slots n))))
        (visits-within day.counts.choices [] x h (omega arith))

  -- each plan has its own visit
  pub plans-cost-turns : (n : ℕ) (start : List ℕ) (x : X) → length (plans_in (events day eyes n start x)) ≤ visits_in (events day eyes n start x)
  unfolding plans_in visits_in events if_feasible
  plans-cost-turns zero start x = go (eyes.worth start x) (feasible day start)
    where
      go : (b p : Bool) → length (plans_in (cond b (map plan (cond p (start ∷ []) [])) [])) ≤ suc (visits_in (cond b (map plan (cond p (start ∷ []) [])) []))
      go true true = omega arith
      go true false = omega arith
      go false p = omega arith
  plans-cost-turns (suc n) start x = go (eyes.worth start x) λ place. plans-cost-turns n (start ++ (place ∷ [])) (eyes.next start x place)
    where
      go : (b : Bool) → ((place : ℕ) → length (plans_in (there n start x place)) ≤ visits_in (there n start x place))
          → length (plans_in (cond b (all n start x) [])) ≤ suc (visits_in (cond b (all n start x) []))
      go true ih = omega (arith, passing_costs (there n start x) (eyes.twin start x) (eyes.opens start x) (places day.counts.slots) ih)
      go false ih = omega arith
