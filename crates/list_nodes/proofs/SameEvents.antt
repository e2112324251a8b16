-- Days that judge every plan from a start on alike have the same events there, seen by the same eyes.
use mathlib.Core.Path.{◌≡◌, sym, ap, ◌∙◌}
use mathlib.Core.Bool.{Bool, cond}
use mathlib.Core.List.{List, [], ◌∷◌, ◌++◌, map, append-nil}
use Prim.Native.Nat.{ℕ, zero, suc}
use lib.Seq.{append_snoc}
use Rattle.plan_check.specs.Day.{Day}
use Rattle.plan_check.specs.Feasible.{feasible}
use Rattle.list_nodes.specs.Placements.{places}
use Rattle.list_nodes.specs.steps.Walk.{if_feasible}
use Rattle.list_nodes.specs.steps.Alive.{Event, visit, plan, passing, Eyes, events}
use Rattle.list_nodes.proofs.EventLaws.{passing-same}

-- every plan that goes on from the start is judged alike by the two days
unfoldable pub Alike : Day → Day → List ℕ → Type 0
Alike one other start = (rest : List ℕ) → feasible one (start ++ rest) ≡ feasible other (start ++ rest)

-- plans judged alike from a start on are judged alike from the next start on
pub alike_next : (one other : Day) (start : List ℕ) (place : ℕ) → Alike one other start → Alike one other (start ++ (place ∷ []))
unfolding Alike
alike_next one other start place a rest =
    let same : (start ++ (place ∷ [])) ++ rest ≡ start ++ (place ∷ rest) = append_snoc start place rest in
    ap (feasible one) same ∙ a (place ∷ rest) ∙ sym (ap (feasible other) same)

module _ (one other : Day) {X : Type 0} (eyes : Eyes X) (slots : one.counts.slots ≡ other.counts.slots) where
  pub events-same : (n : ℕ) (start : List ℕ) (x : X) → Alike one other start → events one eyes n start x ≡ events other eyes n start x
  unfolding events if_feasible Alike
  events-same zero start x a =
      let h : feasible one start ≡ feasible other start = ap (feasible one) (sym (append-nil start)) ∙ a [] ∙ ap (feasible other) (append-nil start) in
      ap (λ (b : Bool). visit ∷ cond (eyes.worth start x) (map plan (cond b (start ∷ []) [])) []) h
  events-same (suc n) start x a =
      ap (λ (l : List Event). visit ∷ cond (eyes.worth start x) l [])
      (passing-same (λ place. events one eyes n (start ++ (place ∷ [])) (eyes.next start x place)) (λ place. events other eyes n (start ++ (place ∷ [])) (eyes.next start x place))
      (eyes.twin start x) (eyes.opens start x) (places one.counts.slots)
      (λ place o. events-same n (start ++ (place ∷ [])) (eyes.next start x place) (alike_next one other start place a))
      ∙ ap (λ (s : ℕ). passing (λ place. events other eyes n (start ++ (place ∷ [])) (eyes.next start x place)) (eyes.twin start x) (eyes.opens start x) (places s)) slots)
