-- A walk that ends without a plan has passed no good plan by.
use mathlib.Core.Path.{◌≡◌}
use mathlib.Core.Bool.{Bool, true, false}
use mathlib.Core.List.Memᴰ
use mathlib.Core.List.{List, [], ◌∷◌, Memᴰ}
use mathlib.Core.Logic.{◌⊎◌, inl, inr, ⊎_elim}
use Prim.Native.Nat.{ℕ}
use Rattle.search_rules.specs.Walk.{Sight, over, on, Out, hit, dry, cut, Turn, moves, closes, turn, opened, used, pass}
use Rattle.search_rules.proofs.WalkSteps.{pass-walk}
use Rattle.search_rules.proofs.Induction.{After, Kept, walk_ind}

-- plans of any type, and that a plan goes on from the places decided
module _ {Q : Type 0} (GoesOn : List ℕ → Q → Type 0) where
  -- the plan goes on with one of these candidates
  abbrev pub Next : List ℕ → List ℕ → Q → Type 0
  Next bucket places plan = (place : ℕ) × Memᴰ place bucket × GoesOn (place ∷ places) plan

  -- the plan goes on with a candidate left at this depth, or at a shallower one
  abbrev pub Ahead : List ℕ → List (List ℕ) → Q → Type 0
  Ahead places [] plan = ⊥
  Ahead [] (bucket ∷ candidates) plan = Next bucket [] plan
  Ahead (last ∷ places) (bucket ∷ candidates) plan = Next bucket (last ∷ places) plan ⊎ Ahead places candidates plan

  -- the plan goes on with a candidate left at a shallower depth
  abbrev pub Shallower : List ℕ → List (List ℕ) → Q → Type 0
  Shallower [] candidates plan = ⊥
  Shallower (last ∷ places) candidates plan = Ahead places candidates plan

  -- the walk from a state on can still meet the plan
  abbrev pub Meets : Bool → List ℕ → List (List ℕ) → Q → Type 0
  Meets true places candidates plan = GoesOn places plan ⊎ Shallower places candidates plan
  Meets false places candidates plan = Ahead places candidates plan

  -- a plan that goes on from this depth can still be met
  ahead-next : (bucket places : List ℕ) (candidates : List (List ℕ)) (plan : Q) → Next bucket places plan → Ahead places (bucket ∷ candidates) plan
  ahead-next bucket [] candidates plan h = h
  ahead-next bucket (last ∷ places) candidates plan h = inl h

  -- a plan that goes on from a shallower depth can still be met
  ahead_shallower : (bucket places : List ℕ) (candidates : List (List ℕ)) (plan : Q) → Shallower places candidates plan → Ahead places (bucket ∷ candidates) plan
  ahead_shallower bucket [] candidates plan h = absurd h
  ahead_shallower bucket (last ∷ places) candidates plan h = inr h

  -- a plan ahead goes on from this depth or from a shallower one
  ahead_cases : (bucket places : List ℕ) (candidates : List (List ℕ)) (plan : Q) → Ahead places (bucket ∷ candidates) plan → Next bucket places plan ⊎ Shallower places candidates plan
  ahead_cases bucket [] candidates plan h = inl h
  ahead_cases bucket (last ∷ places) candidates plan h = h

  -- the first candidate of a depth taken: the plan goes on with it, or is left for later
  ahead-taken : (place : ℕ) (rest places : List ℕ) (candidates : List (List ℕ)) (plan : Q) → Ahead places ((place ∷ rest) ∷ candidates) plan → Meets true (place ∷ places) (rest ∷ candidates) plan
  ahead-taken place rest places candidates plan h =
      ⊎_elim
      (λ n. ⊎_elim (λ e. inl (rw e at n.2)) (λ m. inr (ahead-next rest places candidates plan (n.0, m, n.2))) (Memᴰ.cases_cons n.1))
      (λ s. inr (ahead_shallower rest places candidates plan s))
      (ahead_cases (place ∷ rest) places candidates plan h)

  -- after a turn the walk can still meet the plan, and the turn isn't the closing one
  abbrev MeetsAfter : Turn → Q → Type 0
  MeetsAfter (moves new places candidates drawn) plan = Meets new places candidates plan
  MeetsAfter (closes drawn) plan = ⊥

  -- no turn passes the plan by: a step back finds it at a shallower depth, a step down takes its candidate or
  -- leaves it for later
  ahead-turn : (places : List ℕ) (made : List (List ℕ)) (drawn : ℕ) (plan : Q) → Ahead places made plan → MeetsAfter (turn places made drawn) plan
  unfolding turn
  ahead-turn places [] drawn plan h = h
  ahead-turn [] ([] ∷ shallower) drawn plan h = Memᴰ.not-nil h.1
  ahead-turn (last ∷ places) ([] ∷ shallower) drawn plan h = ⊎_elim (λ n. absurd (Memᴰ.not-nil n.1)) (λ s. s) h
  ahead-turn places ((place ∷ rest) ∷ shallower) drawn plan h = ahead-taken place rest places shallower plan h

-- no good plan goes on from no place decided
abbrev pub NoneGood : {Q : Type 0} → (Q → Type 0) → (List ℕ → Q → Type 0) → Type 0
NoneGood Good GoesOn = (plan : _) → Good plan → GoesOn [] plan → ⊥

-- what is asked of the end of a walk: without a plan, no good plan goes on from no place decided
abbrev DryNone : Type 0 → Out → Type 0
DryNone None (hit left places drawn) = Unit {0}
DryNone None (dry left drawn) = None
DryNone None (cut drawn) = Unit {0}

module _ (sight : List ℕ → Sight) (bucket : List ℕ → ℕ → List ℕ) (draws : List ℕ → ℕ → ℕ)
    {Q : Type 0} (Good : Q → Type 0) (GoesOn : List ℕ → Q → Type 0)
    (grow : (places : List ℕ) (drawn : ℕ) → sight places ≡ on → (plan : Q) → Good plan → GoesOn places plan → Next GoesOn (bucket places drawn) places plan)
    (lone : (places : List ℕ) → sight places ≡ over → (plan : Q) → Good plan → GoesOn [] plan → ⊥) where
  -- every good plan is still met from a state on
  abbrev AllMet : ℕ → Bool → List ℕ → List (List ℕ) → ℕ → Type 0
  AllMet left new places candidates drawn = (plan : Q) → Good plan → GoesOn [] plan → Meets GoesOn new places candidates plan

  -- once the candidates of a new depth are made a plan goes on with one of them
  met-opened : (new : Bool) (places : List ℕ) (candidates : List (List ℕ)) (drawn : ℕ) → sight places ≡ on → (plan : Q) → Good plan
      → Meets GoesOn new places candidates plan → Ahead GoesOn places (opened bucket new places candidates drawn) plan
  unfolding opened
  met-opened true places candidates drawn e plan good m =
      ⊎_elim (λ g. ahead-next GoesOn (bucket places drawn) places candidates plan (grow places drawn e plan good g))
      (λ s. ahead_shallower GoesOn (bucket places drawn) places candidates plan s) m
  met-opened false places candidates drawn e plan good m = m

  -- after a turn every good plan is still met
  all_after : (left : ℕ) (done : Turn) → ((plan : Q) → Good plan → GoesOn [] plan → MeetsAfter GoesOn done plan) → After AllMet (DryNone (NoneGood Good GoesOn)) left done
  all_after left (moves new places candidates drawn) h = h
  all_after left (closes drawn) h = h

  -- each turn keeps every good plan ahead
  met-kept : Kept sight bucket draws AllMet (DryNone (NoneGood Good GoesOn))
  met-kept =
      record {
        at-goal = λ left new places candidates drawn f e. tt;
        at-over = λ left new places candidates drawn f e. lone places e;
        at_cut = λ new places candidates drawn f e. tt;
        at_turn = λ left new places candidates drawn f e.
            let made = opened bucket new places candidates drawn in
            all_after left (turn places made (used draws new places drawn))
            (λ plan good begins. ahead-turn GoesOn places made (used draws new places drawn) plan (met-opened new places candidates drawn e plan good (f plan good begins)));
      }

  -- a pass that ends without a plan: there is no good one
  pub dry-none : (budget drawn left drawn' : ℕ) → pass sight bucket draws budget drawn ≡ dry left drawn' → NoneGood Good GoesOn
  dry-none budget drawn left drawn' e =
      let h : DryNone (NoneGood Good GoesOn) (pass sight bucket draws budget drawn) =
      rw (pass-walk sight bucket draws budget drawn) (walk_ind sight bucket draws AllMet (DryNone (NoneGood Good GoesOn)) met-kept budget true [] [] drawn (λ plan good begins. inl begins)) in
      rw e at h
