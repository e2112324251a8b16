-- A walk that ends with a plan ends at a goal; it leaves no more turns than it had, and uses at most one draw
-- a turn.
use mathlib.Core.Path.{◌≡◌, sym, ◌∙◌}
use mathlib.Core.Bool.{Bool, true, false}
use mathlib.Core.List.{List, [], ◌∷◌}
use Prim.Native.Nat.{ℕ, suc, ◌+◌, ◌≤◌}
use native.Mathlib.Omega.{arith}
use Rattle.search_rules.specs.Walk.{Sight, goal, Out, hit, dry, cut, Turn, moves, closes, turn, opened, used, walk, pass, turns_left, draws_used}
use Rattle.search_rules.proofs.WalkSteps.{turn_from, pass-walk}
use Rattle.search_rules.proofs.Induction.{After, Kept, walk_ind}

-- if there is a plan, its places have the property
abbrev pub Found : (List ℕ → Type 0) → Out → Type 0
Found P (hit left places drawn) = P places
Found P (dry left drawn) = Unit {0}
Found P (cut drawn) = Unit {0}

-- the draws used once the candidates are made
used-once : (draws : List ℕ → ℕ → ℕ) → ((places : List ℕ) (drawn : ℕ) → draws places drawn ≤ drawn + 1) → (new : Bool) (places : List ℕ) (drawn : ℕ) → used draws new places drawn ≤ drawn + 1
unfolding used
used-once draws once true places drawn = once places drawn
used-once draws once false places drawn = omega arith

module _ (sight : List ℕ → Sight) (bucket : List ℕ → ℕ → List ℕ) (draws : List ℕ → ℕ → ℕ) where
  -- nothing to keep: a plan is given at a goal only
  sound-after : (left : ℕ) (done : Turn) → After (λ left new places candidates drawn. Unit {0}) (Found λ places. sight places ≡ goal) left done
  sound-after left (moves new places candidates drawn) = tt
  sound-after left (closes drawn) = tt

  -- what each turn keeps of a plan found: nothing is asked
  sound-kept : Kept sight bucket draws (λ left new places candidates drawn. Unit {0}) (Found λ places. sight places ≡ goal)
  sound-kept =
      record {
        at-goal = λ left new places candidates drawn f e. e;
        at-over = λ left new places candidates drawn f e. tt;
        at_cut = λ new places candidates drawn f e. tt;
        at_turn = λ left new places candidates drawn f e. sound-after left (turn_from bucket draws new places candidates drawn);
      }

  -- the places of a plan found are at a goal, from any state on
  pub walk-hit-goal : (left : ℕ) (new : Bool) (places : List ℕ) (candidates : List (List ℕ)) (drawn : ℕ) (left' : ℕ) (places' : List ℕ) (drawn' : ℕ)
      → walk sight bucket draws left new places candidates drawn ≡ hit left' places' drawn' → sight places' ≡ goal
  walk-hit-goal left new places candidates drawn left' places' drawn' e =
      rw e at (walk_ind sight bucket draws (λ left new places candidates drawn. Unit {0}) (Found λ places. sight places ≡ goal) sound-kept left new places candidates drawn tt)

  -- the plan of a pass is at a goal
  pub hit-goal : (budget drawn left : ℕ) (places : List ℕ) (drawn' : ℕ) → pass sight bucket draws budget drawn ≡ hit left places drawn' → sight places ≡ goal
  hit-goal budget drawn left places drawn' e = walk-hit-goal budget true [] [] drawn left places drawn' (sym (pass-walk sight bucket draws budget drawn) ∙ e)

  -- after a turn no more turns are left than there were
  turns-after : (budget left : ℕ) (done : Turn) → suc left ≤ budget → After (λ left new places candidates drawn. left ≤ budget) (λ out. turns_left out ≤ budget) left done
  unfolding turns_left
  turns-after budget left (moves new places candidates drawn) h = omega arith
  turns-after budget left (closes drawn) h = omega arith

  -- what each turn keeps: the turns left fall
  turns-kept : (budget : ℕ) → Kept sight bucket draws (λ left new places candidates drawn. left ≤ budget) (λ out. turns_left out ≤ budget)
  unfolding turns_left
  turns-kept budget =
      record {
        at-goal = λ left new places candidates drawn f e. f;
        at-over = λ left new places candidates drawn f e. f;
        at_cut = λ new places candidates drawn f e. f;
        at_turn = λ left new places candidates drawn f e. turns-after budget left (turn_from bucket draws new places candidates drawn) f;
      }

  -- a walk leaves no more turns than it had
  pub walk-turns-left : (left : ℕ) (new : Bool) (places : List ℕ) (candidates : List (List ℕ)) (drawn : ℕ) → turns_left (walk sight bucket draws left new places candidates drawn) ≤ left
  walk-turns-left left new places candidates drawn =
      walk_ind sight bucket draws (λ now new places candidates drawn. now ≤ left) (λ out. turns_left out ≤ left) (turns-kept left) left new places candidates drawn (omega arith)

  -- a pass leaves no more turns than its budget
  pub turns-left : (budget drawn : ℕ) → turns_left (pass sight bucket draws budget drawn) ≤ budget
  turns-left budget drawn = rw (pass-walk sight bucket draws budget drawn) (walk-turns-left budget true [] [] drawn)

  module _ (once : (places : List ℕ) (drawn : ℕ) → draws places drawn ≤ drawn + 1) where
    -- after a turn there is a turn for each draw
    draws-turn : (sum left : ℕ) (places : List ℕ) (made : List (List ℕ)) (drawn : ℕ) → left + drawn ≤ sum
        → After (λ left new places candidates drawn. left + drawn ≤ sum) (λ out. turns_left out + draws_used out ≤ sum) left (turn places made drawn)
    unfolding turn turns_left draws_used
    draws-turn sum left places [] drawn h = h
    draws-turn sum left [] ([] ∷ shallower) drawn h = h
    draws-turn sum left (last ∷ places) ([] ∷ shallower) drawn h = h
    draws-turn sum left places ((place ∷ rest) ∷ shallower) drawn h = h

    -- what each turn keeps: a turn for each draw
    draws-kept : (sum : ℕ) → Kept sight bucket draws (λ left new places candidates drawn. left + drawn ≤ sum) (λ out. turns_left out + draws_used out ≤ sum)
    unfolding turns_left draws_used
    draws-kept sum =
        record {
          at-goal = λ left new places candidates drawn f e. f;
          at-over = λ left new places candidates drawn f e. f;
          at_cut = λ new places candidates drawn f e. f;
          at_turn = λ left new places candidates drawn f e.
              draws-turn sum left places (opened bucket new places candidates drawn) (used draws new places drawn) (omega (arith, used-once draws once new places drawn));
        }

    -- where a bucket uses at most one draw, a walk uses no more draws than turns
    pub walk-draws-used : (left : ℕ) (new : Bool) (places : List ℕ) (candidates : List (List ℕ)) (drawn : ℕ)
        → turns_left (walk sight bucket draws left new places candidates drawn) + draws_used (walk sight bucket draws left new places candidates drawn) ≤ left + drawn
    walk-draws-used left new places candidates drawn =
        walk_ind sight bucket draws (λ now new places candidates used. now + used ≤ left + drawn) (λ out. turns_left out + draws_used out ≤ left + drawn) (draws-kept (left + drawn))
        left new places candidates drawn (omega arith)

    -- where a bucket uses at most one draw, a pass uses no more draws than turns
    pub draws-used : (budget drawn : ℕ) → turns_left (pass sight bucket draws budget drawn) + draws_used (pass sight bucket draws budget drawn) ≤ budget + drawn
    draws-used budget drawn = rw (pass-walk sight bucket draws budget drawn) (walk-draws-used budget true [] [] drawn)
