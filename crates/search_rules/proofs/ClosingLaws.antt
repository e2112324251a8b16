-- The closing turn: at which states a walk ends by it, and that a pass without a plan ends so or is over.
use mathlib.Core.Path.{◌≡◌, refl, sym, ◌∙◌}
use mathlib.Core.Bool.{Bool, true, false, false≢true}
use mathlib.Core.List.{List, []}
use mathlib.Core.Logic.{◌⊎◌, inl, inr, ⊎_elim}
use Prim.Native.Nat.{ℕ, zero, suc}
use Rattle.search_rules.specs.Walk.{Sight, goal, over, on, Out, hit, dry, cut, Turn, moves, closes, pass}
use Rattle.search_rules.specs.steps.Closing.{walk_closes, pass_closes}
use Rattle.search_rules.proofs.WalkSteps.{turn_from, pass-walk}
use Rattle.search_rules.proofs.Induction.{After, Kept, walk_ind}

module _ (sight : List ℕ → Sight) (bucket : List ℕ → ℕ → List ℕ) (draws : List ℕ → ℕ → ℕ) where
  -- a walk at a plan does not close
  pub closes-goal : (left : ℕ) (new : Bool) (places : List ℕ) (candidates : List (List ℕ)) (drawn : ℕ) → sight places ≡ goal → walk_closes sight bucket draws left new places candidates drawn ≡ false
  unfolding walk_closes
  closes-goal zero new places candidates drawn e = refl
  closes-goal (suc left) new places candidates drawn e = rw (e, walk_closes)

  -- a walk that is over does not close
  pub closes-over : (left : ℕ) (new : Bool) (places : List ℕ) (candidates : List (List ℕ)) (drawn : ℕ) → sight places ≡ over → walk_closes sight bucket draws left new places candidates drawn ≡ false
  unfolding walk_closes
  closes-over zero new places candidates drawn e = refl
  closes-over (suc left) new places candidates drawn e = rw (e, walk_closes)

  -- a walk without a turn left does not close
  pub closes_cut : (new : Bool) (places : List ℕ) (candidates : List (List ℕ)) (drawn : ℕ) → walk_closes sight bucket draws 0 new places candidates drawn ≡ false
  unfolding walk_closes
  closes_cut new places candidates drawn = refl

  -- a walk at its closing turn closes
  pub closes-closes : (left : ℕ) (new : Bool) (places : List ℕ) (candidates : List (List ℕ)) (drawn drawn' : ℕ) → sight places ≡ on
      → turn_from bucket draws new places candidates drawn ≡ closes drawn' → walk_closes sight bucket draws (suc left) new places candidates drawn ≡ true
  unfolding walk_closes
  closes-closes left new places candidates drawn drawn' e t = rw (e, walk_closes, t)

  -- after any other turn a walk closes as from the state that the turn goes to
  pub closes-moves : (left : ℕ) (new : Bool) (places : List ℕ) (candidates : List (List ℕ)) (drawn : ℕ) (new' : Bool) (places' : List ℕ) (candidates' : List (List ℕ)) (drawn' : ℕ) → sight places ≡ on
      → turn_from bucket draws new places candidates drawn ≡ moves new' places' candidates' drawn'
      → walk_closes sight bucket draws (suc left) new places candidates drawn ≡ walk_closes sight bucket draws left new' places' candidates' drawn'
  unfolding walk_closes
  closes-moves left new places candidates drawn new' places' candidates' drawn' e t = rw (e, walk_closes, t)

  -- a pass closes as the walk from no place decided
  pub pass-closes : (budget drawn : ℕ) → pass_closes sight bucket draws budget drawn ≡ walk_closes sight bucket draws budget true [] [] drawn
  unfolding pass_closes
  pass-closes budget drawn = refl

  -- ---- a pass without a plan

  -- how a walk with the answer `closed` ends: by the closing turn, or where the pass is over
  abbrev pub ClosesOr : Bool → Out → Type 0
  ClosesOr closed (hit left places drawn) = closed ≡ false
  ClosesOr closed (dry left drawn) = (closed ≡ true) ⊎ ((closed ≡ false) × ((places : List ℕ) × (sight places ≡ over)))
  ClosesOr closed (cut drawn) = closed ≡ false

  -- after a turn a walk ends so too
  closes-after : (closed : Bool) (left : ℕ) (new : Bool) (places : List ℕ) (candidates : List (List ℕ)) (drawn : ℕ) (done : Turn) → sight places ≡ on
      → walk_closes sight bucket draws (suc left) new places candidates drawn ≡ closed → turn_from bucket draws new places candidates drawn ≡ done
      → After (λ left new places candidates drawn. walk_closes sight bucket draws left new places candidates drawn ≡ closed) (ClosesOr closed) left done
  closes-after closed left new places candidates drawn (moves new' places' candidates' drawn') e f t =
      sym (closes-moves left new places candidates drawn new' places' candidates' drawn' e t) ∙ f
  closes-after closed left new places candidates drawn (closes drawn') e f t = inl (sym f ∙ closes-closes left new places candidates drawn drawn' e t)

  -- what each turn keeps: how the walk ends
  closes_kept : (closed : Bool) → Kept sight bucket draws (λ left new places candidates drawn. walk_closes sight bucket draws left new places candidates drawn ≡ closed) (ClosesOr closed)
  closes_kept closed =
      record {
        at-goal = λ left new places candidates drawn f e. sym f ∙ closes-goal left new places candidates drawn e;
        at-over = λ left new places candidates drawn f e. inr (sym f ∙ closes-over left new places candidates drawn e, (places, e));
        at_cut = λ new places candidates drawn f e. sym f ∙ closes_cut new places candidates drawn;
        at_turn = λ left new places candidates drawn f e. closes-after closed left new places candidates drawn (turn_from bucket draws new places candidates drawn) e f refl;
      }

  -- how a pass with the answer `closed` ends
  pass-ways : (budget drawn : ℕ) → ClosesOr (pass_closes sight bucket draws budget drawn) (pass sight bucket draws budget drawn)
  pass-ways budget drawn =
      let closed = pass_closes sight bucket draws budget drawn in
      rw (pass-walk sight bucket draws budget drawn)
      (walk_ind sight bucket draws (λ left new places candidates now. walk_closes sight bucket draws left new places candidates now ≡ closed)
      (ClosesOr closed) (closes_kept closed) budget true [] [] drawn (sym (pass-closes budget drawn)))

  -- a pass without a plan ends by the closing turn, or is over
  pub dry-ways : (budget drawn left drawn' : ℕ) → pass sight bucket draws budget drawn ≡ dry left drawn'
      → (pass_closes sight bucket draws budget drawn ≡ true) ⊎ ((pass_closes sight bucket draws budget drawn ≡ false) × ((places : List ℕ) × (sight places ≡ over)))
  dry-ways budget drawn left drawn' e = rw e at (pass-ways budget drawn)

  -- a pass that is never over and has no plan ends by the closing turn
  pub dry-closes : ((places : List ℕ) → sight places ≡ over → ⊥) → (budget drawn left drawn' : ℕ) → pass sight bucket draws budget drawn ≡ dry left drawn'
      → pass_closes sight bucket draws budget drawn ≡ true
  dry-closes never budget drawn left drawn' e = ⊎_elim (λ h. h) (λ h. absurd (never h.1.0 h.1.1)) (dry-ways budget drawn left drawn' e)

  -- a walk that closes ends without a plan
  closes-dry-out : (out : Out) → ClosesOr true out → (left : ℕ) × (drawn : ℕ) × (out ≡ dry left drawn)
  closes-dry-out (hit left places drawn) h = absurd (false≢true (sym h))
  closes-dry-out (dry left drawn) h = (left, drawn, refl)
  closes-dry-out (cut drawn) h = absurd (false≢true (sym h))

  -- a pass that closes ends without a plan
  pub closes-dry : (budget drawn : ℕ) → pass_closes sight bucket draws budget drawn ≡ true → (left : ℕ) × (drawn' : ℕ) × (pass sight bucket draws budget drawn ≡ dry left drawn')
  closes-dry budget drawn c =
      closes-dry-out (pass sight bucket draws budget drawn) (rw c at (pass-ways budget drawn))
