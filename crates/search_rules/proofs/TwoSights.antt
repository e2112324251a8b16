-- Two searches that differ only in where a pass is over: where the former finds a plan or closes, so does the
-- latter, in the same turns. As the Rust a failed check ends the pass; in the full search it goes on (02,
-- request 13).
use mathlib.Core.Path.{◌≡◌, refl, sym, ◌∙◌}
use mathlib.Core.Bool.{Bool, true, false≢true}
use mathlib.Core.List.{List, []}
use Prim.Native.Nat.{ℕ, suc}
use Rattle.search_rules.specs.Walk.{Sight, goal, on, Out, hit, dry, cut, Turn, moves, closes, walk, pass}
use Rattle.search_rules.specs.steps.Closing.{walk_closes, pass_closes}
use Rattle.search_rules.proofs.WalkSteps.{turn_from, walk-goal, walk-cut, walk-moves, walk-closes, pass-walk}
use Rattle.search_rules.proofs.ClosingLaws.{closes-goal, closes-over, closes_cut, closes-closes, closes-moves, pass-closes}
use Rattle.search_rules.proofs.Induction.{After, Kept, walk_ind}

-- what the latter's end is if the former's is known, and isn't dry
abbrev SameEnd : Out → Out → Type 0
SameEnd latter (hit left places drawn) = latter ≡ hit left places drawn
SameEnd latter (dry left drawn) = Unit {0}
SameEnd latter (cut drawn) = latter ≡ cut drawn

-- what the latter's end is if the former closes
abbrev SameClose : Out → Bool → Out → Type 0
SameClose latter closed (hit left places drawn) = ⊥
SameClose latter closed (dry left drawn) = (latter ≡ dry left drawn) × (closed ≡ true)
SameClose latter closed (cut drawn) = ⊥

-- where the former closes, both ends are one and the latter closes too
same_close : (latter : Out) (closed : Bool) (out : Out) → SameClose latter closed out → (latter ≡ out) × (closed ≡ true)
same_close latter closed (hit left places drawn) h = absurd h
same_close latter closed (dry left drawn) h = h
same_close latter closed (cut drawn) h = absurd h

module _ (former latter : List ℕ → Sight) (bucket : List ℕ → ℕ → List ℕ) (draws : List ℕ → ℕ → ℕ)
    (goals : (places : List ℕ) → former places ≡ goal → latter places ≡ goal)
    (ons : (places : List ℕ) → former places ≡ on → latter places ≡ on) where
  -- ---- a plan, or a cut

  -- both walks take the same turns
  same_after : (out : Out) (left : ℕ) (new : Bool) (places : List ℕ) (candidates : List (List ℕ)) (drawn : ℕ) (done : Turn) → former places ≡ on
      → walk latter bucket draws (suc left) new places candidates drawn ≡ out → turn_from bucket draws new places candidates drawn ≡ done
      → After (λ left new places candidates drawn. walk latter bucket draws left new places candidates drawn ≡ out) (SameEnd out) left done
  same_after out left new places candidates drawn (moves new' places' candidates' drawn') e f t =
      sym (walk-moves latter bucket draws left new places candidates drawn new' places' candidates' drawn' (ons places e) t) ∙ f
  same_after out left new places candidates drawn (closes drawn') e f t = tt

  -- what each turn keeps: both walks end alike
  same_kept : (out : Out) → Kept former bucket draws (λ left new places candidates drawn. walk latter bucket draws left new places candidates drawn ≡ out) (SameEnd out)
  same_kept out =
      record {
        at-goal = λ left new places candidates drawn f e. sym f ∙ walk-goal latter bucket draws left new places candidates drawn (goals places e);
        at-over = λ left new places candidates drawn f e. tt;
        at_cut = λ new places candidates drawn f e. sym f ∙ walk-cut latter bucket draws new places candidates drawn (ons places e);
        at_turn = λ left new places candidates drawn f e. same_after out left new places candidates drawn (turn_from bucket draws new places candidates drawn) e f refl;
      }

  -- both passes end alike, unless the former is dry
  pass_same : (budget drawn : ℕ) → SameEnd (pass latter bucket draws budget drawn) (pass former bucket draws budget drawn)
  pass_same budget drawn =
      let out = pass latter bucket draws budget drawn in
      rw (pass-walk former bucket draws budget drawn)
      (walk_ind former bucket draws (λ left new places candidates now. walk latter bucket draws left new places candidates now ≡ out) (SameEnd out) (same_kept out)
      budget true [] [] drawn (sym (pass-walk latter bucket draws budget drawn)))

  -- where the former finds a plan the latter finds the same plan in the same number of turns
  pub same-plan : (budget drawn left : ℕ) (places : List ℕ) (drawn' : ℕ) → pass former bucket draws budget drawn ≡ hit left places drawn'
      → pass latter bucket draws budget drawn ≡ hit left places drawn'
  same-plan budget drawn left places drawn' e = rw e at (pass_same budget drawn)

  -- where the former needs a turn that isn't there, so does the latter
  pub same-cut : (budget drawn drawn' : ℕ) → pass former bucket draws budget drawn ≡ cut drawn' → pass latter bucket draws budget drawn ≡ cut drawn'
  same-cut budget drawn drawn' e = rw e at (pass_same budget drawn)

  -- ---- the closing turn

  -- the former closes from here on; the latter ends so and says so of closing
  abbrev BothFrom : Out → Bool → ℕ → Bool → List ℕ → List (List ℕ) → ℕ → Type 0
  BothFrom out closed left new places candidates drawn =
      (walk_closes former bucket draws left new places candidates drawn ≡ true)
      × (walk latter bucket draws left new places candidates drawn ≡ out)
      × (walk_closes latter bucket draws left new places candidates drawn ≡ closed)

  -- after a turn the latter still ends as the former
  close_after : (out : Out) (closed : Bool) (left : ℕ) (new : Bool) (places : List ℕ) (candidates : List (List ℕ)) (drawn : ℕ) (done : Turn) → former places ≡ on
      → BothFrom out closed (suc left) new places candidates drawn → turn_from bucket draws new places candidates drawn ≡ done → After (BothFrom out closed) (SameClose out closed) left done
  close_after out closed left new places candidates drawn (moves new' places' candidates' drawn') e f t = (
    sym (closes-moves former bucket draws left new places candidates drawn new' places' candidates' drawn' e t) ∙ f.0,
    sym (walk-moves latter bucket draws left new places candidates drawn new' places' candidates' drawn' (ons places e) t) ∙ f.1,
    sym (closes-moves latter bucket draws left new places candidates drawn new' places' candidates' drawn' (ons places e) t) ∙ f.2,
  )
  close_after out closed left new places candidates drawn (closes drawn') e f t = (
    sym f.1 ∙ walk-closes latter bucket draws left new places candidates drawn drawn' (ons places e) t,
    sym f.2 ∙ closes-closes latter bucket draws left new places candidates drawn drawn' (ons places e) t,
  )

  -- what each turn keeps: the latter closes as the former
  close_kept : (out : Out) (closed : Bool) → Kept former bucket draws (BothFrom out closed) (SameClose out closed)
  close_kept out closed =
      record {
        at-goal = λ left new places candidates drawn f e. false≢true (sym (closes-goal former bucket draws left new places candidates drawn e) ∙ f.0);
        at-over = λ left new places candidates drawn f e. absurd (false≢true (sym (closes-over former bucket draws left new places candidates drawn e) ∙ f.0));
        at_cut = λ new places candidates drawn f e. false≢true (sym (closes_cut former bucket draws new places candidates drawn) ∙ f.0);
        at_turn = λ left new places candidates drawn f e. close_after out closed left new places candidates drawn (turn_from bucket draws new places candidates drawn) e f refl;
      }

  -- 'if the former ends at depth 0 with no candidate, so does the latter', in the same number of turns and
  -- with the same draws used
  pub same_closing : (budget drawn : ℕ) → pass_closes former bucket draws budget drawn ≡ true
      → (pass latter bucket draws budget drawn ≡ pass former bucket draws budget drawn) × (pass_closes latter bucket draws budget drawn ≡ true)
  same_closing budget drawn c =
      let out = pass latter bucket draws budget drawn in
      let closed = pass_closes latter bucket draws budget drawn in
      same_close out closed (pass former bucket draws budget drawn)
      (rw (pass-walk former bucket draws budget drawn)
      (walk_ind former bucket draws (BothFrom out closed) (SameClose out closed) (close_kept out closed) budget true [] [] drawn
      (sym (pass-closes former bucket draws budget drawn) ∙ c, sym (pass-walk latter bucket draws budget drawn), sym (pass-closes latter bucket draws budget drawn))))
