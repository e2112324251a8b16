-- Two machines that agree at all the places that a walk comes to end alike.
use mathlib.Core.Path.{◌≡◌, refl, sym, ◌∙◌, ap}
use mathlib.Core.Bool.{Bool, true, false}
use mathlib.Core.List.{List, [], ◌∷◌}
use Prim.Native.Nat.{ℕ, suc}
use Rattle.search_rules.specs.Walk.{Sight, on, Out, Turn, moves, closes, opened, used, walk, pass}
use Rattle.search_rules.proofs.WalkSteps.{turn_from, walk-goal, walk-over, walk-cut, walk-moves, walk-closes, pass-walk}
use Rattle.search_rules.proofs.Induction.{After, Kept, walk_ind}
use Rattle.search_rules.proofs.Reached.{Each, Reached, reached-fits, reached-turn}

module _ (sight sight' : List ℕ → Sight) (bucket bucket' : List ℕ → ℕ → List ℕ) (draws draws' : List ℕ → ℕ → ℕ) (Fits : List ℕ → Type 0)
    (begins : Fits []) (grows : (places : List ℕ) (drawn : ℕ) → sight places ≡ on → Fits places → Each Fits places (bucket places drawn))
    (sights : (places : List ℕ) → Fits places → sight' places ≡ sight places)
    (buckets : (places : List ℕ) (drawn : ℕ) → sight places ≡ on → Fits places → bucket' places drawn ≡ bucket places drawn)
    (counts : (places : List ℕ) (drawn : ℕ) → sight places ≡ on → Fits places → draws' places drawn ≡ draws places drawn) where
  -- both machines make the same candidates
  opened-same : (new : Bool) (places : List ℕ) (candidates : List (List ℕ)) (drawn : ℕ) → sight places ≡ on → Fits places
      → opened bucket' new places candidates drawn ≡ opened bucket new places candidates drawn
  unfolding opened
  opened-same true places candidates drawn e f = ap (λ (made : List ℕ). made ∷ candidates) (buckets places drawn e f)
  opened-same false places candidates drawn e f = refl

  -- both machines use the same draws
  used-same : (new : Bool) (places : List ℕ) (drawn : ℕ) → sight places ≡ on → Fits places → used draws' new places drawn ≡ used draws new places drawn
  unfolding used
  used-same true places drawn e f = counts places drawn e f
  used-same false places drawn e f = refl

  -- the turns of both machines are the same
  turn-same : (new : Bool) (places : List ℕ) (candidates : List (List ℕ)) (drawn : ℕ) → sight places ≡ on → Fits places
      → turn_from bucket' draws' new places candidates drawn ≡ turn_from bucket draws new places candidates drawn
  turn-same new places candidates drawn e f = rw (opened-same new places candidates drawn e f, used-same new places drawn e f)

  -- the other machine ends so from here on, and these places are reached
  abbrev SoFrom : Out → ℕ → Bool → List ℕ → List (List ℕ) → ℕ → Type 0
  SoFrom out left new places candidates drawn = Reached Fits new places candidates × (walk sight' bucket' draws' left new places candidates drawn ≡ out)

  -- after a turn the other machine still ends so, and the places are reached
  so_after : (out : Out) (left : ℕ) (new : Bool) (places : List ℕ) (candidates : List (List ℕ)) (drawn : ℕ) (done : Turn) → sight places ≡ on
      → SoFrom out (suc left) new places candidates drawn → turn_from bucket draws new places candidates drawn ≡ done → After (SoFrom out) (λ mine. out ≡ mine) left done
  so_after out left new places candidates drawn (moves new' places' candidates' drawn') e f t =
      let h = reached-fits Fits new places candidates f.0 in (
        rw t at (reached-turn sight bucket draws Fits begins grows new places candidates drawn e f.0),
        sym (walk-moves sight' bucket' draws' left new places candidates drawn new' places' candidates' drawn' (sights places h ∙ e) (turn-same new places candidates drawn e h ∙ t)) ∙ f.1,
      )
  so_after out left new places candidates drawn (closes drawn') e f t =
      let h = reached-fits Fits new places candidates f.0 in
      sym f.1 ∙ walk-closes sight' bucket' draws' left new places candidates drawn drawn' (sights places h ∙ e) (turn-same new places candidates drawn e h ∙ t)

  -- what each turn keeps: the other machine ends so from there on
  same_kept : (out : Out) → Kept sight bucket draws (SoFrom out) (λ mine. out ≡ mine)
  same_kept out =
      record {
        at-goal = λ left new places candidates drawn f e.
            sym f.1 ∙ walk-goal sight' bucket' draws' left new places candidates drawn (sights places (reached-fits Fits new places candidates f.0) ∙ e);
        at-over = λ left new places candidates drawn f e.
            sym f.1 ∙ walk-over sight' bucket' draws' left new places candidates drawn (sights places (reached-fits Fits new places candidates f.0) ∙ e);
        at_cut = λ new places candidates drawn f e.
            sym f.1 ∙ walk-cut sight' bucket' draws' new places candidates drawn (sights places (reached-fits Fits new places candidates f.0) ∙ e);
        at_turn = λ left new places candidates drawn f e. so_after out left new places candidates drawn (turn_from bucket draws new places candidates drawn) e f refl;
      }

  -- the passes of both machines end alike
  pub same-pass : (budget drawn : ℕ) → pass sight' bucket' draws' budget drawn ≡ pass sight bucket draws budget drawn
  same-pass budget drawn =
      let out = pass sight' bucket' draws' budget drawn in
      rw (pass-walk sight bucket draws budget drawn)
      (walk_ind sight bucket draws (SoFrom out) (λ mine. out ≡ mine) (same_kept out) budget true [] [] drawn
      ((begins, tt), sym (pass-walk sight' bucket' draws' budget drawn)))
