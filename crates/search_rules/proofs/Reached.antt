-- What every place of a bucket keeps holds of all the places that a walk comes to.
use mathlib.Core.Path.{◌≡◌, refl}
use mathlib.Core.Bool.{Bool, true, false}
use mathlib.Core.List.{List, [], ◌∷◌, Memᴰ}
use Prim.Native.Nat.{ℕ}
use Rattle.search_rules.specs.Walk.{Sight, on, hit, Turn, moves, closes, turn, opened, used, pass}
use Rattle.search_rules.proofs.WalkSteps.{turn_from, pass-walk}
use Rattle.search_rules.proofs.Induction.{After, Kept, walk_ind}
use Rattle.search_rules.proofs.Sound.{Found}

-- a property of the places decided
module _ (Fits : List ℕ → Type 0) where
  -- each candidate of a depth keeps the property
  abbrev pub Each : List ℕ → List ℕ → Type 0
  Each places bucket = (place : ℕ) → Memᴰ place bucket → Fits (place ∷ places)

  -- the places have the property, and each candidate left at any depth keeps it
  abbrev pub CandidatesFit : List ℕ → List (List ℕ) → Type 0
  CandidatesFit places [] = Fits places
  CandidatesFit [] (bucket ∷ candidates) = Fits [] × Each [] bucket
  CandidatesFit (last ∷ places) (bucket ∷ candidates) = Fits (last ∷ places) × Each (last ∷ places) bucket × CandidatesFit places candidates

  -- the shallower depths have the property, and each candidate left there keeps it
  abbrev pub ShallowerReady : List ℕ → List (List ℕ) → Type 0
  ShallowerReady [] candidates = Unit {0}
  ShallowerReady (last ∷ places) candidates = CandidatesFit places candidates

  -- the property of a state: of its places, and kept by each candidate left
  abbrev pub Reached : Bool → List ℕ → List (List ℕ) → Type 0
  Reached true places candidates = Fits places × ShallowerReady places candidates
  Reached false places candidates = CandidatesFit places candidates

  -- one depth put on the shallower ones
  ready-put : (bucket places : List ℕ) (candidates : List (List ℕ)) → Fits places → Each places bucket → ShallowerReady places candidates → CandidatesFit places (bucket ∷ candidates)
  ready-put bucket [] candidates f e s = (f, e)
  ready-put bucket (last ∷ places) candidates f e s = (f, e, s)

  -- the places of a depth have the property
  ready-fits : (places : List ℕ) (candidates : List (List ℕ)) → CandidatesFit places candidates → Fits places
  ready-fits places [] r = r
  ready-fits [] (bucket ∷ candidates) r = r.0
  ready-fits (last ∷ places) (bucket ∷ candidates) r = r.0

  -- each candidate of a depth keeps the property
  ready-each : (bucket places : List ℕ) (candidates : List (List ℕ)) → CandidatesFit places (bucket ∷ candidates) → Each places bucket
  ready-each bucket [] candidates r = r.1
  ready-each bucket (last ∷ places) candidates r = r.1

  -- the shallower depths have the property
  ready_shallower : (bucket places : List ℕ) (candidates : List (List ℕ)) → CandidatesFit places (bucket ∷ candidates) → ShallowerReady places candidates
  ready_shallower bucket [] candidates r = tt
  ready_shallower bucket (last ∷ places) candidates r = r.2

  -- the places of a state have the property
  pub reached-fits : (new : Bool) (places : List ℕ) (candidates : List (List ℕ)) → Reached new places candidates → Fits places
  reached-fits true places candidates r = r.0
  reached-fits false places candidates r = ready-fits places candidates r

  -- the first candidate of a depth taken: the places have the property
  ready-down : (place : ℕ) (rest places : List ℕ) (shallower : List (List ℕ)) → CandidatesFit places ((place ∷ rest) ∷ shallower) → Reached true (place ∷ places) (rest ∷ shallower)
  ready-down place rest places shallower r = (
    ready-each (place ∷ rest) places shallower r place (Memᴰ.head refl),
    ready-put rest places shallower (ready-fits places ((place ∷ rest) ∷ shallower) r)
        (λ other m. ready-each (place ∷ rest) places shallower r other (Memᴰ.tail m)) (ready_shallower (place ∷ rest) places shallower r),
  )

  -- the state that a turn goes to is reached
  abbrev pub ReachedAfter : Turn → Type 0
  ReachedAfter (moves new places candidates drawn) = Reached new places candidates
  ReachedAfter (closes drawn) = Unit {0}

  -- a turn goes to a state that is reached
  ready-turn : (places : List ℕ) (made : List (List ℕ)) (drawn : ℕ) → CandidatesFit places made → ReachedAfter (turn places made drawn)
  unfolding turn
  ready-turn places [] drawn r = tt
  ready-turn [] ([] ∷ shallower) drawn r = tt
  ready-turn (last ∷ places) ([] ∷ shallower) drawn r = r.2
  ready-turn places ((place ∷ rest) ∷ shallower) drawn r = ready-down place rest places shallower r

module _ (sight : List ℕ → Sight) (bucket : List ℕ → ℕ → List ℕ) (draws : List ℕ → ℕ → ℕ) (Fits : List ℕ → Type 0)
    (begins : Fits []) (grows : (places : List ℕ) (drawn : ℕ) → sight places ≡ on → Fits places → Each Fits places (bucket places drawn)) where
  -- with the candidates of a new depth made, the state is reached
  ready-opened : (new : Bool) (places : List ℕ) (candidates : List (List ℕ)) (drawn : ℕ) → sight places ≡ on → Reached Fits new places candidates
      → CandidatesFit Fits places (opened bucket new places candidates drawn)
  unfolding opened
  ready-opened true places candidates drawn e r = ready-put Fits (bucket places drawn) places candidates r.0 (grows places drawn e r.0) r.1
  ready-opened false places candidates drawn e r = r

  -- each turn keeps the property
  pub reached-turn : (new : Bool) (places : List ℕ) (candidates : List (List ℕ)) (drawn : ℕ) → sight places ≡ on → Reached Fits new places candidates
      → ReachedAfter Fits (turn_from bucket draws new places candidates drawn)
  reached-turn new places candidates drawn e r =
      ready-turn Fits places (opened bucket new places candidates drawn) (used draws new places drawn) (ready-opened new places candidates drawn e r)

  -- nothing is asked of the closing turn
  reached-after : (left : ℕ) (done : Turn) → ReachedAfter Fits done → After (λ left new places candidates drawn. Reached Fits new places candidates) (Found Fits) left done
  reached-after left (moves new places candidates drawn) r = r
  reached-after left (closes drawn) r = tt

  -- what each turn keeps: the state is reached
  reached-kept : Kept sight bucket draws (λ left new places candidates drawn. Reached Fits new places candidates) (Found Fits)
  reached-kept =
      record {
        at-goal = λ left new places candidates drawn f e. reached-fits Fits new places candidates f;
        at-over = λ left new places candidates drawn f e. tt;
        at_cut = λ new places candidates drawn f e. tt;
        at_turn = λ left new places candidates drawn f e. reached-after left (turn_from bucket draws new places candidates drawn) (reached-turn new places candidates drawn e f);
      }

  -- the places of a plan found have the property
  pub hit-fits : (budget drawn left : ℕ) (places : List ℕ) (drawn' : ℕ) → pass sight bucket draws budget drawn ≡ hit left places drawn' → Fits places
  hit-fits budget drawn left places drawn' e =
      let h : Found Fits (pass sight bucket draws budget drawn) =
      rw (pass-walk sight bucket draws budget drawn)
      (walk_ind sight bucket draws (λ left new places candidates drawn. Reached Fits new places candidates) (Found Fits) reached-kept budget true [] [] drawn (begins, tt)) in
      rw e at h
