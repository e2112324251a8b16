-- A plan along a pass: it goes on from the places decided if each of them is the plan's own. Then what is
-- decided is as the plan has it.
use mathlib.Core.Path.{◌≡◌, refl, sym, ◌∙◌}
use mathlib.Core.List.Memᴰ
use mathlib.Core.List.{List, [], ◌∷◌, ◌++◌, Memᴰ}
use mathlib.Core.Logic.{◌⊎◌, inl, inr, ⊎_elim}
use Prim.Native.Nat.{ℕ, zero, suc, ◌≤◌, ◌<◌}
use native.Mathlib.Decide.{ℕ_discrete}
use native.Mathlib.Omega.{arith}
use lib.ListN.{length, get_or, take, replicate, length-set, length-replicate}
use lib.Seq.{take-suc, get_or-set_same, get_or-set_other}
use Rattle.base_lists.specs.Below.{sum_below}
use Rattle.base_lists.specs.Keep.{sum_over}
use Rattle.plan_check.specs.Plan.{slot_of}
use Rattle.search_candidates.specs.Allow.{undecided, decision_of}
use Rattle.search_rules.specs.Decided.{decided}

-- an order of the choices 0..C-1, each once
pub record Arranged (choices : ℕ) (order : List ℕ) : Type 0 where
  pub long : length order ≡ choices
  pub below : (i : ℕ) → i < choices → get_or order i 0 < choices
  pub alone : (i : ℕ) → i < choices → Memᴰ (get_or order i 0) (take i order) → ⊥
  pub covers : (choice : ℕ) → choice < choices → Memᴰ choice order
  pub sums : (f : ℕ → ℕ) → sum_over f order ≡ sum_below choices f

-- the plan goes on from the places decided, last first: at each depth the place is the plan's
abbrev pub GoesOn : ℕ → List ℕ → List ℕ → List ℕ → Type 0
GoesOn choices order [] plan = Unit {0}
GoesOn choices order (place ∷ places) plan =
    (length places < choices) × (slot_of plan (get_or order (length places) 0) ≡ place) × GoesOn choices order places plan

-- no more places than choices
pub goes_depth : (choices : ℕ) (order places plan : List ℕ) → GoesOn choices order places plan → length places ≤ choices
goes_depth choices order [] plan g = omega arith
goes_depth choices order (place ∷ places) plan g = let h : length places < choices = g.0 in h

-- an entry of a list of one number
replicate-at : (n i a : ℕ) → get_or (replicate n a) i a ≡ a
replicate-at zero i a = refl
replicate-at (suc n) zero a = refl
replicate-at (suc n) (suc i) a = replicate-at n i a

-- what is decided has an entry for each choice
pub decided-length : (order places : List ℕ) → length (decided order places) ≡ 64
unfolding decided
decided-length order [] = length-replicate 64 undecided
decided-length order (place ∷ places) = length-set (decided order places) (get_or order (length places) 0) place ∙ decided-length order places

module _ (choices : ℕ) (order : List ℕ) (arranged : Arranged choices order) (few : choices ≤ 64) where
  -- the first choices of the order with one more
  pub take_next : (depth : ℕ) → depth < choices → take (suc depth) order ≡ take depth order ++ (get_or order depth 0 ∷ [])
  take_next depth h = take-suc order depth 0 (omega (arith, arranged.long))

  -- the choice at a depth has an entry
  pub at-below : (depth : ℕ) (places : List ℕ) → depth < choices → get_or order depth 0 < length (decided order places)
  at-below depth places h = rw (decided-length order places) (omega (arith, arranged.below depth h))

  -- the choice of the place just decided stands there
  pub decided-here : (place : ℕ) (places : List ℕ) → length places < choices → decision_of (decided order (place ∷ places)) (get_or order (length places) 0) ≡ place
  unfolding decided decision_of
  decided-here place places h =
      get_or-set_same (decided order places) (get_or order (length places) 0) place undecided (at-below (length places) places h)

  -- a place just decided leaves other choices as they were
  pub decided-before : (place : ℕ) (places : List ℕ) (choice : ℕ) → (choice ≡ get_or order (length places) 0 → ⊥)
      → decision_of (decided order (place ∷ places)) choice ≡ decision_of (decided order places) choice
  unfolding decided decision_of
  decided-before place places choice n =
      get_or-set_other (decided order places) (get_or order (length places) 0) choice place undecided n

  -- what isn't among the first choices is undecided
  pub decided-out : (places : List ℕ) → length places ≤ choices → (choice : ℕ) → (Memᴰ choice (take (length places) order) → ⊥)
      → decision_of (decided order places) choice ≡ undecided
  unfolding decided decision_of
  decided-out [] h choice out = replicate-at 64 choice undecided
  decided-out (place ∷ places) h choice out =
      let hd : length places < choices = h in
      let next = take_next (length places) hd in
      decided-before place places choice
      (λ e. out (rw next (Memᴰ.append_right (take (length places) order) (Memᴰ.head e))))
      ∙ decided-out places (omega arith) choice
      (λ m. out (rw next (Memᴰ.append_left (get_or order (length places) 0 ∷ []) m)))

  -- the choice of a new depth is undecided
  pub undecided-at : (places : List ℕ) → length places < choices → decision_of (decided order places) (get_or order (length places) 0) ≡ undecided
  undecided-at places h = decided-out places (omega arith) (get_or order (length places) 0) (arranged.alone (length places) h)

  module _ (plan : List ℕ) where
    -- a choice is undecided, or stands where the plan has it
    pub decided_or : (places : List ℕ) → GoesOn choices order places plan → (choice : ℕ)
        → (decision_of (decided order places) choice ≡ undecided) ⊎ (decision_of (decided order places) choice ≡ slot_of plan choice)
    unfolding decided decision_of
    decided_or [] g choice = inl (replicate-at 64 choice undecided)
    decided_or (place ∷ places) g choice = go (ℕ_discrete choice (get_or order (length places) 0)) (decided_or places g.2 choice)
      where
        go : Dec (choice ≡ get_or order (length places) 0)
            → (decision_of (decided order places) choice ≡ undecided) ⊎ (decision_of (decided order places) choice ≡ slot_of plan choice)
            → (decision_of (decided order (place ∷ places)) choice ≡ undecided) ⊎ (decision_of (decided order (place ∷ places)) choice ≡ slot_of plan choice)
        go (yes e) ih = inr (rw e (decided-here place places g.0 ∙ sym g.1))
        go (no n) ih = rw (decided-before place places choice n) ih

    -- one of the first choices stands where the plan has it
    pub decided_in : (places : List ℕ) → GoesOn choices order places plan → (choice : ℕ) → Memᴰ choice (take (length places) order)
        → decision_of (decided order places) choice ≡ slot_of plan choice
    decided_in [] g choice m = absurd (Memᴰ.not-nil m)
    decided_in (place ∷ places) g choice m = go (ℕ_discrete choice (get_or order (length places) 0)) (decided_in places g.2 choice)
      where
        go : Dec (choice ≡ get_or order (length places) 0)
            → (Memᴰ choice (take (length places) order) → decision_of (decided order places) choice ≡ slot_of plan choice)
            → decision_of (decided order (place ∷ places)) choice ≡ slot_of plan choice
        go (yes e) ih = rw e (decided-here place places g.0 ∙ sym g.1)
        go (no n) ih =
            decided-before place places choice n
            ∙ ⊎_elim ih (λ k. ⊎_elim (λ e. absurd (n e)) (λ z. absurd (Memᴰ.not-nil z)) (Memᴰ.cases_cons k))
            (Memᴰ.append_cases (take (length places) order) (rw (take_next (length places) g.0) at m))
