-- The plans and the visits among events that come one list after another.
use mathlib.Core.Path.{◌≡◌, refl, sym, ap, ◌∙◌}
use mathlib.Core.Bool.{Bool, true, false, ◌&&◌, not, cond, false≢true}
use mathlib.Core.List.{List, [], ◌∷◌, ◌++◌, map, flat_map}
use mathlib.Core.Logic.{◌⊎◌, inl, inr, ⊎_elim}
use Prim.Native.Nat.{ℕ, ◌+◌, ◌≤◌}
use native.Mathlib.Omega.{arith}
use borrow.Author.Tests.{eq-eqb, ne_eqb}
use lib.Dec.{eqb}
use lib.ListN.{length, length-append}
use Rattle.base_lists.specs.Keep.{sum_over}
use Rattle.base_lists.proofs.Below.{and_left}
use Rattle.list_nodes.specs.steps.Alive.{Event, visit, plan, plans_in, visits_in, is_none, passing}

pub plans-append : (es fs : List Event) → plans_in (es ++ fs) ≡ plans_in es ++ plans_in fs
unfolding plans_in
plans-append [] fs = refl
plans-append (visit ∷ es) fs = plans-append es fs
plans-append (plan p ∷ es) fs = ap (λ (l : List (List ℕ)). p ∷ l) (plans-append es fs)

pub visits-append : (es fs : List Event) → visits_in (es ++ fs) ≡ visits_in es + visits_in fs
unfolding visits_in
visits-append [] fs = omega arith
visits-append (visit ∷ es) fs = omega (arith, visits-append es fs)
visits-append (plan p ∷ es) fs = visits-append es fs

-- ---- place by place

-- the places that stay open once one of them has met its plans
abbrev pub onward : (ℕ → List Event) → (ℕ → ℕ → Bool) → (ℕ → Bool) → ℕ → ℕ → Bool
onward at twin opens place later = opens later && not (is_none (plans_in (at place)) && twin place later)

-- what happens at the places that are open is all that matters
pub passing-same : (at at' : ℕ → List Event) (twin : ℕ → ℕ → Bool) (opens : ℕ → Bool) (l : List ℕ) → ((place : ℕ) → opens place ≡ true → at place ≡ at' place)
    → passing at twin opens l ≡ passing at' twin opens l
unfolding passing
passing-same at at' twin opens [] h = refl
passing-same at at' twin opens (place ∷ l) h = go (opens place) refl (passing-same at at' twin opens l h) (passing-same at at' twin (onward at twin opens place) l λ later t. h later (and_left _ _ t))
  where
    go : (b : Bool) → opens place ≡ b → passing at twin opens l ≡ passing at' twin opens l → passing at twin (onward at twin opens place) l ≡ passing at' twin (onward at twin opens place) l
        → cond b (at place ++ passing at twin (onward at twin opens place) l) (passing at twin opens l) ≡ cond b (at' place ++ passing at' twin (onward at' twin opens place) l) (passing at' twin opens l)
    go true t rest ih =
        ap (λ (es : List Event). at place ++ es) ih
        ∙ ap (λ (es : List Event). es ++ passing at' twin (λ later. opens later && not (is_none (plans_in es) && twin place later)) l) (h place t)
    go false t rest ih = rest

-- where no plan is, the list of them is empty
pub none_is : (plans : List (List ℕ)) → is_none plans ≡ true → plans ≡ []
unfolding is_none
none_is [] t = refl
none_is (p ∷ plans) t = absurd (false≢true t)

-- so many plans are met as the number of plans has grown by: none where it is as before
pub none-met : (met met' : ℕ) (plans : List (List ℕ)) → met' ≡ met + length plans → eqb met met' ≡ is_none plans
unfolding is_none
none-met met met' [] e = eq-eqb met met' (omega arith)
none-met met met' (p ∷ plans) e = ne_eqb met met' λ n. omega (arith, n)

module _ (at : ℕ → List Event) (twin : ℕ → ℕ → Bool) (there : ℕ → List (List ℕ)) where
  -- a place that doesn't stay open was shut, or it is passed over
  shut-onward : (opens : ℕ → Bool) (place later : ℕ) → onward at twin opens place later ≡ false → (opens later ≡ false) ⊎ ((opens later ≡ true) × (is_none (plans_in (at place)) ≡ true) × (twin place later ≡ true))
  shut-onward opens place later f = go (opens later) (is_none (plans_in (at place))) (twin place later) f
    where
      go : (a b c : Bool) → (a && not (b && c)) ≡ false → (a ≡ false) ⊎ ((a ≡ true) × (b ≡ true) × (c ≡ true))
      go false b c f = inl refl
      go true true true f = inr (refl, refl, refl)
      go true true false f = absurd (false≢true (sym f))
      go true false c f = absurd (false≢true (sym f))

  -- the plans that are met are those of all places: a shut one has none, and a twin of one that has none has
  -- none
  pub passing-plans : (opens : ℕ → Bool) (l : List ℕ) → ((place : ℕ) → opens place ≡ true → plans_in (at place) ≡ there place) → ((place : ℕ) → opens place ≡ false → there place ≡ [])
      → ((place later : ℕ) → opens place ≡ true → opens later ≡ true → twin place later ≡ true → there place ≡ [] → there later ≡ [])
      → plans_in (passing at twin opens l) ≡ flat_map there l
  unfolding passing plans_in flat_map
  passing-plans opens [] met shut twins = refl
  passing-plans opens (place ∷ l) met shut twins =
      go (opens place) refl (passing-plans opens l met shut twins) λ t.
      passing-plans (onward at twin opens place) l (λ later u. met later (and_left _ _ u))
      (λ later f.
      ⊎_elim (shut later) (λ k. twins place later t k.0 k.2 (sym (met place t) ∙ none_is (plans_in (at place)) k.1)) (shut-onward opens place later f))
      λ one other u v. twins one other (and_left _ _ u) (and_left _ _ v)
    where
      go : (b : Bool) → opens place ≡ b → plans_in (passing at twin opens l) ≡ flat_map there l → (opens place ≡ true → plans_in (passing at twin (onward at twin opens place) l) ≡ flat_map there l)
          → plans_in (cond b (at place ++ passing at twin (onward at twin opens place) l) (passing at twin opens l)) ≡ there place ++ flat_map there l
      go true t rest ih = plans-append (at place) (passing at twin (onward at twin opens place) l) ∙ rw (met place t, ih t)
      go false f rest ih = rest ∙ rw (shut place f)

-- no more starts are visited than the bounds of the places that are open sum to
pub passing-visits : (at : ℕ → List Event) (twin : ℕ → ℕ → Bool) (bound : ℕ → ℕ) (opens : ℕ → Bool) (l : List ℕ) → ((place : ℕ) → opens place ≡ true → visits_in (at place) ≤ bound place)
    → visits_in (passing at twin opens l) ≤ sum_over bound l
unfolding passing visits_in sum_over
passing-visits at twin bound opens [] h = omega arith
passing-visits at twin bound opens (place ∷ l) h = go (opens place) refl (passing-visits at twin bound opens l h) (passing-visits at twin bound (onward at twin opens place) l λ later t. h later (and_left _ _ t))
  where
    go : (b : Bool) → opens place ≡ b → visits_in (passing at twin opens l) ≤ sum_over bound l → visits_in (passing at twin (onward at twin opens place) l) ≤ sum_over bound l
        → visits_in (cond b (at place ++ passing at twin (onward at twin opens place) l) (passing at twin opens l)) ≤ bound place + sum_over bound l
    go true t rest ih = rw (visits-append (at place) (passing at twin (onward at twin opens place) l)) (omega (arith, h place t, ih))
    go false t rest ih = omega (arith, rest)

-- each plan has its own visit, if it has one at every place
pub passing_costs : (at : ℕ → List Event) (twin : ℕ → ℕ → Bool) (opens : ℕ → Bool) (l : List ℕ) → ((place : ℕ) → length (plans_in (at place)) ≤ visits_in (at place))
    → length (plans_in (passing at twin opens l)) ≤ visits_in (passing at twin opens l)
unfolding passing plans_in visits_in
passing_costs at twin opens [] h = omega arith
passing_costs at twin opens (place ∷ l) h = go (opens place) (passing_costs at twin opens l h) (passing_costs at twin (onward at twin opens place) l h)
  where
    go : (b : Bool) → length (plans_in (passing at twin opens l)) ≤ visits_in (passing at twin opens l)
        → length (plans_in (passing at twin (onward at twin opens place) l)) ≤ visits_in (passing at twin (onward at twin opens place) l)
        → length (plans_in (cond b (at place ++ passing at twin (onward at twin opens place) l) (passing at twin opens l))) ≤ visits_in (cond b (at place ++ passing at twin (onward at twin opens place) l) (passing at twin opens l))
    go true rest ih =
        rw (plans-append (at place) (passing at twin (onward at twin opens place) l), visits-append (at place) (passing at twin (onward at twin opens place) l), length-append (plans_in (at place)) (plans_in (passing at twin (onward at twin opens place) l)))
        (omega (arith, h place, ih))
    go false rest ih = rest

-- events that are plans alone have these plans
pub plans-told : (l : List (List ℕ)) → plans_in (map plan l) ≡ l
unfolding plans_in
plans-told [] = refl
plans-told (p ∷ l) = ap (λ (k : List (List ℕ)). p ∷ k) (plans-told l)

pub visits-told : (l : List (List ℕ)) → visits_in (map plan l) ≡ 0
unfolding visits_in
visits-told [] = refl
visits-told (p ∷ l) = visits-told l
