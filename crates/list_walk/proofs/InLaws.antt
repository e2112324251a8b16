-- The next place that a choice may take and that its domain has.
use Rattle.std.proofs.Common.{◌≡◌, ℕ, zero, suc, ◌+◌, ◌-◌, ◌≤◌, Bool, true, false, cond, ◌&&◌, ltb, List, refl, ap, ◌∙◌, pos_of_ne-zero, arith, ltb-false, le-ltb}
use mathlib.Core.Bool.{and-false}
use Rattle.base_choice_sets.specs.Sets.{has}
use Rattle.plan_check.specs.Day.{Day}
use Rattle.list_nodes.specs.steps.Walk.{place_of, place_fits}
use Rattle.list_domains.specs.steps.Domains.{place_number}
use Rattle.list_walk.specs.steps.Sight.{may_take, next_in, next_has, next_within}
use Rattle.list_walk.specs.steps.Walks.{AllFit, Takes}
use Rattle.list_walk.proofs.NextLaws.{next-within}

-- a position's place has the position's number
pub number-place : (slots at : ℕ) → slots ≤ 24 → at ≤ slots → place_number slots (place_of slots at) ≡ at
unfolding place_number place_of
number-place slots at few h = go (ltb at slots) refl
  where
    go : (b : Bool) → ltb at slots ≡ b → cond (ltb (cond b at 255) slots) (cond b at 255) slots ≡ at
    go true t = rw t
    go false t = rw (le-ltb 255 slots (omega arith)) (omega (arith, ltb-false at slots t))

module _ (slots choosers : ℕ) (mins optional sums : List ℕ) (domain choice : ℕ) where
  -- from the next place on that the choice may take no more places are left than were
  pub in_within : (left : ℕ) → next_in slots choosers mins optional sums domain choice left ≤ left
  unfolding next_in
  in_within zero = omega arith
  in_within (suc left) = go (may_take slots choosers mins optional sums domain choice (place_of slots (slots - left))) (in_within left)
    where
      go : (b : Bool) → next_in slots choosers mins optional sums domain choice left ≤ left → cond b (suc left) (next_in slots choosers mins optional sums domain choice left) ≤ suc left
      go true h = omega arith
      go false h = omega arith

  -- the choice may take the next place that is found for it
  in_fits : (left : ℕ) → (next_in slots choosers mins optional sums domain choice left ≡ 0 → ⊥)
      → may_take slots choosers mins optional sums domain choice (place_of slots (slots + 1 - next_in slots choosers mins optional sums domain choice left)) ≡ true
  unfolding next_in
  in_fits zero n = absurd (n refl)
  in_fits (suc left) n = go (may_take slots choosers mins optional sums domain choice (place_of slots (slots - left))) refl (in_fits left) n
    where
      go : (b : Bool) → may_take slots choosers mins optional sums domain choice (place_of slots (slots - left)) ≡ b
          → ((next_in slots choosers mins optional sums domain choice left ≡ 0 → ⊥) → may_take slots choosers mins optional sums domain choice (place_of slots (slots + 1 - next_in slots choosers mins optional sums domain choice left)) ≡ true)
          → (cond b (suc left) (next_in slots choosers mins optional sums domain choice left) ≡ 0 → ⊥)
          → may_take slots choosers mins optional sums domain choice (place_of slots (slots + 1 - cond b (suc left) (next_in slots choosers mins optional sums domain choice left))) ≡ true
      go true t ih n =
          let e : slots + 1 - suc left ≡ slots - left = omega arith in
          rw e t
      go false t ih n = ih n

-- where every place of the domain fits, the next one that it has is the next one that the choice may take
has_in : (slots choosers : ℕ) (mins optional sums : List ℕ) (domain choice : ℕ) → slots ≤ 24 → AllFit slots choosers mins optional sums domain choice → (left : ℕ) → left ≤ slots + 1
    → next_has slots domain left ≡ next_in slots choosers mins optional sums domain choice left
unfolding next_has next_in may_take AllFit
has_in slots choosers mins optional sums domain choice few fits zero h = refl
has_in slots choosers mins optional sums domain choice few fits (suc left) h =
    go (has domain (slots - left)) refl (has_in slots choosers mins optional sums domain choice few fits left (omega arith))
  where
    number : has domain (place_number slots (place_of slots (slots - left))) ≡ has domain (slots - left)
    number = ap (has domain) (number-place slots (slots - left) few (omega arith))

    go : (b : Bool) → has domain (slots - left) ≡ b → next_has slots domain left ≡ next_in slots choosers mins optional sums domain choice left
        → cond (has domain (slots - left)) (suc left) (next_has slots domain left)
        ≡ cond (place_fits slots choosers mins optional sums choice (place_of slots (slots - left)) && has domain (place_number slots (place_of slots (slots - left)))) (suc left)
        (next_in slots choosers mins optional sums domain choice left)
    go true t ih = rw (number, t, fits (slots - left) (omega arith) t)
    go false t ih = rw (number, t, and-false (place_fits slots choosers mins optional sums choice (place_of slots (slots - left)))) ih

-- within a day's slots and places too the next place of the domain is the next that the choice may take
pub within_in : (slots choosers : ℕ) (mins optional sums : List ℕ) (domain choice : ℕ) → slots ≤ 24 → AllFit slots choosers mins optional sums domain choice → (left : ℕ) → left ≤ slots + 1
    → next_within slots domain left ≡ next_in slots choosers mins optional sums domain choice left
within_in slots choosers mins optional sums domain choice few fits left h =
    next-within slots domain left few h ∙ has_in slots choosers mins optional sums domain choice few fits left h

pub takes_next : (day : Day) (choice left : ℕ) (sums : List ℕ) (opened : ℕ) {next : ℕ} → left ≤ day.counts.slots + 1
    → AllFit day.counts.slots day.counts.choosers day.mins day.optional sums opened choice
    → next ≡ next_in day.counts.slots day.counts.choosers day.mins day.optional sums opened choice left → (next ≡ 0 → ⊥) → Takes day choice opened next sums
takes_next day choice left sums opened {next} h fits e n =
    let w = in_within day.counts.slots day.counts.choosers day.mins day.optional sums opened choice left in
    record {
      some = pos_of_ne-zero n;
      few = omega (arith, w, e);
      fits = rw e (in_fits day.counts.slots day.counts.choosers day.mins day.optional sums opened choice left (λ z. n (e ∙ z)));
      all_fit = fits;
    }
