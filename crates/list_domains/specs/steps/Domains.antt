-- The places that each choice may still take. A domain is a set of places, as one number: a slot by its
-- number, omission by the number after the last slot.
use Rattle.std.specs.Prelude.{◌≡◌, Bool, true, ◌&&◌, ◌||◌, not, cond, List, ℕ, zero, suc, ◌<◌, eqb, ltb, leb, length, get_or, set}
use Rattle.plan_check.specs.Plan.{slot_of}
use Rattle.base_choice_sets.specs.Sets.{has, set_of, size_of}

-- a place's number in a domain
unfoldable pub place_number : ℕ → ℕ → ℕ
place_number slots place = cond (ltb place slots) place slots

-- every choice of the plan stands where its domain lets it stand
unfoldable pub Within : ℕ → List ℕ → List ℕ → Type 0
Within slots plan domains =
    (choice : ℕ) → choice < length plan
    → has (get_or domains choice 0) (place_number slots (slot_of plan choice)) ≡ true

-- a choice's domain before anything is decided: every slot, and omission if the choice is optional
unfoldable pub first_domain : ℕ → ℕ → ℕ
first_domain slots flag = set_of 64 λ place. ltb place slots || (eqb place slots && eqb flag 1)

-- the domain that holds one place alone
unfoldable pub only_place : ℕ → ℕ
only_place place = set_of 64 λ p. eqb p place

-- what is left of a domain if the choice may stand in the slot or not, and may stand elsewhere or not
unfoldable pub kept_places : ℕ → ℕ → Bool → Bool → ℕ
kept_places domain slot stands leaves =
    set_of 64 λ place. has domain place && cond (eqb place slot) stands leaves

-- the places that two domains share
unfoldable pub both_places : ℕ → ℕ → ℕ
both_places one other = set_of 64 λ place. has one place && has other place

-- a choice that has at most one place left is settled
unfoldable pub settled : ℕ → Bool
settled domain = leb (size_of domain) 1

-- a choice whose one place left isn't omission must stand in a slot
unfoldable pub in_one_slot : ℕ → ℕ → Bool
in_one_slot slots domain = eqb (size_of domain) 1 && not (has domain slots)

-- the first of so many places from one on that the domain has, the place after them if it has none
unfoldable pub lowest_from : ℕ → ℕ → ℕ → ℕ
lowest_from place zero domain = place
lowest_from place (suc n) domain = cond (has domain place) place (lowest_from (suc place) n domain)

-- the lowest place of a domain, 64 if it has none
unfoldable pub lowest_place : ℕ → ℕ
lowest_place domain = lowest_from 0 64 domain

-- the first so many domains, each changed by its choice's own rule
unfoldable pub each_below : ℕ → (ℕ → ℕ → ℕ) → List ℕ → List ℕ
each_below zero rule domains = domains
each_below (suc n) rule domains = set (each_below n rule domains) n (rule n (get_or domains n 0))
