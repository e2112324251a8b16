-- The slots' sums as the code keeps them: the two lists are one value.
use Rattle.std.specs.Prelude.{◌≡◌, ℕ, eqb, get_or}
use Rattle.base_choice_sets.specs.Sets.{has}
use Rattle.list_domains.specs.steps.Domains.{only_place}
use Rattle.list_rule_slots.specs.steps.Sums.{added_to, Small}
use Rattle.list_rule_slots.specs.declared.slot_sums.Sums.{Sums}

-- what must stand in a slot
abbrev pub must : Sums → ℕ → ℕ
must sums slot = get_or sums.musts slot 0

-- what may stand in a slot
abbrev pub may : Sums → ℕ → ℕ
may sums slot = get_or sums.mays slot 0

-- no sum is so large that one more amount is too much
abbrev pub small : ℕ → Sums → Type 0
small slots sums = Small slots sums.musts × Small slots sums.mays

-- a choice's minimum is added where it must stand, its maximum where it may
abbrev pub added : ℕ → ℕ → ℕ → ℕ → Sums → Sums → Type 0
added slots least most domain before after =
    (after.musts ≡ added_to slots (λ slot. eqb domain (only_place slot)) least before.musts)
    × (after.mays ≡ added_to slots (has domain) most before.mays)
