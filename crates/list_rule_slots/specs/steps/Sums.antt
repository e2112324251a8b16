-- Every slot's sums in one pass: a choice's amounts are added where it stands or may stand.
use Rattle.std.specs.Prelude.{◌≡◌, Bool, true, false, cond, List, ℕ, ◌+◌, ◌*◌, ◌≤◌, ◌<◌, length, get_or}
use Rattle.base_choice_sets.specs.Sets.{has}
use Rattle.list_domains.specs.steps.Domains.{each_below}
use Rattle.list_rule_slots.specs.steps.SlotRules.{certain, possible}

-- the first slot of a set from one on, the number of slots if there is none
pub record NextIn (slots set from next : ℕ) : Type 0 where
  pub after : from ≤ next
  pub under : next ≤ slots
  pub none : (slot : ℕ) → from ≤ slot → slot < next → has set slot ≡ false
  pub found : next < slots → has set next ≡ true

-- an amount more in each slot that passes the test
unfoldable pub added_to : ℕ → (ℕ → Bool) → ℕ → List ℕ → List ℕ
added_to slots test amount sums = each_below slots (λ slot sum. sum + cond (test slot) amount 0) sums

-- no sum is more than 64 amounts, so that one more can't be too large
unfoldable pub Small : ℕ → List ℕ → Type 0
Small slots sums = (slot : ℕ) → slot < slots → get_or sums slot 0 ≤ 4194240

-- both sums of every slot by the first so many choices
pub record SumsOf (slots n : ℕ) (mins maxs domains musts mays : List ℕ) : Type 0 where
  pub must-size : length musts ≡ 24
  pub may-size : length mays ≡ 24
  pub must : (slot : ℕ) → slot < slots → get_or musts slot 0 ≡ certain n mins domains slot
  pub may : (slot : ℕ) → slot < slots → get_or mays slot 0 ≡ possible n maxs domains slot
  pub must-most : (slot : ℕ) → slot < slots → get_or musts slot 0 ≤ 65535 * n
  pub may-most : (slot : ℕ) → slot < slots → get_or mays slot 0 ≤ 65535 * n
