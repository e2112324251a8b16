-- A page of a day's plans under a budget of turns: what it may give. It speaks of request 03's list alone,
-- and of nothing that the walk looks at.
use Rattle.std.specs.Prelude.{◌≡◌, Bool, true, false, ◌⊎◌, ℕ, ◌+◌, ◌-◌, ◌≤◌, ◌<◌, min, length, take}
use mathlib.Core.List.{List, flatten}
use Rattle.std.proofs.lemmas.List.Edits.{sets}
use Rattle.plan_check.specs.Day.{Day}
use Rattle.list_nodes.specs.Placements.{page, total, nodes}

-- what a day that isn't refused gives: the plans written, and the total where the list ended; the plans met
-- where it goes on past the page; the plans met before turns ran out
pub data PageTold : Type 0 where
  ended_told : (written total : ℕ) → PageTold
  goes_on_told : (written met : ℕ) → PageTold
  turns_told : (written met : ℕ) → PageTold

-- the page is as request 03 has it: turns did not run out
abbrev pub in_time : PageTold → Bool
in_time (ended_told written total) = true
in_time (goes_on_told written met) = true
in_time (turns_told written met) = false

module _ (day : Day) (first room budget : ℕ) (buffer : List ℕ) where
  -- the buffer with the page's first so many plans at its front; what is past them is unchanged
  unfoldable pub page_put : ℕ → List ℕ
  page_put written = sets buffer 0 (flatten (take written (page day first room)))

  -- what a day that isn't refused may give
  pub data Gives : PageTold → List ℕ → Type 0 where
    -- no plan comes after the page, or the total alone was asked for
    ended : (room ≡ 0) ⊎ (total day ≤ first + room)
        → Gives (ended_told (length (page day first room)) (total day))
        (page_put (length (page day first room)))
    -- the walk met the plan after the page and stopped
    goes_on : 0 < room → first + room < total day → Gives (goes_on_told room (first + room + 1)) (page_put room)
    -- turns ran out, which they never do where request 03's nodes are within the budget
    out : (met : ℕ) → budget < nodes day → met ≤ total day → (room ≡ 0) ⊎ (met ≤ first + room)
        → Gives (turns_told (min room (met - first)) met) (page_put (min room (met - first)))
