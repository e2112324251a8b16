-- What the functions of the walk hand on to each other.
use Rattle.std.specs.Prelude.{◌≡◌, ℕ, ◌+◌, ◌-◌, ◌*◌, ◌^◌, ◌<◌, ◌≤◌, true, List, length, take, slice_index}
use Rattle.plan_check.specs.Day.{Day}
use Rattle.plan_check.specs.steps.Sums.{Sums}
use Rattle.base_choice_sets.specs.Sets.{has}
use Rattle.list_nodes.specs.Placements.{is_node}
use Rattle.list_nodes.specs.steps.Walk.{place_of, place_fits}
use Rattle.list_nodes.specs.steps.Runs.{Walks, Shaped}
use Rattle.list_nodes.specs.steps.Alive.{Event}
use Rattle.list_nodes.specs.steps.Run.{Standing, run, goes_on}
use Rattle.list_walk.specs.steps.Sight.{may_take}

-- sums of maximums, no slot's over what so many choices may have
pub record FillsBounded (choices : ℕ) (fills : List ℕ) : Type 0 where
  pub entries : length fills ≡ 24
  pub low : (slot : ℕ) → slice_index fills slot ≤ choices * 65536

-- the walk is ready to go on from a start: the shapes, a node with its sums of minimums and of maximums, a
-- page that isn't over, and numbers for the plans that its turns can meet
pub record WalkReady (day : Day) (first room choice decided : ℕ) (plan sums fills : List ℕ) (turns met : ℕ)
    (buffer : List ℕ) : Type 0 where
  pub shaped : Shaped day room plan buffer
  pub walks : Walks day.counts.slots day.counts.choosers day.mins day.optional choice sums
  pub filled : FillsBounded decided fills
  pub node : is_node day (take decided plan) ≡ true
  pub least : Sums day.mins (take decided plan) sums
  pub most : Sums day.maxs (take decided plan) fills
  pub unfinished : goes_on first room met ≡ true
  pub numbers : met + turns < 2 ^ 64

-- where the walk stands after these events; the start and the sums are as before
pub record Walked (first room choice : ℕ) (events : List Event) (plan plan' sums sums' fills fills' : List ℕ)
    (before after : Standing) : Type 0 where
  pub stands : after ≡ run first room before events
  pub start : take choice plan' ≡ take choice plan
  pub same-sums : sums' ≡ sums
  pub same-fills : fills' ≡ fills
  pub same-plan : length plan' ≡ length plan

-- every place that a domain has fits
unfoldable pub AllFit : ℕ → ℕ → List ℕ → List ℕ → List ℕ → ℕ → ℕ → Type 0
AllFit slots choosers mins optional sums domain choice =
    (at : ℕ) → at ≤ slots → has domain at ≡ true
    → place_fits slots choosers mins optional sums choice (place_of slots at) ≡ true

-- a place is left, the choice may take it, and so it may every place that is open
pub record Takes (day : Day) (choice opened left : ℕ) (sums : List ℕ) : Type 0 where
  pub some : 0 < left
  pub few : left ≤ day.counts.slots + 1
  pub fits : may_take day.counts.slots day.counts.choosers day.mins day.optional sums opened
      choice (place_of day.counts.slots (day.counts.slots + 1 - left)) ≡ true
  pub all_fit : AllFit day.counts.slots day.counts.choosers day.mins day.optional sums opened
      choice
