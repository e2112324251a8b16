-- What the functions that fill pools hand on to each other.
use Rattle.std.specs.Prelude.{◌≡◌, Bool, ◌||◌, cond, List, [], ◌∷◌, ◌++◌, ℕ, ◌+◌, ◌-◌, ◌*◌, ◌≤◌, ◌<◌, ltb, leb, length, get_or, take, replicate}
use Rattle.base_lists.specs.Below.{sum_below}
use Rattle.base_lists.specs.Keep.{any_of}
use Rattle.base_choice_sets.specs.Sets.{set_of}
use Rattle.sets_analysis.specs.SetsDay.{SetsDay}
use Rattle.sets_analysis.specs.Kept.{CriticalSet, covered_by, simplified}
use Rattle.sets_analysis.specs.Calls.{sets_in}

-- two pools at their full length, with room for so many sets at their front
pub record Lent (count : ℕ) (masks levels : List ℕ) : Type 0 where
  pub masks-full : length masks ≡ 1024
  pub levels-full : length levels ≡ 1024
  pub few : count ≤ 1024

-- the sets at the front of two pools, handed on without what follows them
pub record Front (masks levels : List ℕ) : Type 0 where
  pub paired : length levels ≡ length masks
  pub few : length masks ≤ 1024

-- what the code asks of a day: counts in range and lengths that fit, as a day that isn't refused has them
pub record Fits (day : SetsDay) : Type 0 where
  pub few-choices : day.counts.choices ≤ 64
  pub few-slots : day.counts.slots ≤ 24
  pub few-choosers : day.counts.choosers ≤ 200
  pub some-levels : 1 ≤ day.counts.levels
  pub mins-fit : length day.mins ≡ day.counts.choices
  pub levels-fit : length day.levels ≡ day.counts.levels
  pub preferences-fit : length day.preferences ≡ day.counts.choosers * day.counts.choices

-- the sets at the front of the pools are these, or a count past 1,024 says that they are too many
pub record KeptIn (sets : List CriticalSet) (count : ℕ) (masks levels : List ℕ) : Type 0 where
  pub here : count ≤ 1024 → sets_in count masks levels ≡ sets
  pub over : 1024 < count → 1024 < length sets

-- a chooser's set of the choices before this one: those with preference <= level, and their sum of min
pub record Looked (level start : ℕ) (mins preferences : List ℕ) (members sum choice : ℕ) : Type 0 where
  pub set : members ≡ set_of choice λ c. leb (get_or preferences (start + c) 0) level
  pub added : sum ≡ sum_below choice λ c. cond (leb (get_or preferences (start + c) 0) level) (get_or mins c 0) 0

-- what is kept after one set more: it is skipped, for its sum of min and the room or as covered, or kept last
unfoldable pub kept_next : ℕ → ℕ → CriticalSet → List CriticalSet → List CriticalSet
kept_next room sum set kept =
    cond (ltb room sum || any_of (λ other. covered_by other set) kept) kept (kept ++ (set ∷ []))

-- a pool of 1,024 entries with zeros from a place on
unfoldable pub cleared_past : ℕ → List ℕ → List ℕ
cleared_past count pool = take count pool ++ replicate (1024 - count) 0

-- the sets, simplified if that is asked
unfoldable pub simplified_if : Bool → List CriticalSet → List CriticalSet
simplified_if asked sets = cond asked (simplified sets) sets
