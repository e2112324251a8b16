-- What the passes of the plan check ask and hand on to each other: the shape of a day, and lists with an
-- entry for each slot.
use Rattle.std.specs.Prelude.{◌≡◌, Bool, true, ◌&&◌, List, ℕ, ◌≤◌, leb, length, get_or}
use Rattle.plan_check.specs.Plan.{count_in, sum_in}
use Rattle.plan_check.specs.Feasible.{places_allowed}

-- the shape of a day: at most 64 choices and 24 slots, and an entry for each choice
pub record Shapes (slots : ℕ) (mins maxs optional plan : List ℕ) : Type 0 where
  pub few-slots : slots ≤ 24
  pub few-choices : length plan ≤ 64
  pub mins-fit : length mins ≡ length plan
  pub maxs-fit : length maxs ≡ length plan
  pub optional-fits : length optional ≡ length plan

-- each slot's sum stands at its place, and 0 past the end
unfoldable pub Sums : List ℕ → List ℕ → List ℕ → Type 0
Sums amounts plan sums = (slot : ℕ) → get_or sums slot 0 ≡ sum_in amounts plan slot

-- each slot's count of choices stands at its place, and 0 past the end
pub record Sizes (plan sizes : List ℕ) : Type 0 where
  pub entries : length sizes ≡ 24
  pub counts : (slot : ℕ) → get_or sizes slot 0 ≡ count_in plan slot

-- what the pass over the choices leaves: whether all places are allowed, and if so, the three lists
pub record Added (slots : ℕ) (mins maxs optional plan : List ℕ) (allowed : Bool)
    (slot_min slot_max sizes : List ℕ) : Type 0 where
  pub answer : allowed ≡ places_allowed slots optional plan
  pub min-sums : allowed ≡ true → Sums mins plan slot_min
  pub max-sums : allowed ≡ true → Sums maxs plan slot_max
  pub counted : allowed ≡ true → Sizes plan sizes

-- a slot's sums fit, as the lists have them
unfoldable pub listed_fits : ℕ → List ℕ → List ℕ → ℕ → Bool
listed_fits choosers slot_min slot_max slot =
    leb (get_or slot_min slot 0) choosers && leb choosers (get_or slot_max slot 0)
