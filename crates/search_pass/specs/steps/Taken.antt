-- What a pass is lent, once its tests took it.
use Rattle.std.specs.Prelude.{◌≡◌, true, List, ℕ, ◌≤◌, ◌<◌, length, get_or}
use Rattle.search_order.specs.Order.{is_permutation}
use Rattle.search_rules.specs.Pass.{Lent}

-- what a pass is lent is taken: at most 64 choices and 24 slots, an entry for each choice, and an order of
-- the choices
pub record Taken (lent : Lent) : Type 0 where
  pub few-choices : lent.day.counts.choices ≤ 64
  pub few-slots : lent.day.counts.slots ≤ 24
  pub mins-fit : length lent.day.mins ≡ lent.day.counts.choices
  pub maxs-fit : length lent.day.maxs ≡ lent.day.counts.choices
  pub optional-fits : length lent.day.optional ≡ lent.day.counts.choices
  pub ordered : is_permutation lent.day.counts.choices lent.order ≡ true

-- every entry of a list is below a bound
unfoldable pub Within : List ℕ → ℕ → Type 0
Within list bound = (i : ℕ) → i < length list → get_or list i 0 < bound
