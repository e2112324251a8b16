-- What the passes over a roster ask of what they are lent, and hand on to each other.
use Rattle.std.specs.Prelude.{◌≡◌, List, ℕ, ◌*◌, ◌≤◌, length, get_or}
use Rattle.base_lists.specs.Group.{times_in}
use Rattle.roster_rows.specs.Roster.{Roster}

-- the shape of a roster's cells: at most 24 slots and 200 choosers, and S cells for each chooser
pub record Seated (slots choosers : ℕ) (roster : List ℕ) : Type 0 where
  pub few-slots : slots ≤ 24
  pub few-choosers : choosers ≤ 200
  pub cells : length roster ≡ choosers * slots

-- a roster's shape: that of its cells, and at most 64 choices
pub record Shaped (roster : Roster) : Type 0 where
  pub few-choices : roster.choices ≤ 64
  pub seated : Seated roster.slots roster.choosers roster.cells

-- the counts of a list: how often each byte stands in it, by place
pub record Tally (list times : List ℕ) : Type 0 where
  pub entries : length times ≡ 256
  pub counts : (byte : ℕ) → byte ≤ 255 → get_or times byte 0 ≡ times_in byte list
