-- A roster as its rows are asked of it.
use Rattle.std.specs.Prelude.{List, ℕ}
use Rattle.roster_rows.specs.declared.roster.Roster as lent

-- a roster: C, S and H; 'A plan gives each choice a slot or 255 for omitted'; the S cells of each chooser
pub record Roster : Type 0 where
  pub choices : ℕ
  pub slots : ℕ
  pub choosers : ℕ
  pub plan : List ℕ
  pub cells : List ℕ

-- the roster of these parts
abbrev pub roster_of : ℕ → ℕ → ℕ → List ℕ → List ℕ → Roster
roster_of choices slots choosers plan cells =
    record { choices = choices; slots = slots; choosers = choosers; plan = plan; cells = cells }

-- the roster that a call is lent
abbrev pub roster_lent : lent.Roster → Roster
roster_lent roster = roster_of roster.choices roster.slots roster.choosers roster.plan.now roster.cells.now
