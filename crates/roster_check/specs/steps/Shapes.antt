-- What the passes over a roster ask of what they are lent.
use Rattle.std.specs.Prelude.{◌≡◌, true, ◌≤◌, length}
use Rattle.base_lists.specs.All.{all_of}
use Rattle.plan_check.specs.Check.{cell_fits}
use Rattle.roster_rows.specs.steps.Shapes.{Seated}
use Rattle.roster_check.specs.Sheet.{Sheet}

-- what is judged: at most 64 choices, with a minimum, a maximum and a place for each; S cells for each
-- chooser; every place a slot or 255
pub record Judged (sheet : Sheet) : Type 0 where
  pub few-choices : sheet.counts.choices ≤ 64
  pub mins-fit : length sheet.mins ≡ sheet.counts.choices
  pub maxs-fit : length sheet.maxs ≡ sheet.counts.choices
  pub plan-fits : length sheet.plan ≡ sheet.counts.choices
  pub seated : Seated sheet.counts.slots sheet.counts.choosers sheet.roster
  pub places : all_of (cell_fits sheet.counts.slots) sheet.plan ≡ true
