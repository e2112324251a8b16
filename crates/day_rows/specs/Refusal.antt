-- 'The numbers we hand back': the number of each case, and what 5 carries.
use Rattle.std.specs.Prelude.{List, [], ◌∷◌, ℕ}
use Rattle.day_rows.specs.declared.refusal.Refusal.{Refusal}
use Rattle.day_rows.specs.declared.refusal.Refusal.TheVariants as case

-- 01's number of a refusal
abbrev pub number_of : Refusal → ℕ
number_of case.Count = 1
number_of case.Length = 2
number_of case.Levels = 3
number_of case.Preference = 4
number_of (case.Row row) = 5
number_of case.TooMany = 6
number_of case.Sets = 7
number_of case.Orders = 8
number_of case.PlanCell = 9
number_of case.RosterCell = 10
number_of case.FileLength = 11
number_of case.Version = 12
number_of case.Optional = 13
number_of case.Map = 14

-- what a refusal carries: 5 the first bad row, every other nothing
abbrev pub carried_by : Refusal → List ℕ
carried_by case.Count = []
carried_by case.Length = []
carried_by case.Levels = []
carried_by case.Preference = []
carried_by (case.Row row) = row ∷ []
carried_by case.TooMany = []
carried_by case.Sets = []
carried_by case.Orders = []
carried_by case.PlanCell = []
carried_by case.RosterCell = []
carried_by case.FileLength = []
carried_by case.Version = []
carried_by case.Optional = []
carried_by case.Map = []
