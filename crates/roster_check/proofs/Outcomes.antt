-- No two outcomes fit what check_roster promises.
use mathlib.Core.Path.{◌≡◌}
use Rattle.std.specs.Prelude.{Result}
use Rattle.day_rows.specs.Told.{tells}
use Rattle.day_rows.specs.declared.refusal.Refusal.{Refusal}
use Rattle.day_rows.proofs.ToldLaws.{one_told}
use Rattle.roster_check.specs.Sheet.{Sheet}
use Rattle.roster_check.specs.Check.{roster_check_of}
use Rattle.roster_check.specs.declared.roster_check.Scored.{Scored}

-- no two answers fit what check_roster promises
pub roster-settled : (sheet : Sheet) {a b : Result Scored Refusal} → tells a ≡ roster_check_of sheet → tells b ≡ roster_check_of sheet → a ≡ b
roster-settled sheet = one_told
