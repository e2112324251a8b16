-- What the roster check answers, of the counts that its lists give.
use mathlib.Core.Path.{◌∙◌, ap}
use Rattle.thalluscrest_figures.specs.Crossing.{told_figures}
use Rattle.thalluscrest_figures.specs.Layouts.{roster_figures}
use Rattle.roster_check.specs.Check.{roster_check_of}
use Rattle.roster_check.specs.Sheet.{sheet_of}
use Rattle.roster_check.specs.declared.roster_check.RosterCounts.{RosterCounts}
use Rattle.thalluscrest.proofs.plans.thalluscrest_check_roster.Goals as goal

pub returns : goal.returns
returns c =
    let s = c in
    c.put.ensures
    ∙ ap (told_figures roster_figures)
    (c.check_roster-checked.ensures
    ∙ ap (λ (counts : RosterCounts). roster_check_of (sheet_of counts s.args.mins.now s.args.maxs.now s.args.levels.now s.args.preferences.now s.args.rows.now s.args.assignment_rows.now s.args.plan.now s.args.roster.now))
    c.roster_counts-counts.ensures)
