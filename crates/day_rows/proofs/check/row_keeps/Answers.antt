-- Each arm reads the line of the code that it matched, which is the row's kind.
use mathlib.Core.Path.{sym, ◌∙◌, ap}
use Rattle.day_rows.specs.Kinds.{columns_of}
use Rattle.day_rows.proofs.check.row_keeps.Goals as goal

pub keeps_line-requires : goal.keeps_line-requires
keeps_line-requires c =
    c.of.ensures ∙ ap columns_of (sym c.in-1.is ∙ c.kind_of-kind.ensures)

pub keeps_line-requires-in-2 : goal.keeps_line-requires-in-2
keeps_line-requires-in-2 c =
    c.of-in-2.ensures ∙ ap columns_of (sym c.in-2.is ∙ c.kind_of-kind.ensures)

pub keeps_line-requires-in-3 : goal.keeps_line-requires-in-3
keeps_line-requires-in-3 c =
    c.of-in-3.ensures ∙ ap columns_of (sym c.in-3.is ∙ c.kind_of-kind.ensures)

pub keeps_line-requires-in-4 : goal.keeps_line-requires-in-4
keeps_line-requires-in-4 c =
    c.of-in-4.ensures ∙ ap columns_of (sym c.in-4.is ∙ c.kind_of-kind.ensures)

pub keeps_line-requires-in-5 : goal.keeps_line-requires-in-5
keeps_line-requires-in-5 c =
    c.of-in-5.ensures ∙ ap columns_of (sym c.in-5.is ∙ c.kind_of-kind.ensures)

pub keeps_line-requires-in-6 : goal.keeps_line-requires-in-6
keeps_line-requires-in-6 c =
    c.of-in-6.ensures ∙ ap columns_of (sym c.in-6.is ∙ c.kind_of-kind.ensures)

pub keeps_line-requires-in_default : goal.keeps_line-requires-in_default
keeps_line-requires-in_default c =
    c.of-in_default.ensures ∙ ap columns_of c.kind_of-kind.ensures

pub returns-in-1 : goal.returns-in-1
returns-in-1 c =
    c.keeps_line.ensures

pub returns-in-2 : goal.returns-in-2
returns-in-2 c =
    c.keeps_line-in-2.ensures

pub returns-in-3 : goal.returns-in-3
returns-in-3 c =
    c.keeps_line-in-3.ensures

pub returns-in-4 : goal.returns-in-4
returns-in-4 c =
    c.keeps_line-in-4.ensures

pub returns-in-5 : goal.returns-in-5
returns-in-5 c =
    c.keeps_line-in-5.ensures

pub returns-in-6 : goal.returns-in-6
returns-in-6 c =
    c.keeps_line-in-6.ensures

pub returns-in_default : goal.returns-in_default
returns-in_default c =
    c.keeps_line-in_default.ensures
