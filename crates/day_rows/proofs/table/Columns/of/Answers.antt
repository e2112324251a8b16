-- Below the table's length the entry is the definition's; past it both are refused.
use mathlib.Core.Path.{sym}
use lib.ListN.{get_or-eq_default}
use Rattle.day_rows.specs.Kinds.{kinds, columns_of, line}
use Rattle.day_rows.specs.declared.table.Part.TheVariants.{Refused}
use Rattle.day_rows.specs.declared.table.Name.TheVariants.{None}
use Rattle.base_lists.proofs.Lists.{get_d_any}
use Rattle.day_rows.proofs.table.Columns.of.Goals as goal

pub returns-then-at-ge16 : goal.returns-then-at-ge16
unfolding columns_of kinds
returns-then-at-ge16 c = sym (get_or-eq_default kinds (line Refused None None None) c.if-at-ge16.true)

pub returns : goal.returns
unfolding columns_of kinds
returns c = get_d_any kinds _ _ _ c.if-at-ge16.false
