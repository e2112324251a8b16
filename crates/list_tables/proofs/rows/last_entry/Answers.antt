-- The row after the last choice, by cases.
use Rattle.list_tables.proofs.TableLaws.{last_none, last_some}
use Rattle.list_tables.proofs.rows.last_entry.Goals as goal

pub returns-then-lack-eq0 : goal.returns-then-lack-eq0
returns-then-lack-eq0 c =
    last_none _ c.if-lack-eq0.true

pub returns : goal.returns
returns c =
    last_some _ c.if-lack-eq0.false
