use borrow.Author.Rules.{rules}
use Rattle.list_tables.specs.steps.Tables.{written}
use Rattle.list_tables.proofs.TableLaws.{last_step}
use Rattle.list_tables.proofs.rows.fill_last.Goals as goal

pub loop-lack-init : goal.loop-lack-init
unfolding written
loop-lack-init c =
    search rules

pub loop-lack-preserved : goal.loop-lack-preserved
loop-lack-preserved c =
    last_step _ _ _ _ _ c.loop-lack.invariant c.last_entry.ensures
