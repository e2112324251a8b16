-- One law for each way: both answers, the slot alone, elsewhere alone, neither.
use Rattle.list_domains.proofs.PlaceLaws.{kept_by, kept-all, kept_in, kept_out, kept-none}
use borrow.Author.Rules.{rules}
use Rattle.list_domains.proofs.places.kept.Goals as goal

pub returns-then-leaves : goal.returns-then-leaves
returns-then-leaves c = kept_by _ _ _ _ _ _ _ c.if-stands.true c.if-leaves.true (kept-all _ _ (search rules))

pub returns-then-stands : goal.returns-then-stands
returns-then-stands c = kept_by _ _ _ _ _ _ _ c.if-stands.true c.if-leaves.false (kept_in _ _ _ (search rules) c.only.ensures)

pub returns-then-leaves-2 : goal.returns-then-leaves-2
returns-then-leaves-2 c = kept_by _ _ _ _ _ _ _ c.if-stands.false c.if-leaves-2.true (kept_out _ _ _ (search rules) c.only-then-leaves-2.ensures)

pub returns : goal.returns
returns c = kept_by _ _ _ _ _ _ _ c.if-stands.false c.if-leaves-2.false (kept-none _ _)
