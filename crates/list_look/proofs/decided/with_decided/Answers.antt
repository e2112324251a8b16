-- No choice is decided, none that has a domain, or the last one.
use Rattle.list_look.proofs.StepLaws.{none-decided, past-decided, now-decided}
use borrow.Author.Rules.{rules}
use Rattle.list_look.proofs.decided.with_decided.Goals as goal

pub returns-then-choice-eq0 : goal.returns-then-choice-eq0
returns-then-choice-eq0 c =
    none-decided _ _ c.args.domains _ c.if-choice-eq0.true

pub returns-then-choice-gt64 : goal.returns-then-choice-gt64
returns-then-choice-gt64 c =
    past-decided _ _ c.args.domains _ c.if-choice-eq0.false c.if-choice-gt64.true (search rules)

pub returns : goal.returns
returns c =
    now-decided _ _ c.args.domains _ c.if-choice-eq0.false c.slot_of-place.ensures c.from.ensures c.place_number.ensures c.only.ensures
