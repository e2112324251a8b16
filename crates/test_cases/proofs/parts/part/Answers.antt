-- A place behind the list leaves nothing; else it is the first part of the rest.
use Rattle.std.proofs.Common.{◌∙◌}
use Rattle.test_cases.proofs.PartLaws.{part_none, part-rest}
use Rattle.test_cases.proofs.parts.part.Goals as goal

pub returns-then-list-at : goal.returns-then-list-at
returns-then-list-at g c =
    let e = c in
    c.first.ensures ∙ part_none e.args.list.now e.args.at e.args.n c.if-list-at.true

pub returns : goal.returns
returns g c =
    let e = c in
    c.first-2.ensures ∙ part-rest e.args.list.now e.args.at e.args.n
