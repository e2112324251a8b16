-- The three ways out: omitted, too few seats, or what the maximum says.
use borrow.Author.Tests.{le-leb, lt-leb}
use Rattle.roster_rows.proofs.ApartLaws.{choice-omitted, choice-under, choice-most}
use Rattle.roster_rows.proofs.seats.choice_fits.Goals as goal

pub returns-then-place-eq-OMITTED : goal.returns-then-place-eq-OMITTED
returns-then-place-eq-OMITTED c =
    choice-omitted c.args.place c.args.least c.args.most c.args.seats c.if-place-eq-OMITTED.true

pub returns-then-seats-least : goal.returns-then-seats-least
returns-then-seats-least c =
    choice-under c.args.place c.args.least c.args.most c.args.seats c.if-place-eq-OMITTED.false (lt-leb _ _ c.if-seats-least.true)

pub returns : goal.returns
returns c =
    choice-most c.args.place c.args.least c.args.most c.args.seats c.if-place-eq-OMITTED.false (le-leb _ _ c.if-seats-least.false)
