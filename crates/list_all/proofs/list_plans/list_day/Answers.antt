-- The first run settles the turns, and its nodes bound the total.
use Rattle.list_nodes.proofs.NodeLaws.{over_budget, within_budget}
use Rattle.list_all.proofs.CallLaws.{turns-told, total-fits, plans-told}
use Rattle.list_all.proofs.list_plans.list_day.Goals as goal

pub returns-in_default : goal.returns-in_default
returns-in_default c =
    let s = c in
    let over = over_budget _ _ _ s.requires s.args.budget c.count_nodes.ensures c.in_default.is in
    turns-told _ _ _ s.requires _ s.args.budget over

pub list_all-total-requires : goal.list_all-total-requires
list_all-total-requires c =
    let s = c in
    let within = within_budget _ _ _ s.requires s.args.budget c.count_nodes.ensures c.in-Some.is in
    (s.requires, total-fits _ _ _ s.requires s.args.budget within s.ranges.budget.fits)

pub returns : goal.returns
returns c =
    let s = c in
    let within = within_budget _ _ _ s.requires s.args.budget c.count_nodes.ensures c.in-Some.is in
    plans-told _ _ _ s.requires s.args.budget within _ c.list_all-total.ensures.0 c.written_of-written.ensures c.list_all-total.ensures.1
