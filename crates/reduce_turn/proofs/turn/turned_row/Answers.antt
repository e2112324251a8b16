-- In each arm the kind is known.
use Rattle.reduce_turn.proofs.Turning.{turned_7, turned_8, turned_14, turned_15, turned-other}
use Rattle.reduce_turn.proofs.turn.turned_row.Goals as goal

pub returns-in-7 : goal.returns-in-7
returns-in-7 c = turned_7 _ c.from-row.ensures c.in-7.is c.from_slot.ensures

pub returns-in-8 : goal.returns-in-8
returns-in-8 c = turned_8 _ c.from-row.ensures c.in-8.is c.from_slot-in-8.ensures

pub returns-in-14 : goal.returns-in-14
returns-in-14 c = turned_14 _ c.from-row.ensures c.in-14.is c.from_choice.ensures

pub returns-in-15 : goal.returns-in-15
returns-in-15 c = turned_15 _ c.from-row.ensures c.in-15.is c.from_choice-in-15.ensures

pub returns-in_default : goal.returns-in_default
returns-in_default c =
    let r = c.in_default.in_default-own.rest in
    turned-other _ c.from-row.ensures r.0.0.0.1 r.0.0.1 r.0.1 r.1
