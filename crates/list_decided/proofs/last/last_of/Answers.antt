-- Each kind's arm is its rule.
use Rattle.list_decided.proofs.LastLaws.{other-kind, last_in_slot, last-not_in_slot, last-same-slot, last-not-same-slot, last-offset, last-never}
use Rattle.list_decided.proofs.last.last_of.Goals as goal

pub returns-in-1 : goal.returns-in-1
returns-in-1 c = last_in_slot _ _ _ _ _ _ c.kind_of.ensures c.left_of-left.ensures c.right_of-right.ensures c.in-1.is c.with_slot.ensures

pub returns-in-2 : goal.returns-in-2
returns-in-2 c = last-not_in_slot _ _ _ _ _ _ c.kind_of.ensures c.left_of-left.ensures c.right_of-right.ensures c.in-2.is c.with_slot-in-2.ensures

pub returns-in-3 : goal.returns-in-3
returns-in-3 c = last-same-slot _ _ _ _ _ _ c.kind_of.ensures c.left_of-left.ensures c.right_of-right.ensures c.in-3.is c.later_of.ensures

pub returns-in-4 : goal.returns-in-4
returns-in-4 c = last-not-same-slot _ _ _ _ _ _ c.kind_of.ensures c.left_of-left.ensures c.right_of-right.ensures c.in-4.is c.later_of-in-4.ensures

pub returns-in-5 : goal.returns-in-5
returns-in-5 c = last-offset _ _ _ _ _ _ c.kind_of.ensures c.left_of-left.ensures c.right_of-right.ensures c.in-5.is c.later_of-in-5.ensures

pub returns-in_default : goal.returns-in_default
returns-in_default c = let r = c.in_default.in_default-own.rest in let e = c.kind_of.ensures in last-never _ _ (other-kind e r.0.0.0.0.1) (other-kind e r.0.0.0.1) (other-kind e r.0.0.1) (other-kind e r.0.1) (other-kind e r.1)
