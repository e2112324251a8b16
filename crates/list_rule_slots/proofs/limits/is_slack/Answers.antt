-- The first test that fails decides; past four, the last.
use Rattle.list_rule_slots.proofs.StepLaws.{slack_first, slack_second, slack_third, slack_fourth, slack_by}
use Rattle.list_rule_slots.proofs.limits.is_slack.Goals as goal

pub returns-then-not-op_can : goal.returns-then-not-op_can
returns-then-not-op_can c =
    slack_first _ _ _ _ c.op_can.ensures (c.if-not-op_can.true)

pub returns-then-not-op_can-2 : goal.returns-then-not-op_can-2
returns-then-not-op_can-2 c =
    slack_second _ _ _ _ c.op_can.ensures (c.if-not-op_can.false) _ c.saturating_sub.ensures _ c.op_can-2.ensures (c.if-not-op_can-2.true)

pub returns-then-not-op_can-3 : goal.returns-then-not-op_can-3
returns-then-not-op_can-3 c =
    slack_third _ _ _ _ c.op_can.ensures (c.if-not-op_can.false) _ c.saturating_sub.ensures _ c.op_can-2.ensures (c.if-not-op_can-2.false) _ c.op_can-3.ensures (c.if-not-op_can-3.true)

pub returns-then-not-op_can-4 : goal.returns-then-not-op_can-4
returns-then-not-op_can-4 c =
    slack_fourth _ _ _ _ c.op_can.ensures (c.if-not-op_can.false) _ c.saturating_sub.ensures _ c.op_can-2.ensures (c.if-not-op_can-2.false) _ c.op_can-3.ensures (c.if-not-op_can-3.false) _ c.op_can-4.ensures (c.if-not-op_can-4.true)

pub returns : goal.returns
returns c =
    slack_by _ _ _ _ c.op_can.ensures (c.if-not-op_can.false) _ c.saturating_sub.ensures _ c.op_can-2.ensures (c.if-not-op_can-2.false) _ c.op_can-3.ensures (c.if-not-op_can-3.false) _ c.op_can-4.ensures (c.if-not-op_can-4.false) _ _ c.saturating_sub-2.ensures c.saturating_sub-3.ensures _ c.op_can-5.ensures
