use mathlib.Core.Path.{◌∙◌}
use native.Mathlib.Omega.{arith}
use Rattle.search_turn.proofs.StateLaws.{more_is, down_is, back_none, back_is}
use Rattle.search_turn.proofs.TurnLaws.{turn-deep, turn-back, turn-past, turn-down}
use Rattle.search_turn.proofs.turn.turned.Goals as goal

pub returns-then-depth-ne0 : goal.returns-then-depth-ne0
returns-then-depth-ne0 c =
    record {
      after =
          turn-back _ _ _ _ _ _ _ c.if-depth-le64.true _ c.if-end-depth.true
          (back_is _ _ _ _ _ _ _ _ _ _ _ _ _ c.if-depth-ne0.true c.choice_at-choice.ensures c.amount_at-max.ensures c.clear_at-slot.ensures.0 c.clear_at-slot.ensures.1 c.amount_at.ensures c.take_at.ensures c.take_at-then-depth-ne0.ensures c.take_at-then-depth-ne0-2.ensures (c.saturating_add.ensures ∙ more_is _ _ (omega arith)));
      words = (λ i. omega (arith, c.type_inv.mins i), λ i. omega (arith, c.type_inv.maxs i));
    }

pub returns-else-depth-ne0 : goal.returns-else-depth-ne0
returns-else-depth-ne0 c =
    record {
      after =
          turn-back _ _ _ _ _ _ _ c.if-depth-le64.true _ c.if-end-depth.true (back_none _ _ _ _ c.if-depth-ne0.false);
      words = (λ i. omega (arith, c.type_inv.mins i), λ i. omega (arith, c.type_inv.maxs i));
    }

pub returns-then-at-lt1625 : goal.returns-then-at-lt1625
returns-then-at-lt1625 c =
    record {
      after =
          turn-down _ _ _ _ _ _ _ c.if-depth-le64.true c.if-end-depth.false _ c.if-at-lt1625.true
          (down_is _ _ _ _ _ _ _ _ _ _ _ _ _ _ c.choice_at-choice-then-at-lt1625.ensures c.amount_at-max-then-at-lt1625.ensures c.decide_at-slot.ensures.0 c.decide_at-slot.ensures.1 c.amount_at-then-at-lt1625.ensures c.add_at.ensures c.add_at-then-at-lt1625.ensures c.add_at-then-at-lt1625-2.ensures c.saturating_sub.ensures);
      words = (λ i. omega (arith, c.type_inv.mins i), λ i. omega (arith, c.type_inv.maxs i));
    }

pub returns-else-at-lt1625 : goal.returns-else-at-lt1625
returns-else-at-lt1625 c =
    record {
      after =
          turn-past _ _ _ _ _ _ _ c.if-depth-le64.true c.if-end-depth.false c.if-at-lt1625.false;
      words = (λ i. omega (arith, c.type_inv.mins i), λ i. omega (arith, c.type_inv.maxs i));
    }

pub returns-else-depth-le64 : goal.returns-else-depth-le64
returns-else-depth-le64 c =
    record {
      after =
          turn-deep _ _ _ _ _ _ _ c.if-depth-le64.false;
      words = (λ i. omega (arith, c.type_inv.mins i), λ i. omega (arith, c.type_inv.maxs i));
    }
