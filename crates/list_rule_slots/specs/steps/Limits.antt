-- When a limit's pass over the domains can be spared.
use Rattle.std.specs.Prelude.{Bool, ◌&&◌, ℕ, ◌+◌, ◌-◌}
use Rattle.day_rows.specs.declared.row.Row.{Row}
use Rattle.list_rule_slots.specs.steps.SlotRules.{op_can}

-- a limit that can be kept whichever one choice stands in the slot or elsewhere, be it one that may stand
-- there, one that must or one that can't
unfoldable pub limit_idle : Row → ℕ → ℕ → Bool
limit_idle row must may =
    op_can row.extra (must + 1) may row.right && op_can row.extra must (may - 1) row.right
    && op_can row.extra must may row.right && op_can row.extra (must + 1) (may + 1) row.right
    && op_can row.extra (must - 1) (may - 1) row.right
