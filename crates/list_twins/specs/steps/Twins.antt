-- Twin slots: which slots are alike for the choices that have no place yet, so that two of them
-- may be exchanged in their places.
use Rattle.std.specs.Prelude.{Bool, true, false, ◌&&◌, ◌||◌, not, cond, List, ℕ, ◌+◌, min, eqb, ltb, leb, length, get_or}
use Rattle.base_lists.specs.Keep.{any_of}
use Rattle.day_rows.specs.Row.{row_of}
use Rattle.day_rows.specs.declared.check.Counts.{Counts}
use Rattle.day_rows.specs.declared.row.Row.{Row}
use Rattle.plan_check.specs.Plan.{slot_of, omitted}
use Rattle.base_choice_sets.specs.Sets.{set_of}

-- '5: right slot minus left slot is the offset': the slot that the one that has its place asks of the other;
-- between two that have none no two slots are alike
unfoldable pub offset_names : List ℕ → Row → ℕ → Bool
offset_names start row slot =
    cond (ltb row.left (length start))
    (not (omitted start row.left) && eqb (slot + 32768) (slot_of start row.left + row.extra))
    (cond (ltb row.right (length start))
    (not (omitted start row.right) && eqb (slot_of start row.right + 32768) (slot + row.extra))
    true)

-- a row tells the slot from others, by its kind
unfoldable pub row_names : List ℕ → Row → ℕ → Bool
row_names start row slot =
    cond (eqb row.kind 1) (eqb row.right slot)
    (cond (eqb row.kind 2) (eqb row.right slot)
    (cond (eqb row.kind 3) (eqb (slot_of start row.left) slot || eqb (slot_of start row.right) slot)
    (cond (eqb row.kind 4) (eqb (slot_of start row.left) slot || eqb (slot_of start row.right) slot)
    (cond (eqb row.kind 5) (offset_names start row slot)
    (cond (eqb row.kind 6) (eqb row.left slot)
    false)))))

-- some row of a list tells the slot from others
unfoldable pub named : List ℕ → List ℕ → ℕ → Bool
named start rows slot = any_of (λ number. row_names start (row_of number) slot) rows

-- two slots of the day that no row tells from others, with equal sums of minimums, and of
-- maximums as far as the choosers go
unfoldable pub twins : ℕ → ℕ → List ℕ → List ℕ → List ℕ → List ℕ → ℕ → ℕ → Bool
twins slots choosers start rows sums fills x y =
    ltb x slots
    && ltb y slots
    && not (named start rows x)
    && not (named start rows y)
    && eqb (get_or sums x 0) (get_or sums y 0)
    && eqb (min (get_or fills x 0) choosers) (min (get_or fills y 0) choosers)

-- a slot's twins as a set; of a day of over 24 slots none
unfoldable pub twins_of : Counts → List ℕ → List ℕ → List ℕ → List ℕ → ℕ → ℕ
twins_of counts start rows sums fills slot =
    cond (leb counts.slots 24)
    (set_of counts.slots (twins counts.slots counts.choosers start rows sums fills slot))
    0

-- two slots exchanged in a place
unfoldable pub exchanged : ℕ → ℕ → ℕ → ℕ
exchanged x y place = cond (eqb place x) y (cond (eqb place y) x place)
