-- What rows that are decided with the next choice leave of its places, by where the others stand.
use Rattle.std.specs.Prelude.{Bool, true, false, ◌&&◌, cond, List, [], ◌∷◌, ℕ, ◌+◌, ◌-◌, eqb, ltb, leb}
use Rattle.day_rows.specs.Row.{row_of}
use Rattle.day_rows.specs.declared.row.Row.{Row}
use Rattle.plan_check.specs.Plan.{slot_of}
use Rattle.list_domains.specs.steps.Domains.{place_number, kept_places}

-- where the other choice of a row stands
unfoldable pub other_place : ℕ → List ℕ → Row → ℕ
other_place choice plan row = slot_of plan (cond (eqb row.left choice) row.right row.left)

-- what a row of kind 3 leaves of the choice's places: the place of the other choice alone
unfoldable pub beside_place : ℕ → ℕ → ℕ → ℕ
beside_place slots place domain = kept_places domain (place_number slots place) true false

-- what a row of kind 4 leaves of the choice's places: any place but the other choice's slot
unfoldable pub apart_from : ℕ → ℕ → ℕ → ℕ
apart_from slots place domain = cond (ltb place slots) (kept_places domain place false true) domain

-- of a domain the slot with the number up less down alone, if it is one of the day's
unfoldable pub facing : ℕ → ℕ → ℕ → ℕ → ℕ
facing slots up down domain =
    cond (leb down up && ltb (up - down) slots) (kept_places domain (up - down) true false) 0

-- what a row of kind 5 leaves of the choice's places: beside an omitted choice omission, else the slot that
-- the offset asks for; extra is the offset plus 32,768
unfoldable pub by_offset : ℕ → Bool → ℕ → ℕ → ℕ → ℕ
by_offset slots is_left place extra domain =
    cond (ltb place slots)
    (cond is_left (facing slots (place + 32768) extra domain) (facing slots (place + extra) 32768 domain))
    (kept_places domain slots true false)

-- what a row leaves of the choice's places, by its kind
unfoldable pub row_leaves : ℕ → ℕ → List ℕ → Row → ℕ → ℕ
row_leaves slots choice plan row domain =
    cond (eqb row.kind 1) (kept_places domain row.right true false)
    (cond (eqb row.kind 2) (kept_places domain row.right false true)
    (cond (eqb row.kind 3) (beside_place slots (other_place choice plan row) domain)
    (cond (eqb row.kind 4) (apart_from slots (other_place choice plan row) domain)
    (cond (eqb row.kind 5)
    (by_offset slots (eqb row.left choice) (other_place choice plan row) row.extra domain)
    domain))))

-- what the rows of a list leave of the choice's places, one after the other
unfoldable pub rows_leave : ℕ → ℕ → List ℕ → List ℕ → ℕ → ℕ
rows_leave slots choice plan [] domain = domain
rows_leave slots choice plan (number ∷ rows) domain =
    rows_leave slots choice plan rows (row_leaves slots choice plan (row_of number) domain)
