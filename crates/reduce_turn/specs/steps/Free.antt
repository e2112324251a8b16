-- 'New rows go into the free end of the lent pool': what a stage does to it.
use Rattle.std.specs.Prelude.{◌≡◌, List, ℕ, ◌+◌, ◌-◌, ◌^◌, ◌<◌, min, length, set}
use Rattle.std.proofs.lemmas.List.Edits.{sets}
use Rattle.reduce_turn.specs.declared.free.Free.{Free}

-- rows written from a place on, as far as the free end has room, and the place after them
abbrev pub Wrote : List ℕ → ℕ → List ℕ → ℕ → List ℕ → Type 0
Wrote free at rows after exit = (after ≡ at + length rows) × (exit ≡ sets free at rows)

-- rows written from the next place of a free end on, which is still the same end
abbrev pub Filled : Free → List ℕ → Free → Type 0
Filled before rows after =
    (after.rows.ghost_name ≡ before.rows.ghost_name) × Wrote before.rows.now before.at rows after.at after.rows.now

-- one row written at the next place of a free end, which is still the same end; the place goes on as far as a
-- number does
abbrev pub Put : Free → ℕ → Free → Type 0
Put before row after =
    (after.rows.ghost_name ≡ before.rows.ghost_name)
    × (after.rows.now ≡ set before.rows.now before.at row)
    × (after.at ≡ min (before.at + 1) (2 ^ 64 - 1))

-- the place after the rows is a number that fits
abbrev pub Countable : ℕ → List ℕ → Type 0
Countable at rows = at + length rows < 2 ^ 32
