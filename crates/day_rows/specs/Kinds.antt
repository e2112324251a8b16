-- 'One table of the sixteen kinds fixes what each column may hold'.
use Rattle.std.specs.Prelude.{List, [], ◌∷◌, ℕ, get_or}
use Rattle.day_rows.specs.declared.table.Part.{Part}
use Rattle.day_rows.specs.declared.table.Part.TheVariants.{Refused, GivenOnly, Scheduling, Assignment}
use Rattle.day_rows.specs.declared.table.Name.{Name}
use Rattle.day_rows.specs.declared.table.Name.TheVariants.{None, Choice, Slot, Chooser, Limit, Offset, Op}
use Rattle.day_rows.specs.declared.table.Columns.{Columns}

-- a line of the table: where the kind may stand, then what left, right and extra name
abbrev pub line : Part → Name → Name → Name → Columns
line part left right extra = record { 0 = part; 1 = left; 2 = right; 3 = extra }

-- 01's table: the line of kind k stands at place k
unfoldable pub kinds : List Columns
kinds =
    line Refused None None None  -- 0
    ∷ line Scheduling Choice Slot None  -- 1
    ∷ line Scheduling Choice Slot None  -- 2
    ∷ line Scheduling Choice Choice None  -- 3
    ∷ line Scheduling Choice Choice None  -- 4
    ∷ line Scheduling Choice Choice Offset  -- 5
    ∷ line Scheduling Slot Limit Op  -- 6
    ∷ line GivenOnly Slot Choice None  -- 7
    ∷ line GivenOnly Slot Choice None  -- 8
    ∷ line GivenOnly Slot Slot None  -- 9
    ∷ line Assignment Choice Choice None  -- 10
    ∷ line Assignment Chooser Choice None  -- 11
    ∷ line Assignment Chooser Choice None  -- 12
    ∷ line Assignment Chooser Chooser None  -- 13
    ∷ line GivenOnly Choice Chooser None  -- 14
    ∷ line GivenOnly Choice Chooser None  -- 15
    ∷ []

-- the table's line for a kind; a kind past the table is refused
unfoldable pub columns_of : ℕ → Columns
columns_of kind = get_or kinds kind (line Refused None None None)
