-- The words of the page, each in plain mathematics: what a rule asks of a plan, what comes before what, how a
-- text begins, how many turns are enough, and where a rule of the reduction comes from.
use Rattle.std.specs.Prelude.{◌≡◌, true, ◌↔◌, ◌⊎◌, ℕ, ◌+◌, ◌*◌, ◌^◌, ◌≤◌, ◌<◌, ℤ, pos, ◌-ℤ◌, length, get_or, take}
use mathlib.Core.List.{List, Memᴰ}
use Prim.Native.String.{String}
use Rattle.base_lists.specs.Below.{sum_below}
use Rattle.day_rows.specs.Op.{signed_of, eq_op, gt_op, geq_op, neq_op, leq_op, lt_op}
use Rattle.day_rows.specs.Row.{row_number, plain_row}
use Rattle.day_rows.specs.declared.check.Counts.{Counts}
use Rattle.day_rows.specs.declared.row.Row.{Row}
use Rattle.reduce_turn.specs.Turn.{kind_of, left_of, right_of, turned_row, turned_rows}
use Rattle.reduce_added.specs.Groups.{same_choosers}
use Rattle.reduce_added.specs.Pairs.{pair_row, mandatory}
use Rattle.plan_check.specs.Plan.{slot_of, count_in}
use Rattle.plan_check.specs.Rows.{keeps_row}
use Rattle.text_lines.specs.Text.{ascii}

-- ---- rules and plans

-- a plan keeps a rule
abbrev pub Keeps : List ℕ → Row → Type 0
Keeps plan rule = keeps_row plan rule ≡ true

-- two places: both left out, or both blocks, the right one so many after the left one
abbrev pub OffsetBy : ℕ → ℕ → ℤ → Type 0
OffsetBy left right offset =
    ((left ≡ 255) × (right ≡ 255))
    ⊎ ((left ≡ 255 → ⊥) × (right ≡ 255 → ⊥) × (pos right -ℤ pos left ≡ offset))

-- what each kind of rule asks of a plan
pub record RuleAsks (plan : List ℕ) (rule : Row) : Type 0 where
  -- 1: the station stands in that block; 2: it doesn't
  pub in_block : rule.kind ≡ 1 → Keeps plan rule ↔ (slot_of plan rule.left ≡ rule.right)
  pub not_in_block : rule.kind ≡ 2 → Keeps plan rule ↔ (slot_of plan rule.left ≡ rule.right → ⊥)
  -- 3: both stations stand in one block, or both are left out; 4: no block has both
  pub together : rule.kind ≡ 3 → Keeps plan rule ↔ (slot_of plan rule.left ≡ slot_of plan rule.right)
  pub apart : rule.kind ≡ 4 → let left = slot_of plan rule.left in
      Keeps plan rule ↔ (left ≡ slot_of plan rule.right → left ≡ 255)
  -- 5: both are left out, or the right one stands so many blocks after the left one
  pub offset : rule.kind ≡ 5 → let left = slot_of plan rule.left in
      Keeps plan rule ↔ OffsetBy left (slot_of plan rule.right) (signed_of rule.extra)
  -- 6: so many stations stand in the block
  pub equal : rule.kind ≡ 6 → rule.extra ≡ eq_op
      → Keeps plan rule ↔ (count_in plan rule.left ≡ rule.right)
  pub unequal : rule.kind ≡ 6 → rule.extra ≡ neq_op
      → Keeps plan rule ↔ (count_in plan rule.left ≡ rule.right → ⊥)
  pub over : rule.kind ≡ 6 → rule.extra ≡ gt_op
      → Keeps plan rule ↔ (rule.right < count_in plan rule.left)
  pub under : rule.kind ≡ 6 → rule.extra ≡ lt_op
      → Keeps plan rule ↔ (count_in plan rule.left < rule.right)
  pub at_least : rule.kind ≡ 6 → rule.extra ≡ geq_op
      → Keeps plan rule ↔ (rule.right ≤ count_in plan rule.left)
  pub at_most : rule.kind ≡ 6 → rule.extra ≡ leq_op
      → Keeps plan rule ↔ (count_in plan rule.left ≤ rule.right)

-- at the first station where two plans differ one stands earlier; left out (255) is behind every block
abbrev pub Before : List ℕ → List ℕ → Type 0
Before one other =
    (station : ℕ) × (take station one ≡ take station other) × (slot_of one station < slot_of other station)

-- ---- texts and turns

-- a text begins with this line, or with this part of one
abbrev pub Begins : List ℕ → String → Type 0
Begins text line = take (length (ascii line)) text ≡ ascii line

-- (L+1)(2T+1), where T = (S+1) + (S+1)^2 + .. + (S+1)^C
abbrev pub enough_turns : ℕ → ℕ → ℕ → ℕ
enough_turns choices slots levels = (levels + 1) * (2 * sum_below choices (λ i. (slots + 1) ^ (i + 1)) + 1)

-- ---- rules as given, and as reduced

-- a rule of kind 9 says of two different blocks that they have the same stations
abbrev pub Clashes : List ℕ → Type 0
Clashes rules = (rule : ℕ) × Memᴰ rule rules × (kind_of rule ≡ 9) × (left_of rule ≡ right_of rule → ⊥)

-- rules of kind 10 link two stations: they have the same trainees
pub data Linked (rules : List ℕ) : ℕ → ℕ → Type 0 where
  by-rule : (rule : ℕ) → Memᴰ rule rules → kind_of rule ≡ 10 → Linked rules (left_of rule) (right_of rule)
  same : {a b : ℕ} → a ≡ b → Linked rules a b
  back : {a b : ℕ} → Linked rules a b → Linked rules b a
  on : {a b c : ℕ} → Linked rules a b → Linked rules b c → Linked rules a c

module _ (counts : Counts) (given : List ℕ) where
  -- the groups of stations that have the same trainees
  abbrev pub groups : List (List ℕ)
  groups = same_choosers counts.choices (turned_rows given)

  -- the stations that a trainee must visit (kind 11), in the order of the rules
  abbrev pub visits : ℕ → List ℕ
  visits trainee = mandatory (turned_rows given) trainee

  -- where a rule of the reduction comes from
  pub data MadeOf (rule : ℕ) : Type 0 where
    -- a given rule, but for kind 9; kinds 7, 8, 14, 15 become 1, 2, 11, 12 with left and right exchanged
    turned : (row : ℕ) → Memᴰ row given → (kind_of row ≡ 9 → ⊥) → rule ≡ turned_row row → MadeOf rule
    -- kind 4, apart: each two of a group, and each two that one trainee must visit
    of_group : (group : List ℕ) (i j : ℕ) → Memᴰ group groups → i < j → j < length group
        → rule ≡ pair_row (get_or group i 0) (get_or group j 0) → MadeOf rule
    of_trainee : (trainee i j : ℕ) → trainee < counts.choosers → i < j → j < length (visits trainee)
        → rule ≡ pair_row (get_or (visits trainee) i 0) (get_or (visits trainee) j 0) → MadeOf rule
    -- what is asked of a trainee and one station (kinds 11 and 12) is asked of the others of its group
    copied : (row : ℕ) (group : List ℕ) (other : ℕ) → Memᴰ row (turned_rows given)
        → (kind_of row ≡ 11) ⊎ (kind_of row ≡ 12) → Memᴰ group groups → Memᴰ (right_of row) group
        → Memᴰ other group → (other ≡ right_of row → ⊥)
        → rule ≡ row_number (plain_row (kind_of row) (left_of row) other) → MadeOf rule
