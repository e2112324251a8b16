-- What the functions of the two runs hand on to each other.
use Rattle.std.specs.Prelude.{◌≡◌, Bool, true, List, ℕ, ◌+◌, ◌-◌, ◌*◌, ◌≤◌, ◌<◌, ◌^◌, leb, length, get_or, take}
use Rattle.day_rows.specs.Check.{counts_in_range}
use Rattle.day_rows.specs.declared.check.Takes.TheVariants.{Scheduling}
use Rattle.plan_check.specs.Day.{Day}
use Rattle.list_nodes.specs.steps.Walk.{place_of, place_fits, put_plans}

-- a day's shape, and sums that no slot has over the headcount
pub record Walks (slots choosers : ℕ) (mins optional : List ℕ) (choice : ℕ) (sums : List ℕ) : Type 0 where
  pub few-choices : length mins ≤ 64
  pub few-slots : slots ≤ 24
  pub few-choosers : choosers ≤ 200
  pub flags : length optional ≡ length mins
  pub within : choice ≤ length mins
  pub entries : length sums ≡ 24
  pub low : (slot : ℕ) → get_or sums slot 0 ≤ choosers

-- the budget holds for these nodes or doesn't; if it does they are spent, and the sums are as before
pub record Counted (nodes before after : ℕ) (sums sums' : List ℕ) (holds : Bool) : Type 0 where
  pub answer : holds ≡ leb nodes before
  pub spent : holds ≡ true → before ≡ nodes + after
  pub kept : holds ≡ true → sums' ≡ sums

-- a choice that stands at a position: its minimum is in the sum of its slot
pub record Stands (slots : ℕ) (mins : List ℕ) (choice at : ℕ) (sums : List ℕ) : Type 0 where
  pub few-slots : slots ≤ 24
  pub few-choices : length mins ≤ 64
  pub within : choice < length mins
  pub so_far : at ≤ slots
  pub held : at < slots → get_or mins choice 0 ≤ get_or sums at 0

-- a day's shape, with a plan and a page of it
pub record Shaped (day : Day) (room : ℕ) (plan buffer : List ℕ) : Type 0 where
  pub few-choices : day.counts.choices ≤ 64
  pub few-slots : day.counts.slots ≤ 24
  pub mins-fit : length day.mins ≡ day.counts.choices
  pub maxs-fit : length day.maxs ≡ day.counts.choices
  pub optional-fits : length day.optional ≡ day.counts.choices
  pub plan-fits : length plan ≡ day.counts.choices
  pub buffer-fits : length buffer ≡ room * day.counts.choices

-- what the second run needs: the shapes, the sums, and numbers for the plans to come
pub record Lists (day : Day) (room choice : ℕ) (plan sums : List ℕ) (plans : List (List ℕ)) (total : ℕ)
    (buffer : List ℕ) : Type 0 where
  pub shaped : Shaped day room plan buffer
  pub walks : Walks day.counts.slots day.counts.choosers day.mins day.optional choice sums
  pub numbers : total + length plans < 2 ^ 64

-- these plans are counted, and stand on the page where they belong there
pub record Added (first room : ℕ) (plans : List (List ℕ)) (total total' : ℕ)
    (buffer buffer' : List ℕ) : Type 0 where
  pub counted : total' ≡ total + length plans
  pub written : buffer' ≡ put_plans first room buffer total plans

-- these plans are counted and written, and the start, the sums and the plan's length are as before
pub record Listing (first room choice : ℕ) (plans : List (List ℕ)) (plan plan' sums sums' : List ℕ)
    (total total' : ℕ) (buffer buffer' : List ℕ) : Type 0 where
  pub added : Added first room plans total total' buffer buffer'
  pub start : take choice plan' ≡ take choice plan
  pub kept : sums' ≡ sums
  pub same-plan : length plan' ≡ length plan

-- a place is left, and the choice may take it
pub record Open (day : Day) (choice left : ℕ) (sums : List ℕ) : Type 0 where
  pub some : 0 < left
  pub few : left ≤ day.counts.slots + 1
  pub fits : place_fits day.counts.slots day.counts.choosers day.mins day.optional sums choice
      (place_of day.counts.slots (day.counts.slots + 1 - left)) ≡ true

-- a day that isn't refused: its counts are in range, and every lent slice is as long as they say
pub record Judged (day : Day) (room : ℕ) (buffer : List ℕ) : Type 0 where
  pub in_range : counts_in_range day.counts Scheduling ≡ true
  pub few-choices : day.counts.choices ≤ 64
  pub few-slots : day.counts.slots ≤ 24
  pub few-choosers : day.counts.choosers ≤ 200
  pub mins-fit : length day.mins ≡ day.counts.choices
  pub maxs-fit : length day.maxs ≡ day.counts.choices
  pub optional-fits : length day.optional ≡ day.counts.choices
  pub buffer-fits : length buffer ≡ room * day.counts.choices
