-- Demands 1 and 2, as far as they can be said: what a call hands back, and that its promise settles it; and
-- what the two calls that list say.
use Rattle.std.specs.Prelude.{◌≡◌, ◌⊎◌, ℕ, ◌+◌, ◌-◌, ◌≤◌, ◌<◌, min, length, take}
use mathlib.Core.List.{List, flatten}
use Rattle.std.proofs.lemmas.List.Edits.{sets}
use Rattle.day_rows.specs.Check.{check_of}
use Rattle.day_rows.specs.Told.{Told, done, refused, tells, Outcome, outcome}
use Rattle.day_rows.specs.declared.check.Counts.{Counts}
use Rattle.day_rows.specs.declared.check.Takes.{Takes}
use Rattle.reduce.specs.Reduction.{reduce_of}
use Rattle.plan_check.specs.Day.{Day}
use Rattle.plan_check.specs.Check.{plan_check_of}
use Rattle.sets_analysis.specs.SetsDay.{SetsDay}
use Rattle.sets_analysis.specs.Calls.{Pools, analysis_of}
use Rattle.sets_analysis.specs.declared.analysis.Analysis.{Analysis}
use Rattle.sets_levels.specs.Calls.{level_list_of}
use Rattle.search_map.specs.Map.{Map}
use Rattle.search_map.specs.Calls.{own_map_of}
use Rattle.search_meaning.specs.Given.{Given}
use Rattle.search_meaning.specs.Calls.{searched_tells, search_of}
use Rattle.search_meaning.specs.declared.settings.Settings.{Settings}
use Rattle.search_day.specs.Planning.{plan_day_of}
use Rattle.search_day.specs.declared.given.PlanCounts.{PlanCounts}
use Rattle.roster_check.specs.Sheet.{Sheet}
use Rattle.roster_check.specs.Check.{roster_check_of}
use Rattle.day_file.specs.FileDay.{Parts, FileDay}
use Rattle.day_file.specs.Calls.{read_of}
use Rattle.day_write.specs.Calls.{write_of}
use Rattle.list_nodes.specs.Placements.{page, total, nodes}
use Rattle.list_nodes.specs.Page.{PageTold, ended_told, goes_on_told, turns_told}
use Rattle.list_all.specs.Outcome.{plans_told, listed_tells, list_of}
use Rattle.list_all.specs.Outcome as all
use Rattle.text_plan.specs.Calls.{text_of}

-- what a call hands back tells that it is done, or one of 01's numbers; and no two outcomes, the answer and
-- the lent buffers at exit, fit what it promises
pub record IsSettled {X A B : Type 0} (tells : X → Told A) (promised : Outcome A B) : Type 0 where
  pub numbered : (answer : X) (number : ℕ) (carried : List ℕ) → tells answer ≡ refused number carried
      → (1 ≤ number) × (number ≤ 14)
  pub one : (answer other : X) (after rest : B) → outcome (tells answer) after ≡ promised
      → outcome (tells other) rest ≡ promised → (answer ≡ other) × (after ≡ rest)

-- what a call promises that leaves no buffer
abbrev pub alone : {A : Type 0} → Told A → Outcome A (Unit {0})
alone told = outcome told tt

-- the calls, on any input; `list_page` (below) and `plans_text` are settled but for when turns run out
pub record CallsAreSettled : Type 0 where
  pub read-day : (file : List ℕ) (pools : Parts) → IsSettled tells (read_of file pools)
  pub write_day : (day : FileDay) (pool : List ℕ) → IsSettled tells (write_of day pool)
  pub check-rows : (counts : Counts) (takes : Takes) (rows : List ℕ)
      → IsSettled tells (alone (check_of counts takes rows))
  pub reduce : (counts : Counts) (rows pool : List ℕ) → IsSettled tells (reduce_of counts rows pool)
  pub check-plan : (day : Day) (plan : List ℕ) → IsSettled tells (alone (plan_check_of day plan))
  pub analyze : (day : SetsDay) (mode : Analysis) (lent : Pools)
      → IsSettled tells (analysis_of day mode lent)
  pub level-list : (levels : List ℕ) (count : ℕ) (lent : Pools) (limit : ℕ) (pool : List ℕ)
      → IsSettled tells (level_list_of levels count lent limit pool)
  pub own-map : (counts : Counts) (rows : List ℕ) (pools : Map)
      → IsSettled tells (own_map_of counts rows pools)
  pub search : (given : Given) (settings : Settings) (plan : List ℕ)
      → IsSettled searched_tells (search_of given settings plan)
  pub plan-day : (counts : PlanCounts) (mins maxs optional levels preferences rows orders draws : List ℕ)
      (settings : Settings) (plan : List ℕ)
      → IsSettled searched_tells
      (plan_day_of counts mins maxs optional levels preferences rows orders draws settings plan)
  pub check-roster : (sheet : Sheet) → IsSettled tells (alone (roster_check_of sheet))
  pub list-plans : (day : Day) (first room budget : ℕ) (buffer : List ℕ)
      → IsSettled listed_tells (list_of day first room budget buffer)
  pub plan-text : (file pool : List ℕ) → IsSettled tells (text_of file pool)

module _ (day : Day) (first room budget : ℕ) (buffer : List ℕ) where
  -- the buffer with the first so many plans of the page at its front
  abbrev pub page_in : ℕ → List ℕ
  page_in written = sets buffer 0 (flatten (take written (page day first room)))

  -- `list_plans`: the page and the total, or out of turns, by the number of nodes
  pub record ListedIsTrue : Type 0 where
    pub listed : nodes day ≤ budget → let written = length (page day first room) in
        list_of day first room budget buffer
        ≡ outcome (done (plans_told written (total day) (nodes day))) (page_in written)
    pub out : budget < nodes day → list_of day first room budget buffer ≡ outcome (done all.turns_told) buffer

  -- `list_page`: what it says of the list, and the plans that it leaves
  pub record PageIsTrue (told : PageTold) (after : List ℕ) : Type 0 where
    -- the list ends with the page, or none was asked for: the total is the day's
    pub ended : (written whole : ℕ) → told ≡ ended_told written whole
        → ((room ≡ 0) ⊎ (total day ≤ first + room)) × (whole ≡ total day)
        × (written ≡ length (page day first room)) × (after ≡ page_in written)
    -- the list goes on after a full page
    pub goes_on : (written met : ℕ) → told ≡ goes_on_told written met
        → (first + room < total day) × (met ≡ first + room + 1) × (written ≡ room) × (after ≡ page_in written)
    -- turns ran out, which they don't where the nodes are within the budget
    pub out : (written met : ℕ) → told ≡ turns_told written met
        → (budget < nodes day) × (met ≤ total day) × ((room ≡ 0) ⊎ (met ≤ first + room))
        × (written ≡ min room (met - first)) × (after ≡ page_in written)
