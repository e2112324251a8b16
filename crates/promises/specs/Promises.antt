-- What Thalluscrest promises, on one page, in the order in which a hospital would ask. The last record,
-- `Promised`, says of what each statement holds; `proofs/Kept.antt` proves it by citing the crates' laws.
--
-- A choice is a station, a slot a block of the day, a chooser a trainee: C, S and H of them, and L levels. A
-- plan has a place for each station, a block or 255 for left out; a rule is a row. `get_or l i d`: entry i of l
-- (d past its end); `List.Memᴰ x l`: x stands in l; `A ↔ B`: A exactly if B; `(x : A) × B`: an x with B.
use Rattle.std.specs.Prelude.{◌≡◌, Bool, true, ◌↔◌, ◌⊎◌, ℕ, ◌+◌, ◌-◌, ◌≤◌, ◌<◌, length, get_or, take}
use mathlib.Core.List.{List, [], ◌++◌, Memᴰ}
use Rattle.base_lists.specs.Pool.{pad}
use Rattle.day_rows.specs.Check.{counts_in_range, rows_judged}
use Rattle.day_rows.specs.Row.{row_of, signed_columns, earlier}
use Rattle.day_rows.specs.Told.{done, good, outcome}
use Rattle.day_rows.specs.declared.check.Counts.{Counts}
use Rattle.day_rows.specs.declared.check.Takes.TheVariants as takes
use Rattle.day_rows.specs.declared.row.Row.{Row}
use Rattle.reduce_turn.specs.Turn.{kind_of, turned_row, clash_of}
use Rattle.reduce.specs.Reduction.{reduced_rows, search_list, roster_list}
use Rattle.plan_check.specs.Day.{Day}
use Rattle.plan_check.specs.Plan.{slot_of, sum_in}
use Rattle.plan_check.specs.Check.{plan_check_of}
use Rattle.search_meaning.specs.Given.{Given, plan_day}
use Rattle.search_meaning.specs.Calls.{Settled, plan, no_plan, out_of_turns, search_of}
use Rattle.search_meaning.specs.Demand.{OwnMap}
use Rattle.search_meaning.specs.declared.answer.Figures.{Figures}
use Rattle.search_meaning.specs.declared.settings.Settings.{Settings}
use Rattle.search_day.specs.Planning.{given_own, plan_day_of}
use Rattle.search_day.specs.declared.given.PlanCounts.{PlanCounts}
use Rattle.day_file.specs.FileDay.{Parts, FileDay, is_day, pools_full, padded}
use Rattle.day_file.specs.File.{day_in, longest_file}
use Rattle.day_file.specs.Calls.{file_judged, read_of}
use Rattle.day_file.specs.declared.counts.FileCounts.{FileCounts}
use Rattle.day_write.specs.Calls.{write_of}
use Rattle.list_nodes.specs.Placements.{plans, page, total, nodes}
use Rattle.list_nodes.specs.Judge.{judge_of}
use Rattle.list_nodes.specs.Page.{PageTold}
use Rattle.list_page.specs.Page.{Fits}
use Rattle.text_lines.specs.Text.{ascii, refused_text}
use Rattle.text_lines.specs.PlanLines.{figures_text, choice_lines}
use Rattle.text_lines.specs.PlansLines.{page_text}
use Rattle.text_plans.specs.PlansAnswer.{file_day}
use Rattle.text_plans.specs.Calls.{Prints}
use Rattle.text_plan.specs.Calls.{plan_text, text_of}
use Rattle.promises.specs.Words.{Keeps, RuleAsks, Before, Begins, enough_turns, Clashes, Linked, groups, MadeOf}
use Rattle.promises.specs.Calls.{CallsAreSettled, ListedIsTrue, PageIsTrue}

-- ---- 1. What is a plan?

-- a plan by which a day can be held (what each kind of rule asks of it: `RuleAsks` in Words.antt)
pub record PlanOf (day : Day) (plan : List ℕ) : Type 0 where
  pub long : length plan ≡ day.counts.choices
  -- each station stands in a block of the day, or is left out and optional
  pub places : (station : ℕ) → station < day.counts.choices → (slot_of plan station < day.counts.slots)
      ⊎ ((slot_of plan station ≡ 255) × (get_or day.optional station 0 ≡ 1))
  -- the whole course has room in each block: minimums sum to at most H there, and maximums to at least H
  pub sums : (block : ℕ) → block < day.counts.slots
      → (sum_in day.mins plan block ≤ day.counts.choosers)
      × (day.counts.choosers ≤ sum_in day.maxs plan block)
  -- every rule is kept
  pub rules : (i : ℕ) → i < length day.rows → Keeps plan (row_of (get_or day.rows i 0))

-- ---- 2. Can I believe the sheet that `plan` prints?

-- what it prints for a file is true of the day in it, whose rules are the search's after reduction (5.)
pub record SheetIsTrue (file : List ℕ) : Type 0 where
  -- after `result found` come the figures and a line a station; what these lines say is a plan of the day
  pub found : Begins (plan_text file) "result found\n"
      → (figures : Figures) × (plan : List ℕ) × PlanOf (file_day file) plan
      × (plan_text file ≡ ascii "result found\n"
      ++ (figures_text figures.turns figures.passes figures.limit ++ choice_lines 0 plan))
  -- `result none`: the day has no plan
  pub none : Begins (plan_text file) "result none\n" → (plan : List ℕ) → PlanOf (file_day file) plan → ⊥
  -- `result turns`: a million turns are fewer than the (L+1)(2T+1) that always settle it
  pub turns : Begins (plan_text file) "result turns\n" → let counts = (day_in file).counts in
      1000000 < enough_turns counts.choices counts.slots counts.levels
  -- `result clash`: a rule says of two different blocks that they have the same stations
  pub clash : Begins (plan_text file) "result clash\n" → Clashes (day_in file).lists.rows
  -- `result refused N`: where the file is good, its day is too large, 6 or 7
  pub refusal : Begins (plan_text file) "result refused " → (number : ℕ) × (plan_text file ≡ refused_text number)
      × (length file ≤ longest_file → file_judged file ≡ good → (number ≡ 6) ⊎ (number ≡ 7))
  -- it begins in no other way, and the 1,311 bytes that are lent for it hold all of it
  pub one_of : Begins (plan_text file) "result found\n" ⊎ (Begins (plan_text file) "result none\n"
      ⊎ (Begins (plan_text file) "result turns\n" ⊎ (Begins (plan_text file) "result clash\n"
      ⊎ Begins (plan_text file) "result refused ")))
  pub whole : (pool : List ℕ) → length pool ≡ 1311 → (length (plan_text file) ≤ 1311)
      × (text_of file pool ≡ outcome (done (length (plan_text file))) (pad 1311 (plan_text file)))

-- ---- 3. Does it settle every day? (demand 3)

-- the full search with its own map, allowed so many turns: its answer, and the plan that it leaves
pub record SearchSettles (given : Given) (turns : ℕ) (answer : Settled) (after : List ℕ) : Type 0 where
  -- on any number of turns a plan given is a plan of the day, and a none is true
  pub found : (figures : Figures) → answer ≡ plan figures → PlanOf (plan_day given) after
  pub none : (figures : Figures) → answer ≡ no_plan figures → (list : List ℕ) → PlanOf (plan_day given) list → ⊥
  -- with (L+1)(2T+1) turns it never runs out of them, and gives a plan exactly if one exists
  pub never-out : enough_turns given.counts.choices given.counts.slots given.counts.levels ≤ turns
      → (figures : Figures) → answer ≡ out_of_turns figures → ⊥
  pub exactly : enough_turns given.counts.choices given.counts.slots given.counts.levels ≤ turns
      → ((figures : Figures) × (answer ≡ plan figures)) ↔ ((list : List ℕ) × PlanOf (plan_day given) list)

-- ---- 4. Does `plans` list them all?

-- the list has each plan of the day once and nothing else, in dictionary order; pages joined are the list
pub record ListIsAll (day : Day) : Type 0 where
  pub every : (plan : List ℕ) → Memᴰ plan (plans day) ↔ PlanOf day plan
  pub in_order : (i j : ℕ) → i < j → j < total day → Before (get_or (plans day) i []) (get_or (plans day) j [])
  pub once : (i j : ℕ) → i < total day → j < total day → get_or (plans day) i [] ≡ get_or (plans day) j [] → i ≡ j
  pub joined : (first room more : ℕ)
      → page day first room ++ page day (first + room) more ≡ page day first (room + more)
  pub whole : (room : ℕ) → total day ≤ room → page day 0 room ≡ plans day

-- what `plans` prints for a file, a first plan's number, a room in plans and a budget of turns
pub record ListTextIsTrue (file : List ℕ) (first room budget : ℕ) (text : List ℕ) : Type 0 where
  -- `total 0`: the day has no plan
  pub none : text ≡ ascii "result listed\ntotal 0\n" → (plan : List ℕ) → PlanOf (file_day file) plan → ⊥
  -- `result listed`: the total and the page, which ends the list; or `at least`, and the list goes on
  pub listed : Begins text "result listed\n" → let day = file_day file in
      (((room ≡ 0) ⊎ (total day ≤ first + room))
      × (text ≡ page_text (ascii "result listed\ntotal ") first (total day) (page day first room)))
      ⊎ ((first + room < total day) × (text
      ≡ page_text (ascii "result listed\ntotal at least ") first (first + room + 1) (page day first room)))
  -- `result turns`: the first plans of the page, and the day has at least as many plans as it says
  pub turns : Begins text "result turns\n" → let day = file_day file in
      (met : ℕ) × (met ≤ total day) × (budget < nodes day) × (text
      ≡ page_text (ascii "result turns\ntotal at least ") first met (take (met - first) (page day first room)))
  -- `result clash` and `result refused N` as above; a good file is refused by 6 alone
  pub clash : Begins text "result clash\n" → Clashes (day_in file).lists.rows
  pub refusal : Begins text "result refused " → (number : ℕ) × (text ≡ refused_text number)
      × (length file ≤ longest_file → file_judged file ≡ good → number ≡ 6)
  pub one_of : Begins text "result listed\n" ⊎ (Begins text "result turns\n"
      ⊎ (Begins text "result clash\n" ⊎ Begins text "result refused "))
  -- but for turns there is one text for the file and the page, whatever the budget; the pool holds all of it
  pub one : (other : List ℕ) (more : ℕ) → Prints file first room more other
      → (Begins text "result turns\n" → ⊥) → (Begins other "result turns\n" → ⊥) → text ≡ other
  pub whole : room ≤ 1024 → length text ≤ 288818

-- ---- 5. What becomes of the rules as given?

-- the reduction of rules: those that 01 makes of them (`MadeOf` in Words.antt), each once, in 01's order
pub record RulesAreReduced (counts : Counts) (given : List ℕ) : Type 0 where
  pub every : (rule : ℕ) → Memᴰ rule (reduced_rows counts given) ↔ MadeOf counts given rule
  pub in_order : (i j : ℕ) → i < j → j < length (reduced_rows counts given)
      → let rules = reduced_rows counts given in
      earlier (signed_columns (row_of (get_or rules i 0))) (signed_columns (row_of (get_or rules j 0))) ≡ true
  pub clash : (clash_of given ≡ true) ↔ Clashes given
  -- the rest is of rules that aren't refused: a group is what rules of kind 10 link
  pub grouped : counts_in_range counts takes.Given ≡ true → rows_judged counts takes.Given given ≡ good
      → (one other : ℕ) → one < counts.choices → other < counts.choices
      → ((group : List ℕ) × Memᴰ group (groups counts given) × Memᴰ one group
      × Memᴰ other group) ↔ Linked given one other
  -- the search's rules come first, then the roster's
  pub lists : counts_in_range counts takes.Given ≡ true → rows_judged counts takes.Given given ≡ good
      → let rules = reduced_rows counts given in rules ≡ search_list rules ++ roster_list rules
  -- a plan that keeps the search's rules keeps each given rule of kinds 1 to 8
  pub kept : rows_judged counts takes.Given given ≡ good → (plan : List ℕ)
      → let rules = search_list (reduced_rows counts given) in
      ((i : ℕ) → i < length rules → Keeps plan (row_of (get_or rules i 0)))
      → (rule : ℕ) → Memᴰ rule given → kind_of rule ≤ 8 → Keeps plan (row_of (turned_row rule))

-- ---- 6. Are files safe?

-- every day can be written, and what is written is read back as the same day
abbrev pub WrittenIsRead : FileDay → Type 0
WrittenIsRead day =
    is_day day ≡ true → (pool : List ℕ) → length pool ≡ longest_file → (pools : Parts) → pools_full pools ≡ true
    → (size : ℕ) × (after : List ℕ) × (write_of day pool ≡ outcome (done size) after)
    × (read_of (take size after) pools ≡ outcome (done day.counts) (padded day.lists))

-- a file that is read is written back byte for byte
abbrev pub ReadIsWritten : List ℕ → Type 0
ReadIsWritten file =
    ((i : ℕ) → get_or file i 0 < 256) → (pools after : Parts) (counts : FileCounts)
    → read_of file pools ≡ outcome (done counts) after → (pool : List ℕ) → length pool ≡ longest_file
    → (counts ≡ (day_in file).counts) × (after ≡ padded (day_in file).lists)
    × (write_of (day_in file) pool ≡ outcome (done (length file)) (pad longest_file file))

-- ---- 7. Can I give it anything? (demands 1 and 2)

-- Demand 1 can't be a statement: that every public function ends, whatever it is given, and none has a
-- `requires`, is what the prover admits and what the sources show. What can be said is in Calls.antt: each
-- call is done or hands back one of 01's numbers, and no two outcomes fit what it promises.

-- ---- all of it

-- Of any input. What is promised by which call: `plan_text` and `text_of` by plan_text, `search_of` by search,
-- `plan_day_of` by plan_day, `Fits` by list_page, `Prints` by plans_text, `list_of` by list_plans, `reduced_rows`
-- by reduce, `plan_check_of` by check_plan, `write_of` and `read_of` by write_day and read_day.
pub record Promised : Type 0 where
  pub rule : (plan : List ℕ) (rule : Row) → RuleAsks plan rule
  -- the plan check, where it doesn't refuse, says yes to plans of the day and to nothing else
  pub check : (day : Day) (plan : List ℕ) (passes : Bool) → plan_check_of day plan ≡ done passes
      → (passes ≡ true) ↔ PlanOf day plan
  pub sheet : (file : List ℕ) → SheetIsTrue file
  -- the search, full and with the map that the map builder writes, whatever else it is lent; and `plan_day`
  pub settles : (given : Given) (settings : Settings) (before : List ℕ) → settings.full ≡ true → OwnMap given
      → (answer : Settled) (after : List ℕ) → outcome (done answer) after ≡ search_of given settings before
      → SearchSettles given settings.total_budget answer after
  pub plans-day : (counts : PlanCounts) (mins maxs optional levels preferences rows orders draws : List ℕ)
      (settings : Settings) (before : List ℕ) → settings.full ≡ true → (answer : Settled) (after : List ℕ)
      → outcome (done answer) after
      ≡ plan_day_of counts mins maxs optional levels preferences rows orders draws settings before
      → SearchSettles (given_own counts mins maxs optional levels preferences rows orders draws)
      settings.total_budget answer after
  pub list : (day : Day) → day.counts.slots ≤ 24 → ListIsAll day
  pub listed : (day : Day) (first room budget : ℕ) (buffer : List ℕ) → judge_of day room (length buffer) ≡ good
      → ListedIsTrue day first room budget buffer
  pub page : (day : Day) (first room budget : ℕ) (buffer : List ℕ) (told : PageTold) (after : List ℕ)
      → Fits day first room budget buffer (done told) after
      → PageIsTrue day first room budget buffer told after
  pub text : (file : List ℕ) (first room budget : ℕ) (text : List ℕ) → Prints file first room budget text
      → ListTextIsTrue file first room budget text
  pub rules : (counts : Counts) (given : List ℕ) → RulesAreReduced counts given
  pub written : (day : FileDay) → WrittenIsRead day
  pub read : (file : List ℕ) → ReadIsWritten file
  pub calls : CallsAreSettled
