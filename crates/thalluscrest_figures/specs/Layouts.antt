-- Which figure says what after each call that isn't refused, from place 0 on.
use Rattle.std.specs.Prelude.{Bool, cond, List, [], ◌∷◌, ℕ, length}
use Rattle.day_rows.specs.Told.{Outcome}
use Rattle.reduce.specs.Reduction.{search_list, roster_list}
use Rattle.reduce.specs.declared.Reduction.{Reduction}
use Rattle.sets_analysis.specs.declared.analysis.Figures as sets
use Rattle.day_file.specs.declared.counts.FileCounts.{FileCounts}
use Rattle.list_all.specs.Outcome.{PageTold, plans_told, turns_told}
use Rattle.list_nodes.specs.Page as walked
use Rattle.search_meaning.specs.Calls.{Settled, plan, no_plan, out_of_turns}
use Rattle.roster_check.specs.declared.roster_check.Scored.{Scored}
use Rattle.thalluscrest_figures.specs.Crossing.{Crossed, across}

-- a flag as a figure: yes is 1, no is 0
abbrev pub flag : Bool → ℕ
flag test = cond test 1 0

-- a day read: C, S, H, L and the number of its rows
abbrev pub day_figures : FileCounts → List ℕ
day_figures counts =
    counts.choices ∷ counts.slots ∷ counts.choosers ∷ counts.levels ∷ counts.rows ∷ 0 ∷ 0 ∷ 0 ∷ []

-- a day written: the file's bytes; an own map: its numbers; a level's list: its sets
abbrev pub one_figure : ℕ → List ℕ
one_figure number = number ∷ 0 ∷ 0 ∷ 0 ∷ 0 ∷ 0 ∷ 0 ∷ 0 ∷ []

-- a reduction: its rows, whether two slots clash, and how many of the rows are the search's, and the
-- roster's, after them
abbrev pub reduction_figures : List ℕ → Reduction → List ℕ
reduction_figures pool reduction =
    reduction.count ∷ flag reduction.clash ∷ length (search_list pool) ∷ length (roster_list pool)
    ∷ 0 ∷ 0 ∷ 0 ∷ 0 ∷ []

-- a reduction as it crosses: its lists are counted in the pool as it leaves it
abbrev pub reduced_across : Outcome Reduction (List ℕ) → Crossed (List ℕ)
reduced_across left = across (reduction_figures left.buffers) left

-- a plan checked: whether it is feasible
abbrev pub check_figures : Bool → List ℕ
check_figures feasible = flag feasible ∷ 0 ∷ 0 ∷ 0 ∷ 0 ∷ 0 ∷ 0 ∷ 0 ∷ []

-- critical sets: how many, and the bound
abbrev pub sets_figures : sets.Figures → List ℕ
sets_figures kept = kept.count ∷ kept.bound ∷ 0 ∷ 0 ∷ 0 ∷ 0 ∷ 0 ∷ 0 ∷ []

-- a search: 0 for none, 1 for found, 2 for out of turns; then 'turns, passes begun and the last limit'
abbrev pub search_figures : Settled → List ℕ
search_figures (no_plan figures) = 0 ∷ figures.turns ∷ figures.passes ∷ figures.limit ∷ 0 ∷ 0 ∷ 0 ∷ 0 ∷ []
search_figures (plan figures) = 1 ∷ figures.turns ∷ figures.passes ∷ figures.limit ∷ 0 ∷ 0 ∷ 0 ∷ 0 ∷ []
search_figures (out_of_turns figures) =
    2 ∷ figures.turns ∷ figures.passes ∷ figures.limit ∷ 0 ∷ 0 ∷ 0 ∷ 0 ∷ []

-- a roster checked: whether it passes, and the highest preference met
abbrev pub roster_figures : Scored → List ℕ
roster_figures scored = flag scored.passed ∷ scored.highest ∷ 0 ∷ 0 ∷ 0 ∷ 0 ∷ 0 ∷ 0 ∷ []

-- plans listed: 1 for a page, with how many plans it has, how many there are and the nodes visited; 2 for out
-- of turns
abbrev pub page_figures : PageTold → List ℕ
page_figures (plans_told written total nodes) = 1 ∷ written ∷ total ∷ nodes ∷ 0 ∷ 0 ∷ 0 ∷ 0 ∷ []
page_figures turns_told = 2 ∷ 0 ∷ 0 ∷ 0 ∷ 0 ∷ 0 ∷ 0 ∷ 0 ∷ []

-- a page of plans: 0 if no plan comes after it, with how many it has and how many there are; 1 if the list
-- goes on, 2 for out of turns, both with how many plans were met
abbrev pub paged_figures : walked.PageTold → List ℕ
paged_figures (walked.ended_told written total) = 0 ∷ written ∷ total ∷ 0 ∷ 0 ∷ 0 ∷ 0 ∷ 0 ∷ []
paged_figures (walked.goes_on_told written met) = 1 ∷ written ∷ met ∷ 0 ∷ 0 ∷ 0 ∷ 0 ∷ 0 ∷ []
paged_figures (walked.turns_told written met) = 2 ∷ written ∷ met ∷ 0 ∷ 0 ∷ 0 ∷ 0 ∷ 0 ∷ []
