-- The search as a call: its refusals, lowest number first, its answer and the plan.
use Rattle.std.specs.Prelude.{Bool, true, List, ℕ, suc, ◌-◌, leb, length, Result, Ok, Err}
use Rattle.day_rows.specs.Told.{Told, done, Verdict, refusal_tells, unless, and_then, Outcome, outcome, judged}
use Rattle.day_rows.specs.declared.refusal.Refusal.{Refusal}
use Rattle.sets_analysis.specs.SetsDay as sets
use Rattle.sets_analysis.specs.Kept.{kept_sets}
use Rattle.sets_analysis.specs.declared.analysis.Analysis.{Analysis}
use Rattle.sets_analysis.specs.declared.analysis.Analysis.TheVariants as mode
use Rattle.search_rules.specs.Pass.{plan_of}
use Rattle.search_meaning.specs.Given.{Given, sets_day}
use Rattle.search_meaning.specs.Judged.{day_judged, lent_judged}
use Rattle.search_rules.specs.Passes.{Ending, found, none, out}
use Rattle.search_meaning.specs.Search.{lent_at, ending_of}
use Rattle.search_meaning.specs.declared.settings.Settings.{Settings}
use Rattle.search_meaning.specs.declared.answer.Figures.{Figures}
use Rattle.search_meaning.specs.declared.answer.Searched.{Searched}
use Rattle.search_meaning.specs.declared.answer.Searched.TheVariants as searched

-- ---- the answer

-- 'The result carries turns, passes begun and the last limit'
abbrev pub figures : ℕ → ℕ → ℕ → Figures
figures turns passes limit = record { turns = turns; passes = passes; limit = limit }

-- a plan is found, there is none, or turns ran out
pub data Settled : Type 0 where
  plan : Figures → Settled
  no_plan : Figures → Settled
  out_of_turns : Figures → Settled

-- what a search settles that isn't refused
abbrev pub settled : Searched → Settled
settled (searched.Found figures) = plan figures
settled (searched.None figures) = no_plan figures
settled (searched.OutOfTurns figures) = out_of_turns figures

-- what the answer tells
abbrev pub searched_tells : Result Searched Refusal → Told Settled
searched_tells (Ok answer) = done (settled answer)
searched_tells (Err why) = refusal_tells why

-- the figures of an ending: turns are those of the total budget that aren't left, passes are counted from 1
abbrev pub settled_by : ℕ → Ending → Settled
settled_by total (found left pass limit places) = plan (figures (total - left) (suc pass) limit)
settled_by total (none left pass limit) = no_plan (figures (total - left) (suc pass) limit)
settled_by total (out pass limit) = out_of_turns (figures total (suc pass) limit)

-- the plan at exit: only a plan that is found is written
abbrev pub plan_left : Given → Settings → List ℕ → Ending → List ℕ
plan_left given settings before (found left pass limit places) =
    plan_of (lent_at given settings limit pass) places
plan_left given settings before (none left pass limit) = before
plan_left given settings before (out pass limit) = before

-- ---- the refusals

-- 7: 'over 1,024 sets are kept before simplifying'
abbrev pub sets_fit : sets.SetsDay → Analysis → Bool
sets_fit day mode.Off = true
sets_fit day mode.On = leb (length (kept_sets day)) 1024
sets_fit day mode.Simplified = leb (length (kept_sets day)) 1024

-- 'Lowest number first among those a call can meet': 1, 2, 3, 4, 5, 7, 8, 13, 14
unfoldable pub search_judged : Given → Settings → List ℕ → Verdict
search_judged given settings before =
    and_then (day_judged given before)
    (unless (sets_fit (sets_day given) settings.analysis) 7
    (lent_judged given))

-- ---- the call

-- the search as a call: a refusal, 7 too, leaves the plan untouched, as none and out of turns do
unfoldable pub search_of : Given → Settings → List ℕ → Outcome Settled (List ℕ)
search_of given settings before =
    judged (search_judged given settings before) before
    (let ending = ending_of given settings in
    outcome (done (settled_by settings.total_budget ending)) (plan_left given settings before ending))
