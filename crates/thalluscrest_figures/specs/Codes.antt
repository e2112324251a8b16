-- What a search is asked for, by numbers: each number means something, so that none is refused.
use Rattle.std.specs.Prelude.{Bool, not, cond, ℕ, eqb}
use Rattle.sets_analysis.specs.declared.analysis.Analysis.{Analysis}
use Rattle.sets_analysis.specs.declared.analysis.Analysis.TheVariants as mode
use Rattle.search_meaning.specs.declared.settings.Settings.{Settings}

-- a flag by its number: 0 is no, every other number yes
abbrev pub yes : ℕ → Bool
yes code = not (eqb code 0)

-- 'analysis off, on, or simplified': 0, 1, and every other number
abbrev pub analysis_by : ℕ → Analysis
analysis_by code = cond (eqb code 0) mode.Off (cond (eqb code 1) mode.On mode.Simplified)

-- the settings of a search by their numbers
abbrev pub settings_by : ℕ → ℕ → ℕ → ℕ → ℕ → Settings
settings_by full analysis at_last_level pass_budget total_budget =
    record {
      full = yes full;
      analysis = analysis_by analysis;
      at_last_level = yes at_last_level;
      pass_budget = pass_budget;
      total_budget = total_budget;
    }
