-- The figures of a refusal and of a reduction, and the settings of a search by their numbers.
use mathlib.Core.Path.{◌≡◌, refl, ◌∙◌, ap, ap₂}
use mathlib.Core.Bool.{Bool}
use mathlib.Core.List.{List, [], ◌∷◌}
use Prim.Native.Nat.{ℕ}
use lib.ListN.{length}
use Rattle.reduce.specs.declared.Reduction.{Reduction}
use Rattle.sets_analysis.specs.declared.analysis.Analysis.{Analysis}
use Rattle.search_meaning.specs.declared.settings.Settings.{Settings}
use Rattle.thalluscrest_figures.specs.Codes.{yes, analysis_by, settings_by}
use Rattle.thalluscrest_figures.specs.Crossing.{answer, refusal_figures}
use Rattle.thalluscrest_figures.specs.Layouts.{flag, reduction_figures}
use Rattle.thalluscrest_figures.specs.steps.Carried.{row_carried}
use Rattle.thalluscrest_figures.specs.steps.Kinds.{of_kinds}
use Rattle.thalluscrest_figures.proofs.KindLaws.{search-kinds, roster-kinds}

-- what a refusal carries, in its figure
pub carried-figures : (carried : List ℕ) → row_carried carried ∷ 0 ∷ 0 ∷ 0 ∷ 0 ∷ 0 ∷ 0 ∷ 0 ∷ [] ≡ refusal_figures carried
carried-figures [] = refl
carried-figures (row ∷ rest) = refl

-- a refusal's number and its figure
pub refusal-told : {number told row : ℕ} (carried : List ℕ) → number ≡ told → row ≡ row_carried carried
    → answer number (row ∷ 0 ∷ 0 ∷ 0 ∷ 0 ∷ 0 ∷ 0 ∷ 0 ∷ []) ≡ answer told (refusal_figures carried)
refusal-told {number} {told} {row} carried n r =
    ap (λ (k : ℕ). answer k (row ∷ 0 ∷ 0 ∷ 0 ∷ 0 ∷ 0 ∷ 0 ∷ 0 ∷ [])) n
    ∙ ap (λ (k : ℕ). answer told (k ∷ 0 ∷ 0 ∷ 0 ∷ 0 ∷ 0 ∷ 0 ∷ 0 ∷ [])) r
    ∙ ap (answer told) (carried-figures carried)

-- ---- a reduction: its rows, the clash, and the lists counted in its pool

pub reduction-told : (pool : List ℕ) (reduction : Reduction) {clash searched seated : ℕ}
    → clash ≡ flag reduction.clash → searched ≡ length (of_kinds 1 6 pool) → seated ≡ length (of_kinds 10 13 pool)
    → reduction.count ∷ clash ∷ searched ∷ seated ∷ 0 ∷ 0 ∷ 0 ∷ 0 ∷ [] ≡ reduction_figures pool reduction
reduction-told pool reduction {clash} {searched} {seated} c s r =
    ap (λ (n : ℕ). reduction.count ∷ n ∷ searched ∷ seated ∷ 0 ∷ 0 ∷ 0 ∷ 0 ∷ []) c
    ∙ ap₂ (λ (n m : ℕ). reduction.count ∷ flag reduction.clash ∷ n ∷ m ∷ 0 ∷ 0 ∷ 0 ∷ 0 ∷ [])
    (s ∙ ap length (search-kinds pool)) (r ∙ ap length (roster-kinds pool))

-- ---- the settings of a search

abbrev settings : Bool → Analysis → Bool → ℕ → ℕ → Settings
settings full analysis at_last_level pass_budget total_budget =
    record { full = full; analysis = analysis; at_last_level = at_last_level; pass_budget = pass_budget; total_budget = total_budget }

pub settings-told : (full analysis at_last_level pass_budget total_budget : ℕ) {is_full at_last : Bool} {mode : Analysis}
    → is_full ≡ yes full → mode ≡ analysis_by analysis → at_last ≡ yes at_last_level
    → settings is_full mode at_last pass_budget total_budget ≡ settings_by full analysis at_last_level pass_budget total_budget
settings-told full analysis at_last_level pass_budget total_budget {is_full} {at_last} {mode} f a l =
    ap₂ (λ (b : Bool) (m : Analysis). settings b m at_last pass_budget total_budget) f a
    ∙ ap (λ (b : Bool). settings (yes full) (analysis_by analysis) b pass_budget total_budget) l
