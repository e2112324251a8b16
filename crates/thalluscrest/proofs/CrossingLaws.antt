-- What a call tells in other languages follows from what the library's own call answers and leaves.
use mathlib.Core.Path.{◌≡◌, refl, ◌∙◌, ap}
use mathlib.Core.List.{List}
use Prim.Native.Nat.{ℕ}
use Rattle.thalluscrest_figures.specs.Crossing.{NumberAndFigures, answer, told_figures, Crossed, crossed, across}
use Rattle.thalluscrest_figures.specs.Layouts.{reduction_figures, reduced_across, search_figures, page_figures, paged_figures}
use Rattle.std.specs.Prelude.{Result, Ok, Err}
use Rattle.day_rows.specs.Told.{Told, Outcome, outcome, tells}
use Rattle.day_rows.specs.declared.refusal.Refusal.{Refusal}
use Rattle.list_all.specs.Outcome.{list_tells, listed_tells}
use Rattle.list_all.specs.declared.list_plans.Listed.{Listed}
use Rattle.list_starts.specs.PageAnswer.{page_tells, paged_tells}
use Rattle.list_starts.specs.declared.page_end.Paged.{Paged}
use Rattle.search_meaning.specs.Calls.{settled, searched_tells}
use Rattle.search_meaning.specs.declared.answer.Searched.{Searched}
use Rattle.reduce.specs.declared.Reduction.{Reduction}

-- ---- an enum's figures are those of what it tells

pub searched-through : (answer : Result Searched Refusal) → told_figures (λ searched. search_figures (settled searched)) (tells answer) ≡ told_figures search_figures (searched_tells answer)
searched-through (Ok searched) = refl
searched-through (Err why) = refl

pub listed-through : (answer : Result Listed Refusal) → told_figures (λ listed. page_figures (list_tells listed)) (tells answer) ≡ told_figures page_figures (listed_tells answer)
listed-through (Ok listed) = refl
listed-through (Err why) = refl

pub paged-through : (answer : Result Paged Refusal) → told_figures (λ paged. paged_figures (page_tells paged)) (tells answer) ≡ told_figures paged_figures (paged_tells answer)
paged-through (Ok paged) = refl
paged-through (Err why) = refl

-- an answer with the buffers that the call left
abbrev leaving : {B : Type 0} → B → NumberAndFigures → Crossed B
leaving buffers answered = record { answer = answered; buffers = buffers }

module _ {number : ℕ} {figures : List ℕ} where
  -- a call whose figures tell its answer crosses as the library's own outcome does
  pub crosses : {A B : Type 0} (layout : A → List ℕ) (known : Told A) (buffers : B) {expected : Outcome A B}
      → answer number figures ≡ told_figures layout known → outcome known buffers ≡ expected → crossed number figures buffers ≡ across layout expected
  crosses layout known buffers a e = ap (leaving buffers) a ∙ ap (across layout) e

  -- a reduction's lists are counted in the pool that it left
  pub reduction-crosses : (known : Told Reduction) (pool : List ℕ) {expected : Outcome Reduction (List ℕ)}
      → answer number figures ≡ told_figures (reduction_figures pool) known → outcome known pool ≡ expected → crossed number figures pool ≡ reduced_across expected
  reduction-crosses known pool a e = ap (leaving pool) a ∙ ap reduced_across e
