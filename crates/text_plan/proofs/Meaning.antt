-- What `result found`, `result none` and `result turns` mean: demand 3 for the program `plan`.
use mathlib.Core.Path.{◌≡◌, refl, sym, ap, subst}
use mathlib.Core.Bool.{Bool, true, false}
use mathlib.Core.List.{List, []}
use Prim.Native.Nat.{ℕ, ◌≤◌, ◌<◌}
use borrow.Author.Tests.{leb-true, leb-false}
use lib.Dec.{leb}
use lib.ListN.{length, replicate}
use Rattle.day_rows.specs.Told.{Told, done, refused, Outcome, outcome}
use Rattle.day_file.specs.FileDay.{Parts}
use Rattle.day_file.specs.File.{day_in}
use Rattle.day_file.specs.declared.counts.FileCounts.{FileCounts}
use Rattle.search_meaning.specs.Calls.{Settled, plan, no_plan, out_of_turns}
use Rattle.search_meaning.specs.Demand.{turns_that_settle, SuchPlan, Settles}
use Rattle.search_day.specs.Planning.{plan_day_of}
use Rattle.text_lines.specs.PlanLines.{found, none, turns}
use Rattle.text_day.specs.Prepared.{Prepared, prepared_of}
use Rattle.text_day.specs.Prepared as prepared
use Rattle.text_plan.specs.PlanAnswer.{plan_settings, plan_counts, told_answer, search_rows, search_answer, day_answer, day_given, answer_by, answer_of}
use Rattle.text_plan.specs.steps.Meaning.{file_given, AnswerMeans}
use Rattle.text_plan.proofs.DayMeans.{called, call_settles}

-- ---- a day

module _ (counts : FileCounts) (lists : Parts) where
  abbrev rows : List ℕ
  rows = search_rows counts lists

  -- the search's call
  abbrev searched : Outcome Settled (List ℕ)
  searched =
      plan_day_of (plan_counts counts (length rows)) lists.mins lists.maxs lists.optional lists.levels lists.preferences rows [] [] plan_settings (replicate counts.choices 0)

  settles : (settled : Settled) → searched.answer ≡ done settled → Settles (day_given counts lists) 1000000 settled searched.buffers
  settles settled e =
      call_settles (plan_counts counts (length rows)) lists.mins lists.maxs lists.optional lists.levels lists.preferences rows [] [] plan_settings (replicate counts.choices 0)
      (called (plan_counts counts (length rows)) lists.mins lists.maxs lists.optional lists.levels lists.preferences rows [] [] plan_settings (replicate counts.choices 0)
      (ap (λ (t : Told Settled). outcome t searched.buffers) (sym e)))
      refl

  -- what the search tells is true
  pub day_means : AnswerMeans (day_given counts lists) (day_answer counts lists)
  unfolding day_answer search_answer
  day_means = go searched.answer refl
    where
      short : (b : Bool) → leb (turns_that_settle (day_given counts lists)) 1000000 ≡ b → (turns_that_settle (day_given counts lists) ≤ 1000000 → ⊥) → 1000000 < turns_that_settle (day_given counts lists)
      short true t n = absurd (n (leb-true _ _ t))
      short false t n = leb-false _ _ t

      go : (t : Told Settled) → searched.answer ≡ t → AnswerMeans (day_given counts lists) (told_answer t searched.buffers)
      go (done (plan figures)) e = (settles (plan figures) e).plan-is figures refl
      go (done (no_plan figures)) e = (settles (no_plan figures) e).none_is figures refl
      go (done (out_of_turns figures)) e =
          short (leb (turns_that_settle (day_given counts lists)) 1000000) refl (λ h. (settles (out_of_turns figures) e).never-out h figures refl)
      go (refused number carried) e = tt

-- ---- a file

-- whatever `plan` answers to a file is true of its day
pub plan_means : (file : List ℕ) → AnswerMeans (file_given file) (answer_of file)
unfolding answer_of
plan_means file = go (prepared_of file)
  where
    go : (p : Prepared) → AnswerMeans (file_given file) (answer_by p (day_answer (day_in file).counts (day_in file).lists))
    go prepared.ready = day_means (day_in file).counts (day_in file).lists
    go prepared.clash = tt
    go (prepared.refused number) = tt

module _ (file : List ℕ) {used passes limit : ℕ} where
  -- `result found`: the plan told keeps the day and every row of its reduction
  pub found_means : {told : List ℕ} → answer_of file ≡ found used passes limit told → SuchPlan (file_given file) told
  found_means e = subst (AnswerMeans (file_given file)) e (plan_means file)

  -- `result none`: no plan does
  pub none_means : answer_of file ≡ none used passes limit → (any : List ℕ) → SuchPlan (file_given file) any → ⊥
  none_means e = subst (AnswerMeans (file_given file)) e (plan_means file)

  -- `result turns`: 1,000,000 turns are fewer than those that always settle it
  pub turns_means : answer_of file ≡ turns used passes limit → 1000000 < turns_that_settle (file_given file)
  turns_means e = subst (AnswerMeans (file_given file)) e (plan_means file)
