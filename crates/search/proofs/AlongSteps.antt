-- The loop over the levels: what is ahead is the whole call.
use mathlib.Core.Path.{◌≡◌, refl, sym, ◌∙◌, ap, ap₂}
use mathlib.Core.Bool.{Bool, true, false, cond}
use mathlib.Core.List.{List, [], ◌∷◌}
use Prim.Native.Nat.{ℕ, suc, ◌+◌, ◌-◌, ◌≤◌, ◌<◌, min}
use native.Mathlib.Numerals.{add-one}
use native.Mathlib.Omega.{arith}
use borrow.Author.Tests.{le-leb, leb-true, leb-false}
use lib.Dec.{leb}
use lib.ListN.{length, get_or, drop, drop_of_length-le}
use lib.Seq.{drop-cons}
use Rattle.base_lists.specs.First.{first_failing}
use Rattle.base_lists.proofs.First.{first_le}
use Rattle.day_rows.specs.Told.{done, outcome}
use Rattle.search_rules.specs.Walk.{Out, hit, dry, cut, turns_left}
use Rattle.search_rules.proofs.Sound.{turns-left}
use Rattle.search_rules.specs.Pass.{Lent, plan_of, sight_at, candidates_at, draw_after, pass_of}
use Rattle.search_pass.specs.steps.Call.{Ended, found, without, wanting, Leaves, leaves, passed_tells, left_by}
use Rattle.search_pass.specs.declared.pass.Passed.{Passed}
use Rattle.search_meaning.specs.declared.answer.Searched.{Searched}
use Rattle.search_rules.specs.Passes.{Ending, passes_from}
use Rattle.search_rules.proofs.PassesLaws.{passes-last-hit, passes-last-dry, passes-last-cut, passes-hit, passes-dry, passes-cut-out, passes-cut-on}
use Rattle.search_meaning.specs.Search.{levels_above}
use Rattle.search_meaning.specs.Calls.{settled}
use Rattle.search_levels.specs.steps.Step.{Follows, answers, goes_on, step_tells, begun_of, step_of}
use Rattle.search_levels.specs.declared.step.Begun.{Begun}
use Rattle.search_levels.specs.declared.step.Step.{Step}
use Rattle.search_levels.specs.declared.step.Step.TheVariants as steps
use Rattle.search.specs.steps.Ground.{Ground, lent_in, pass_in, ending_in, answered, call_in}

-- no more turns are left than a pass had
turns_in : (ground : Ground) (limit pass turns draw : ℕ) → turns_left (pass_in ground limit pass turns draw) ≤ turns
unfolding pass_in pass_of
turns_in ground limit pass turns draw =
    let lent = lent_in ground limit pass in
    turns-left (sight_at lent) (candidates_at lent) (draw_after lent) turns draw

-- how a pass ended, by its end
abbrev ended_by : Out → Ended
ended_by (hit left places draw) = found left draw
ended_by (dry left draw) = without left draw
ended_by (cut draw) = wanting draw

-- the plan that a pass leaves, by its end
abbrev cells_by : Lent → List ℕ → Out → List ℕ
cells_by lent before (hit left places draw) = plan_of lent places
cells_by lent before (dry left draw) = before
cells_by lent before (cut draw) = before

left_by_lem : (lent : Lent) (before : List ℕ) (o : Out) → left_by lent before o ≡ leaves (ended_by o) (cells_by lent before o)
left_by_lem lent before (hit left places draw) = refl
left_by_lem lent before (dry left draw) = refl
left_by_lem lent before (cut draw) = refl

-- ---- the passes from here on are those of the whole call

module _ (ground : Ground) (budget total start : ℕ) (before : List ℕ) where
  pub record Along (limit above left draw pass : ℕ) (now : List ℕ) : Type 0 where
    pub within : above ≤ length ground.levels
    pub ahead : passes_from (pass_in ground) budget (drop above ground.levels) limit pass left draw ≡ ending_in ground budget total start
    pub same-plan : now ≡ before
    pub few-turns : left ≤ total
    pub few-passes : pass ≤ above
    pub few-levels : length ground.levels ≤ 64

  pub along_start : length ground.levels ≤ 64 → {above : ℕ} → above ≡ first_failing (λ level. leb level start) ground.levels → Along start above total 0 0 before
  unfolding ending_in levels_above
  along_start h {above} e =
      record {
        within = rw e (first_le (λ level. leb level start) ground.levels);
        ahead = rw e;
        same-plan = refl;
        few-turns = omega arith;
        few-passes = omega arith;
        few-levels = h;
      }

  -- an ending is answered
  ending_answered : (ending : Ending) → ending ≡ ending_in ground budget total start → answered ground total before ending ≡ call_in ground budget total start before
  unfolding call_in
  ending_answered ending e = ap (answered ground total before) e

  module _ (limit above left draw pass : ℕ) (now : List ℕ) (f : Along limit above left draw pass now) where
    -- what follows the pass: the call's answer, or a higher level and the passes from it on
    abbrev pub After : Follows → List ℕ → Type 0
    After (answers told) after = outcome (done told) after ≡ call_in ground budget total start before
    After (goes_on left' draw') after = (above < length ground.levels) × Along (get_or ground.levels above 0) (above + 1) left' draw' (pass + 1) after

    next : above < length ground.levels → (left' draw' : ℕ) → left' ≤ total
        → passes_from (pass_in ground) budget (drop (suc above) ground.levels) (get_or ground.levels above 0) (suc pass) left' draw' ≡ ending_in ground budget total start
        → (above < length ground.levels) × Along (get_or ground.levels above 0) (above + 1) left' draw' (pass + 1) now
    next h left' draw' t a = (
      h,
      record {
        within = omega arith;
        ahead = rw (add-one above, add-one pass) a;
        same-plan = f.same-plan;
        few-turns = t;
        few-passes = omega (arith, f.few-passes);
        few-levels = f.few-levels;
      },
    )

    -- past the last level: the pass has every turn that is left
    module _ (h : length ground.levels ≤ above) where
      ahead_none : passes_from (pass_in ground) budget [] limit pass left draw ≡ ending_in ground budget total start
      ahead_none = rw (drop_of_length-le ground.levels {i = above} h) at f.ahead

      last-pass : (o : Out) → pass_in ground limit pass left draw ≡ o → turns_left o ≤ left
          → After (step_of (begun_of true left left total (pass + 1) limit) (ended_by o)) (cells_by (lent_in ground limit pass) now o)
      unfolding answered turns_left
      last-pass (hit spared places draw') q t =
          let l : left - (left - spared) ≡ spared = omega arith in
          rw (l, add-one pass) (ending_answered _ (sym (passes-last-hit (pass_in ground) budget limit pass left draw q) ∙ ahead_none))
      last-pass (dry spared draw') q t =
          let l : left - (left - spared) ≡ spared = omega arith in
          rw (l, add-one pass, f.same-plan) (ending_answered _ (sym (passes-last-dry (pass_in ground) budget limit pass left draw q) ∙ ahead_none))
      last-pass (cut draw') q t =
          rw (le-leb left left (omega arith), add-one pass, f.same-plan) (ending_answered _ (sym (passes-last-cut (pass_in ground) budget limit pass left draw q) ∙ ahead_none))

    -- below the last level: the pass has its budget or what is left
    module _ (h : above < length ground.levels) where
      abbrev level : ℕ
      level = get_or ground.levels above 0

      abbrev higher : List ℕ
      higher = drop (suc above) ground.levels

      ahead_cons : passes_from (pass_in ground) budget (level ∷ higher) limit pass left draw ≡ ending_in ground budget total start
      ahead_cons = rw (drop-cons ground.levels above 0 h) at f.ahead

      pass_below : (o : Out) → pass_in ground limit pass (min left budget) draw ≡ o → turns_left o ≤ min left budget
          → After (step_of (begun_of false left (min left budget) total (pass + 1) limit) (ended_by o)) (cells_by (lent_in ground limit pass) now o)
      unfolding answered turns_left
      pass_below (hit spared places draw') q t =
          let l : left - (min left budget - spared) ≡ spared + (left - budget) = omega arith in
          rw (l, add-one pass) (ending_answered _ (sym (passes-hit (pass_in ground) budget limit pass left draw level higher q) ∙ ahead_cons))
      pass_below (dry spared draw') q t =
          let l : left - (min left budget - spared) ≡ spared + (left - budget) = omega arith in
          rw l (next h (spared + (left - budget)) draw' (omega (arith, f.few-turns)) (sym (passes-dry (pass_in ground) budget limit pass left draw level higher q) ∙ ahead_cons))
      pass_below (cut draw') q t = short (leb left (min left budget)) refl
        where
          short : (b : Bool) → leb left (min left budget) ≡ b → After (step_of (begun_of false left (min left budget) total (pass + 1) limit) (wanting draw')) now
          short true s =
              let few : left ≤ min left budget = leb-true _ _ s in
              rw (s, add-one pass, f.same-plan) (ending_answered _ (sym (passes-cut-out (pass_in ground) budget limit pass left draw level higher q (omega arith)) ∙ ahead_cons))
          short false s =
              let more : min left budget < left = leb-false _ _ s in
              let l : left - min left budget ≡ left - budget = omega arith in
              rw (s, l) (next h (left - budget) draw' (omega (arith, f.few-turns)) (sym (passes-cut-on (pass_in ground) budget limit pass left draw level higher q (omega arith)) ∙ ahead_cons))

    -- what follows the pass, by whether a level is above
    abbrev turns : ℕ
    turns = cond (leb (length ground.levels) above) left (min left budget)

    module _ {begun : Begun} (b : begun ≡ begun_of (leb (length ground.levels) above) left turns total (pass + 1) limit) (passed : Passed) {after : List ℕ}
        (p : leaves (passed_tells passed) after ≡ left_by (lent_in ground limit pass) now (pass_in ground limit pass begun.turns draw)) (step : Step)
        (s : step_tells step ≡ step_of begun (passed_tells passed)) where
      abbrev out : Out
      out = pass_in ground limit pass turns draw

      left-is : leaves (passed_tells passed) after ≡ leaves (ended_by out) (cells_by (lent_in ground limit pass) now out)
      left-is = (rw b at p) ∙ left_by_lem (lent_in ground limit pass) now out

      ended_is : passed_tells passed ≡ ended_by out
      ended_is = ap (λ (x : Leaves). x.ended) left-is

      after_is : after ≡ cells_by (lent_in ground limit pass) now out
      after_is = ap (λ (x : Leaves). x.plan) left-is

      follows : (b : Bool) → leb (length ground.levels) above ≡ b → {had : ℕ} → had ≡ cond b left (min left budget)
          → After (step_of (begun_of b left had total (pass + 1) limit) (ended_by (pass_in ground limit pass had draw))) (cells_by (lent_in ground limit pass) now (pass_in ground limit pass had draw))
      follows true l u = rw u (last-pass (leb-true _ _ l) (pass_in ground limit pass left draw) refl (turns_in ground limit pass left draw))
      follows false l u = rw u (pass_below (leb-false _ _ l) (pass_in ground limit pass (min left budget) draw) refl (turns_in ground limit pass (min left budget) draw))

      along_step : {known : Step} → step ≡ known → After (step_tells known) after
      along_step {known} k =
          let e : step_tells known ≡ step_of (begun_of (leb (length ground.levels) above) left turns total (pass + 1) limit) (ended_by out) =
          ap step_tells (sym k) ∙ s ∙ ap₂ step_of b ended_is in
          rw (e, after_is) (follows (leb (length ground.levels) above) refl refl)

      -- where the call answers, the answer is the whole call's
      pub along_answer : {answer : Searched} → step ≡ steps.Answer answer → outcome (done (settled answer)) after ≡ call_in ground budget total start before
      along_answer k = along_step k

      -- where a pass goes on to the next level, the passes from there are the whole call's
      pub along_on : {level left' draw' : ℕ} → step ≡ steps.On left' draw' → level ≡ get_or ground.levels above 0 → Along level (above + 1) left' draw' (pass + 1) after
      along_on k e = rw e (along_step k).1
