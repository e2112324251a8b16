-- What the search's answers say: a plan that is answered passes the plan check, and turns and passes are
-- within their limits.
use mathlib.Core.Path.{◌≡◌, refl, sym, ◌∙◌, ap}
use mathlib.Core.Bool.{true}
use mathlib.Core.List.{List}
use Prim.Native.Nat.{ℕ, ◌+◌, ◌-◌, ◌≤◌}
use native.Mathlib.Omega.{arith}
use borrow.Author.Tests.{le-leb, eq-eqb}
use lib.Dec.{leb}
use lib.ListN.{length, drop, length-drop}
use lib.Seq.{length-take-le}
use Rattle.base_lists.specs.First.{first_failing}
use Rattle.day_rows.specs.Told.{done, refused, Verdict, good, unless, Outcome, outcome, judged}
use Rattle.day_rows.proofs.ToldLaws.{done-is, refused-not-done, unless-done, then_done}
use Rattle.plan_check.specs.Feasible.{lengths_fit, shapes_fit, feasible, is_feasible}
use Rattle.plan_check.specs.Check.{before_cells, plan_check_of}
use Rattle.plan_check.proofs.CheckLaws.{plan-decides, before-rows, good-cells, cells_spared, check-answers}
use Rattle.search_rules.specs.Walk.{hit}
use Rattle.search_rules.specs.Decided.{decided}
use Rattle.search_rules.specs.Pass.{plan_of}
use Rattle.search_pass.proofs.DecidedLaws.{decided-length}
use Rattle.search_rules.specs.Passes.{Ending, found, none, out, passes_from}
use Rattle.search_rules.proofs.CallSettles.{last_limit, found-says}
use Rattle.search_rules.proofs.Within.{ending_pass, passes-within}
use Rattle.search_meaning.specs.Given.{Given, plan_day, sets_day}
use Rattle.search_meaning.specs.Judged.{day_judged, lent_judged}
use Rattle.search_meaning.proofs.JudgedLaws.{DayKeeps, LentKeeps, day-keeps, lent-keeps}
use Rattle.search_meaning.specs.Search.{start_of, levels_above, lent_at, pass_at, ending_of}
use Rattle.search_meaning.specs.Calls.{Settled, plan, no_plan, out_of_turns, settled_by, plan_left, sets_fit, search_judged, search_of}
use Rattle.search_meaning.specs.declared.answer.Figures.{Figures}
use Rattle.search_meaning.specs.declared.settings.Settings.{Settings}
use Rattle.search.proofs.PassLaws.{hit-feasible}

-- the figures of an answer
abbrev pub figures_of : Settled → Figures
figures_of (plan f) = f
figures_of (no_plan f) = f
figures_of (out_of_turns f) = f

abbrev is_plan : Settled → ℕ
is_plan (plan f) = 1
is_plan (no_plan f) = 0
is_plan (out_of_turns f) = 0

-- what is answered wasn't refused
judged-done : {A B : Type 0} (verdict : Verdict) (before : B) (next : Outcome A B) {value : A} {after : B}
    → judged verdict before next ≡ outcome (done value) after → (verdict ≡ good) × (next ≡ outcome (done value) after)
judged-done (done value) before next e = (refl, e)
judged-done (refused number carried) before next e = absurd (refused-not-done (ap (λ o. o.answer) e))

module _ (given : Given) (settings : Settings) (before : List ℕ) {answer : Settled} {after : List ℕ} (e : search_of given settings before ≡ outcome (done answer) after) where
  -- the day keeps what is asked of it, and so does what is lent beside it
  pub answered-day : DayKeeps given before
  unfolding search_of search_judged
  answered-day =
      let j = judged-done (search_judged given settings before) before (outcome (done (settled_by settings.total_budget (ending_of given settings))) (plan_left given settings before (ending_of given settings))) e in
      day-keeps given before (then_done (day_judged given before) (unless (sets_fit (sets_day given) settings.analysis) 7 (lent_judged given)) j.0).0

  pub answered-lent : LentKeeps given
  unfolding search_of search_judged
  answered-lent =
      let j = judged-done (search_judged given settings before) before (outcome (done (settled_by settings.total_budget (ending_of given settings))) (plan_left given settings before (ending_of given settings))) e in
      let r = then_done (day_judged given before) (unless (sets_fit (sets_day given) settings.analysis) 7 (lent_judged given)) j.0 in
      lent-keeps given (unless-done (sets_fit (sets_day given) settings.analysis) 7 (lent_judged given) r.1).1

  -- what is answered is the ending of the passes
  answered-by : outcome (done (settled_by settings.total_budget (ending_of given settings))) (plan_left given settings before (ending_of given settings)) ≡ outcome (done answer) after
  unfolding search_of
  answered-by = (judged-done (search_judged given settings before) before (outcome (done (settled_by settings.total_budget (ending_of given settings))) (plan_left given settings before (ending_of given settings))) e).1

  settled_is : settled_by settings.total_budget (ending_of given settings) ≡ answer
  settled_is = done-is (ap (λ (o : Outcome Settled (List ℕ)). o.answer) answered-by)

  -- no more turns than the total budget
  pub turns-within : (figures_of answer).turns ≤ settings.total_budget
  turns-within = rw (sym settled_is) (go (ending_of given settings))
    where
      go : (ending : Ending) → (figures_of (settled_by settings.total_budget ending)).turns ≤ settings.total_budget
      go (found left pass limit places) = omega arith
      go (none left pass limit) = omega arith
      go (out pass limit) = omega arith

  -- no more passes than L + 1
  pub passes-few : (figures_of answer).passes ≤ given.counts.levels + 1
  unfolding ending_of levels_above
  passes-few =
      let start = start_of given settings in
      let above = drop (first_failing (λ level. leb level start) given.levels) given.levels in
      let w = passes-within (pass_at given settings) settings.pass_budget above start 0 settings.total_budget 0 in
      let l : length above ≡ length given.levels - first_failing (λ level. leb level start) given.levels = length-drop (first_failing (λ level. leb level start) given.levels) given.levels in
      rw (sym settled_is) (go (passes_from (pass_at given settings) settings.pass_budget above start 0 settings.total_budget 0) (omega (arith, w, l, answered-day.levels)))
    where
      go : (ending : Ending) → ending_pass ending ≤ given.counts.levels → (figures_of (settled_by settings.total_budget ending)).passes ≤ given.counts.levels + 1
      go (found left pass limit places) h = omega (arith, h)
      go (none left pass limit) h = omega (arith, h)
      go (out pass limit) h = omega (arith, h)

module _ (given : Given) (settings : Settings) where
  -- every pass is lent the day
  sound-at : (limit pass turns draw left : ℕ) (places : List ℕ) (draw' : ℕ) → pass_at given settings limit pass turns draw ≡ hit left places draw'
      → feasible (plan_day given) (plan_of (lent_at given settings limit pass) places) ≡ true
  unfolding pass_at lent_at
  sound-at limit pass turns draw left places draw' e = hit-feasible (lent_at given settings limit pass) turns draw left places draw' e

  found-sound : {left pass limit : ℕ} {places : List ℕ} → ending_of given settings ≡ found left pass limit places → feasible (plan_day given) (plan_of (lent_at given settings limit pass) places) ≡ true
  unfolding ending_of
  found-sound {left} {pass} {limit} {places} e =
      let start = start_of given settings in
      let above = levels_above given.levels start in
      found-says (pass_at given settings) settings.pass_budget (λ limit pass places. feasible (plan_day given) (plan_of (lent_at given settings limit pass) places) ≡ true) sound-at
      (last_limit start above) (Unit {0}) (λ pass turns draw left draw' q. tt)
      above start 0 settings.total_budget 0 left pass limit places refl e

  plan-length : (limit pass : ℕ) (places : List ℕ) → given.counts.choices ≤ 64 → length (plan_of (lent_at given settings limit pass) places) ≡ given.counts.choices
  unfolding plan_of lent_at
  plan-length limit pass places h =
      length-take-le given.counts.choices (decided (lent_at given settings limit pass).order places) (rw (decided-length (lent_at given settings limit pass).order places) h)

module _ (given : Given) (settings : Settings) (before : List ℕ) {f : Figures} {after : List ℕ} (e : search_of given settings before ≡ outcome (done (plan f)) after) where
  -- a plan that is answered stands in the lent list, whole
  pub record Written : Type 0 where
    pub passes : feasible (plan_day given) after ≡ true
    pub whole : length after ≡ given.counts.choices

  pub found-written : Written
  found-written = go (ending_of given settings) refl (settled_is given settings before e) (ap (λ (o : Outcome Settled (List ℕ)). o.buffers) (answered-by given settings before e))
    where
      go : (ending : Ending) → ending_of given settings ≡ ending → settled_by settings.total_budget ending ≡ plan f → plan_left given settings before ending ≡ after → Written
      go (found left pass limit places) q s p =
          record {
            passes = ap (feasible (plan_day given)) (sym p) ∙ found-sound given settings q;
            whole = ap length (sym p) ∙ plan-length given settings limit pass places (answered-day given settings before e).in_range.day.choices;
          }
      go (none left pass limit) q s p = let z : ◌≡◌ {A = ℕ} 0 1 = ap is_plan s in absurd (omega arith)
      go (out pass limit) q s p = let z : ◌≡◌ {A = ℕ} 0 1 = ap is_plan s in absurd (omega arith)

  -- a plan that is answered is feasible, whatever the mode
  pub found-feasible : feasible (plan_day given) after ≡ true
  found-feasible = found-written.passes

  -- the plan check says that a plan that is answered is good
  pub found_checked : done true ≡ plan_check_of (plan_day given) after
  unfolding is_feasible shapes_fit
  found_checked =
      let w = found-written in
      let k = answered-day given settings before e in
      let l = answered-lent given settings before e in
      let lengths : lengths_fit given.counts.choices given.mins given.maxs given.optional after ≡ true =
      sym (plan-decides given.counts.choices given.mins given.maxs given.optional after k.mins k.maxs k.optional) ∙ eq-eqb _ _ w.whole in
      let b : good ≡ before_cells (plan_day given) after = sym k.rows-keep ∙ before-rows (plan_day given) after k.counts lengths k.rows in
      let s : is_feasible (plan_day given) after ≡ true = rw (le-leb _ _ k.in_range.day.choices, le-leb _ _ k.in_range.day.slots, lengths) w.passes in
      check-answers (plan_day given) after true b (good-cells given.counts.slots given.optional after (cells_spared (plan_day given) after b s) l.flags) s
