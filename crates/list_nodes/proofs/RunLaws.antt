-- A walk against a budget and a page: where it stands after a list of events, in terms of their plans and
-- visits.
use mathlib.Core.Path.{◌≡◌, refl, sym, ap, ◌∙◌}
use mathlib.Core.Bool.{Bool, true, false, ◌||◌, cond, false≢true}
use mathlib.Core.List.{List, [], ◌∷◌, ◌++◌}
use mathlib.Core.Logic.{◌⊎◌, inl, inr, ⊎_elim}
use Prim.Native.Nat.{ℕ, zero, suc, ◌+◌, ◌-◌, ◌≤◌, ◌<◌}
use native.Mathlib.Omega.{arith}
use borrow.Author.Tests.{ne_eqb, eqb-true, eqb-false, leb-true, leb-false}
use lib.Dec.{eqb, leb}
use lib.ListN.{length, take}
use Rattle.list_nodes.specs.steps.Walk.{put_plan, put_plans}
use Rattle.list_nodes.specs.steps.Alive.{Event, visit, plan, plans_in, visits_in}
use Rattle.list_nodes.specs.steps.Run.{Standing, standing, goes_on, visited, counted, step, run}

-- ---- whether the page still takes plans

module _ (first room met : ℕ) where
  -- the total alone is asked for, or no plan after the page was met
  pub goes_true : goes_on first room met ≡ true → (room ≡ 0) ⊎ (met ≤ first + room)
  unfolding goes_on
  goes_true t = go (eqb room 0) (leb met first) (leb (met - first) room) refl refl refl t
    where
      go : (a b c : Bool) → eqb room 0 ≡ a → leb met first ≡ b → leb (met - first) room ≡ c → (a || b || c) ≡ true → (room ≡ 0) ⊎ (met ≤ first + room)
      go true b c p q r t = inl (eqb-true room 0 p)
      go false true c p q r t = inr (omega (arith, leb-true met first q))
      go false false true p q r t = inr (omega (arith, leb-true (met - first) room r))
      go false false false p q r t = absurd (false≢true t)

  -- a plan after the page was met
  pub goes_false : goes_on first room met ≡ false → (0 < room) × (first + room < met)
  unfolding goes_on
  goes_false f = go (eqb room 0) (leb met first) (leb (met - first) room) refl refl refl f
    where
      some : (n : ℕ) → (n ≡ 0 → ⊥) → 0 < n
      some zero h = absurd (h refl)
      some (suc n) h = omega arith

      go : (a b c : Bool) → eqb room 0 ≡ a → leb met first ≡ b → leb (met - first) room ≡ c → (a || b || c) ≡ false → (0 < room) × (first + room < met)
      go true b c p q r f = absurd (false≢true (sym f))
      go false true c p q r f = absurd (false≢true (sym f))
      go false false true p q r f = absurd (false≢true (sym f))
      go false false false p q r f = (some room (eqb-false room 0 p), omega (arith, leb-false met first q, leb-false (met - first) room r))

-- with no plan met the page still takes plans
pub goes_first : (first room : ℕ) → goes_on first room 0 ≡ true
goes_first first room = go (goes_on first room 0) refl
  where
    go : (b : Bool) → goes_on first room 0 ≡ b → b ≡ true
    go true e = refl
    go false e = absurd (omega (arith, (goes_false first room 0 e).1))

module _ (first room : ℕ) where
  -- ---- event by event

  -- a walk that has ended stands still
  pub run-stopped : (s : Standing) (es : List Event) → s.going ≡ false → run first room s es ≡ s
  unfolding run step
  run-stopped s [] f = refl
  run-stopped s (visit ∷ es) f = ap (λ (b : Bool). run first room (cond b (visited s) s) es) f ∙ run-stopped s es f
  run-stopped s (plan p ∷ es) f = ap (λ (b : Bool). run first room (cond b (counted first room s p) s) es) f ∙ run-stopped s es f

  -- the run of two lists of events is the one after the other
  pub run-append : (s : Standing) (es fs : List Event) → run first room s (es ++ fs) ≡ run first room (run first room s es) fs
  unfolding run
  run-append s [] fs = refl
  run-append s (e ∷ es) fs = run-append (step first room s e) es fs

  -- no turn is left: the walk ends
  pub run_out : (met : ℕ) (buffer : List ℕ) (es : List Event) → run first room (standing true 0 met buffer) (visit ∷ es) ≡ standing false 0 met buffer
  unfolding run step visited
  run_out met buffer es = run-stopped (standing false 0 met buffer) es refl

  -- a start that is visited takes a turn
  pub run-visit : (turns met : ℕ) (buffer : List ℕ) (es : List Event)
      → run first room (standing true (suc turns) met buffer) (visit ∷ es) ≡ run first room (standing true turns met buffer) es
  unfolding run step visited
  run-visit turns met buffer es =
      let n : eqb (suc turns) 0 ≡ false = ne_eqb (suc turns) 0 (λ e. absurd (omega arith)) in
      let l : suc turns - 1 ≡ turns = omega arith in
      rw (n, l)

  -- a plan that is met gets its number
  pub run-plan : (turns met : ℕ) (buffer p : List ℕ) (es : List Event)
      → run first room (standing true turns met buffer) (plan p ∷ es) ≡ run first room (standing (goes_on first room (met + 1)) turns (met + 1) (put_plan first room buffer met p)) es
  unfolding run step counted
  run-plan turns met buffer p es = refl

  -- ---- the whole list

  -- the plans found are the first of the list: all of them where it goes on, up to the one after the page
  -- where that is over, fewer only for want of turns
  pub record Ran (turns met : ℕ) (buffer : List ℕ) (es : List Event) (s : Standing) : Type 0 where
    pub found : ℕ
    pub few : found ≤ length (plans_in es)
    pub number : s.met ≡ met + found
    pub written : s.buffer ≡ put_plans first room buffer met (take found (plans_in es))
    pub on : s.going ≡ true → (found ≡ length (plans_in es)) × (s.turns + visits_in es ≡ turns) × (goes_on first room s.met ≡ true)
    pub over : s.going ≡ false → goes_on first room s.met ≡ false → (0 < room) × (s.met ≡ first + room + 1)
    pub out : s.going ≡ false → goes_on first room s.met ≡ true → turns < visits_in es

  -- a plan is found that is the one after the page
  last-plan : (met : ℕ) → goes_on first room met ≡ true → goes_on first room (met + 1) ≡ false → (0 < room) × (met + 1 ≡ first + room + 1)
  last-plan met t f =
      let l = goes_false first room (met + 1) f in
      (l.0, ⊎_elim (λ e. absurd (omega (arith, l.0, e))) (λ h. omega (arith, l.1, h)) (goes_true first room met t))

  pub ran : (es : List Event) (turns met : ℕ) (buffer : List ℕ) → goes_on first room met ≡ true → Ran turns met buffer es (run first room (standing true turns met buffer) es)
  unfolding plans_in visits_in put_plans run
  ran [] turns met buffer t =
      record {
        found = 0;
        few = omega arith;
        number = omega arith;
        written = refl;
        on = λ g. (refl, omega arith, t);
        over = λ f. absurd (false≢true (sym f));
        out = λ f. absurd (false≢true (sym f));
      }
  ran (visit ∷ es) zero met buffer t =
      rw (run_out met buffer es)
      (record {
        found = 0;
        few = omega arith;
        number = omega arith;
        written = refl;
        on = λ g. absurd (false≢true g);
        over = λ g f. absurd (false≢true (sym f ∙ t));
        out = λ g f. omega arith;
      })
  ran (visit ∷ es) (suc turns) met buffer t =
      let r = ran es turns met buffer t in
      rw (run-visit turns met buffer es)
      (record {
        found = r.found;
        few = r.few;
        number = r.number;
        written = r.written;
        on = λ g. ((r.on g).0, omega (arith, (r.on g).1), (r.on g).2);
        over = r.over;
        out = λ g f. omega (arith, r.out g f);
      })
  ran (plan p ∷ es) turns met buffer t =
      rw (run-plan turns met buffer p es) (go (goes_on first room (met + 1)) refl (ran es turns (met + 1) (put_plan first room buffer met p)))
    where
      go : (b : Bool) → goes_on first room (met + 1) ≡ b
          → (goes_on first room (met + 1) ≡ true → Ran turns (met + 1) (put_plan first room buffer met p) es (run first room (standing true turns (met + 1) (put_plan first room buffer met p)) es))
          → Ran turns met buffer (plan p ∷ es) (run first room (standing b turns (met + 1) (put_plan first room buffer met p)) es)
      go true e ih =
          let r = ih e in
          record {
            found = suc r.found;
            few = omega (arith, r.few);
            number = omega (arith, r.number);
            written = r.written;
            on = λ g. (ap suc (r.on g).0, (r.on g).1, (r.on g).2);
            over = r.over;
            out = r.out;
          }
      go false e ih =
          rw (run-stopped (standing false turns (met + 1) (put_plan first room buffer met p)) es refl)
          (record {
            found = 1;
            few = omega arith;
            number = omega arith;
            written = refl;
            on = λ g. absurd (false≢true g);
            over = λ g f. last-plan met t e;
            out = λ g f. absurd (false≢true (sym e ∙ f));
          })
