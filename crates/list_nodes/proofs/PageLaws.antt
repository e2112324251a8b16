-- The page: a plan at its place, plans one after another, and the page as the front of a list's rest.
use mathlib.Core.Path.{◌≡◌, refl, sym, ap, ◌∙◌}
use mathlib.Core.Bool.{Bool, true, false}
use mathlib.Core.List.{List, [], ◌∷◌, ◌++◌, flatten}
use Prim.Native.Nat.{ℕ, zero, suc, ◌+◌, ◌-◌, ◌*◌, ◌≤◌, ◌<◌, ◌^◌, min}
use native.Mathlib.Nat.{suc-mul, zero-mul, add-zero}
use native.Mathlib.Numerals.{add-one}
use native.Mathlib.Omega.{arith}
use borrow.Author.Tests.{lt-ltb, le-ltb, le-leb, lt-leb, ltb-true, ltb-false, eq-eqb}
use lib.Dec.{ltb}
use lib.ListN.{length, take, drop, length-append, length-take, length-drop}
use lib.Seq.{sets, take-nil}
use Rattle.base_lists.proofs.Copies.{sets_join}
use Rattle.plan_check.specs.Day.{Day}
use Rattle.plan_check.specs.Feasible.{feasible, is_feasible}
use Rattle.plan_check.proofs.FeasibleLaws.{worker_agrees}
use Rattle.plan_check.proofs.CheckLaws.{plan-decides}
use Rattle.list_nodes.specs.steps.Walk.{if_feasible, put_plan, put_plans}
use Rattle.list_nodes.specs.steps.Runs.{Shaped, Added}

-- ---- one plan

module _ (first room : ℕ) (buffer : List ℕ) (number : ℕ) (plan : List ℕ) where
  pub put-before : number < first → buffer ≡ put_plan first room buffer number plan
  unfolding put_plan
  put-before h = rw (lt-leb _ _ h)

  pub put-behind : first ≤ number → room ≤ number - first → buffer ≡ put_plan first room buffer number plan
  unfolding put_plan
  put-behind h o = rw (le-leb _ _ h, le-ltb _ _ o)

  pub put-here : first ≤ number → number - first < room → sets buffer ((number - first) * length plan) plan ≡ put_plan first room buffer number plan
  unfolding put_plan
  put-here h o = rw (le-leb _ _ h, lt-ltb _ _ o)

-- ---- plans one after another

pub put-append : (first room : ℕ) (buffer : List ℕ) (number : ℕ) (l m : List (List ℕ))
    → put_plans first room buffer number (l ++ m) ≡ put_plans first room (put_plans first room buffer number l) (number + length l) m
unfolding put_plans
put-append first room buffer number [] m = rw add-zero
put-append first room buffer number (plan ∷ l) m =
    let e : number + suc (length l) ≡ number + 1 + length l = omega arith in
    rw e (put-append first room (put_plan first room buffer number plan) (number + 1) l m)

-- no plan adds nothing
pub none-added : (first room : ℕ) {buffer : List ℕ} {total : ℕ} → Added first room [] total total buffer buffer
unfolding put_plans
none-added first room {total = total} = record { counted = sym (add-zero total); written = refl }

module _ (first room : ℕ) {buffer buffer' : List ℕ} {total total' : ℕ} where
  -- two lists of plans are added one after the other
  pub added_more : (l m : List (List ℕ)) {middle : ℕ} {buffer₁ : List ℕ} → Added first room l total middle buffer buffer₁ → Added first room m middle total' buffer₁ buffer'
      → Added first room (l ++ m) total total' buffer buffer'
  added_more l m {middle} {buffer₁} a b =
      record {
        counted = rw length-append (omega (arith, a.counted, b.counted));
        written =
            b.written
            ∙ ap (λ (k : ℕ). put_plans first room buffer₁ k m) a.counted
            ∙ ap (λ (k : List ℕ). put_plans first room k (total + length l) m) a.written
            ∙ sym (put-append first room buffer total l m);
      }

-- ---- a full start and the plan check

module _ (day : Day) (room : ℕ) (plan buffer : List ℕ) (s : Shaped day room plan buffer) where
  -- the worker is the plan check
  pub worker : feasible day plan ≡ is_feasible day plan
  worker =
      worker_agrees day plan s.few-choices s.few-slots
      (sym (plan-decides _ _ _ _ _ s.mins-fit s.maxs-fit s.optional-fits) ∙ eq-eqb _ _ s.plan-fits)

  pub buffer-room : length buffer ≡ room * length plan
  buffer-room = s.buffer-fits ∙ ap (λ (k : ℕ). room * k) (sym s.plan-fits)

  module _ {passes : Bool} (e : passes ≡ is_feasible day plan) where
    pub not-added : passes ≡ false → (first total : ℕ) → Added first room (if_feasible day plan) total total buffer buffer
    unfolding if_feasible
    not-added f first total = rw (worker ∙ sym e ∙ f) (none-added first room)

    pub number_fits : passes ≡ true → (total : ℕ) → total + length (if_feasible day plan) < 2 ^ 64 → total + 1 < 2 ^ 64
    unfolding if_feasible
    number_fits t total h = rw (worker ∙ sym e ∙ t) at h

    pub one-added : passes ≡ true → (first total : ℕ) {buffer' : List ℕ} → buffer' ≡ put_plan first room buffer total plan
        → Added first room (if_feasible day plan) total (total + 1) buffer buffer'
    unfolding if_feasible put_plans
    one-added t first total w = rw (worker ∙ sym e ∙ t) (record { counted = refl; written = w })

-- ---- the whole list's page

-- every plan of the list is as long as a plan is
pub data Sized (size : ℕ) : List (List ℕ) → Type 0 where
  none : Sized size []
  more : {plan : List ℕ} {l : List (List ℕ)} → length plan ≡ size → Sized size l → Sized size (plan ∷ l)

module _ (first room size : ℕ) where
  -- plans from the page's place j on stand one after another
  on-page : (l : List (List ℕ)) (buffer : List ℕ) (j : ℕ) → Sized size l
      → put_plans first room buffer (first + j) l ≡ sets buffer (j * size) (flatten (take (room - j) l))
  unfolding put_plans flatten
  on-page [] buffer j s = rw (take-nil (room - j))
  on-page (plan ∷ l) buffer j (more e s) = go (ltb j room) refl (on-page l (put_plan first room buffer (first + j) plan) (j + 1) s)
    where
      d : first + j - first ≡ j
      d = omega arith

      go : (b : Bool) → ltb j room ≡ b
          → put_plans first room (put_plan first room buffer (first + j) plan) (first + (j + 1)) l ≡ sets (put_plan first room buffer (first + j) plan) ((j + 1) * size) (flatten (take (room - (j + 1)) l))
          → put_plans first room (put_plan first room buffer (first + j) plan) (first + j + 1) l ≡ sets buffer (j * size) (flatten (take (room - j) (plan ∷ l)))
      go true t ih =
          let h : j < room = ltb-true j room t in
          let a : first + j + 1 ≡ first + (j + 1) = omega arith in
          let p : put_plan first room buffer (first + j) plan ≡ sets buffer (j * size) plan =
          sym (put-here first room buffer (first + j) plan (omega arith) (rw d h))
          ∙ rw (d, e) in
          let k : room - j ≡ suc (room - (j + 1)) = omega arith in
          let m : (j + 1) * size ≡ j * size + length plan = rw (add-one j, e) (suc-mul j size) in
          rw (a, k) (ih ∙ rw (p, m) (sets_join buffer (j * size) plan (flatten (take (room - (j + 1)) l))))
      go false t ih =
          let h : room ≤ j = ltb-false j room t in
          let a : first + j + 1 ≡ first + (j + 1) = omega arith in
          let p : put_plan first room buffer (first + j) plan ≡ buffer =
          sym (put-behind first room buffer (first + j) plan (omega arith) (rw d h)) in
          let k : room - j ≡ 0 = omega arith in
          let k' : room - (j + 1) ≡ 0 = omega arith in
          rw (a, k) (ih ∙ rw (p, k'))

  -- before the page nothing is written
  pub put-page : (l : List (List ℕ)) (buffer : List ℕ) (number before : ℕ) → Sized size l → number + before ≡ first
      → put_plans first room buffer number l ≡ sets buffer 0 (flatten (take room (drop before l)))
  unfolding put_plans flatten
  put-page l buffer number zero s e =
      let a : number ≡ first + 0 = omega arith in
      let z : 0 * size ≡ 0 = zero-mul size in
      let r : room - 0 ≡ room = omega arith in
      rw a (on-page l buffer 0 s ∙ rw (z, r))
  put-page [] buffer number (suc before) s e = rw (take-nil room)
  put-page (plan ∷ l) buffer number (suc before) (more _ s) e =
      let p : put_plan first room buffer number plan ≡ buffer = sym (put-before first room buffer number plan (omega arith)) in
      rw p (put-page l buffer (number + 1) before s (omega arith))

-- how many plans a page holds
pub page-length {ℓ} : {A : Type ℓ} (first room : ℕ) (l : List A) → length (take room (drop first l)) ≡ min room (length l - first)
page-length first room l = rw (length-take, length-drop)
