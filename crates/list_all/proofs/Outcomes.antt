-- What the promise of list_plans settles: out of turns exactly if the nodes are more than the budget, one
-- total for every page, and no two outcomes.
use mathlib.Core.Path.{◌≡◌, refl, sym, ap, ◌∙◌}
use mathlib.Core.Bool.{Bool, true, false}
use mathlib.Core.List.{List, flatten}
use Prim.Native.Nat.{ℕ, ◌≤◌, ◌<◌}
use native.Mathlib.Omega.{arith}
use borrow.Author.Tests.{le-leb, lt-leb, leb-true, leb-false}
use lib.Dec.{leb}
use lib.ListN.{length}
use lib.Seq.{sets}
use Rattle.std.specs.Prelude.{Result, Ok, Err}
use Rattle.base_lists.specs.Keep.{keep}
use Rattle.base_lists.proofs.SumBelow.{sum_first}
use Rattle.day_rows.specs.Told.{Told, done, refused, good, Outcome, outcome}
use Rattle.day_rows.specs.declared.refusal.Refusal.{Refusal}
use Rattle.day_rows.proofs.ToldLaws.{refusal_of, refusal-back, done-is}
use Rattle.day_rows.proofs.ToldLaws as tellings
use Rattle.plan_check.specs.Day.{Day}
use Rattle.list_nodes.specs.Placements.{placements, page, total, is_node, nodes}
use Rattle.list_all.specs.Outcome.{PageTold, plans_told, turns_told, listed_tells, listed_of, list_of}
use Rattle.list_nodes.specs.Judge.{judge_of}
use Rattle.list_all.specs.declared.list_plans.Listed.{Listed}
use Rattle.list_all.specs.declared.list_plans.Listed.TheVariants as listed
use Rattle.list_all.proofs.CallLaws.{good-told}
use Rattle.list_nodes.proofs.StartLaws.{empty-node}

-- the answer, read back from what it tells
abbrev pub listed_back : Told PageTold → Result Listed Refusal
listed_back (done (plans_told written total nodes)) = Ok (listed.Plans written total nodes)
listed_back (done turns_told) = Ok listed.Turns
listed_back (refused number carried) = Err (refusal_of number carried)

pub listed_back_lem : (answer : Result Listed Refusal) → listed_back (listed_tells answer) ≡ answer
listed_back_lem (Ok (listed.Plans written total nodes)) = refl
listed_back_lem (Ok listed.Turns) = refl
listed_back_lem (Err why) = ap Err (refusal-back why)

module _ (day : Day) (first room budget : ℕ) (buffer : List ℕ) where
  -- no two outcomes fit the promise
  pub one-outcome : {answer other : Result Listed Refusal} {written rest : List ℕ} → outcome (listed_tells answer) written ≡ list_of day first room budget buffer
      → outcome (listed_tells other) rest ≡ list_of day first room budget buffer → (answer ≡ other) × (written ≡ rest)
  one-outcome = tellings.one-outcome listed_tells listed_back listed_back_lem

  module _ (judged : judge_of day room (length buffer) ≡ good) where
    -- out of turns if the nodes are more than the budget
    pub turns_if : budget < nodes day → list_of day first room budget buffer ≡ outcome (done turns_told) buffer
    unfolding listed_of
    turns_if h = sym (good-told day first room budget buffer judged) ∙ rw (lt-leb _ _ h)

    -- listed if the nodes are within the budget
    pub listed_if : nodes day ≤ budget
        → list_of day first room budget buffer ≡ outcome (done (plans_told (length (page day first room)) (total day) (nodes day))) (sets buffer 0 (flatten (page day first room)))
    unfolding listed_of
    listed_if h = sym (good-told day first room budget buffer judged) ∙ rw (le-leb _ _ h)

    -- out of turns only if the nodes are more than the budget
    pub turns_only : (list_of day first room budget buffer).answer ≡ done turns_told → budget < nodes day
    turns_only e = go (leb (nodes day) budget) refl
      where
        go : (b : Bool) → leb (nodes day) budget ≡ b → budget < nodes day
        go false t = leb-false _ _ t
        go true t =
            let l : plans_told (length (page day first room)) (total day) (nodes day) ≡ turns_told = done-is (ap (λ (o : Outcome PageTold (List ℕ)). o.answer) (sym (listed_if (leb-true _ _ t))) ∙ e) in
            let z : ◌≡◌ {A = ℕ} 0 1 = cc in
            absurd (omega arith)

-- what is told of the plans is the day's, whatever the page: its total and its nodes
module _ (day : Day) where
  told_of : (b : Bool) {written all visited : ℕ} (first room budget : ℕ) (buffer : List ℕ) → leb (nodes day) budget ≡ b
      → (listed_of day first room budget buffer).answer ≡ done (plans_told written all visited) → (written ≡ length (page day first room)) × (all ≡ total day) × (visited ≡ nodes day)
  unfolding listed_of
  told_of true {written} {all} {visited} first room budget buffer t e =
      let k : plans_told (length (page day first room)) (total day) (nodes day) ≡ plans_told written all visited = done-is (rw t at e) in
      (cc, cc, cc)
  told_of false {written} {all} {visited} first room budget buffer t e =
      let k : turns_told ≡ plans_told written all visited = done-is (rw t at e) in
      let z : ◌≡◌ {A = ℕ} 0 1 = cc in
      absurd (omega arith)

  pub total-told : {written all visited : ℕ} (first room budget : ℕ) (buffer : List ℕ) → judge_of day room (length buffer) ≡ good
      → (list_of day first room budget buffer).answer ≡ done (plans_told written all visited) → (written ≡ length (page day first room)) × (all ≡ total day) × (visited ≡ nodes day)
  total-told first room budget buffer g e =
      told_of (leb (nodes day) budget) first room budget buffer refl (ap (λ (o : Outcome PageTold (List ℕ)). o.answer) (good-told day first room budget buffer g) ∙ e)

  -- the total and the nodes don't depend on the first number, the room or the budget
  pub total-same : {written all visited written' all' visited' : ℕ} (first room budget : ℕ) (buffer : List ℕ) (first' room' budget' : ℕ) (buffer' : List ℕ)
      → judge_of day room (length buffer) ≡ good → judge_of day room' (length buffer') ≡ good
      → (list_of day first room budget buffer).answer ≡ done (plans_told written all visited) → (list_of day first' room' budget' buffer').answer ≡ done (plans_told written' all' visited')
      → (all ≡ all') × (visited ≡ visited')
  total-same first room budget buffer first' room' budget' buffer' g g' e e' =
      let t = total-told first room budget buffer g e in
      let t' = total-told first' room' budget' buffer' g' e' in
      (t.1 ∙ sym t'.1, t.2 ∙ sym t'.2)

  -- the empty start is a node, so that a budget of 0 is always out of turns
  pub some-nodes : 0 < nodes day
  unfolding nodes placements keep
  some-nodes =
      rw (sum_first day.counts.choices (λ n. length (keep (is_node day) (placements day.counts.slots n)))) (rw (empty-node day) (omega arith))
