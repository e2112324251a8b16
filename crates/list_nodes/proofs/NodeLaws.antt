-- The count of the nodes: from the empty start it is 01's, and what it answers is read back.
use mathlib.Core.Path.{◌≡◌, refl, sym, ap, ◌∙◌}
use mathlib.Core.Bool.{Bool, true, false, ◌&&◌, cond, false≢true}
use mathlib.Core.List.{List}
use Prim.Native.Nat.{ℕ, ◌+◌, ◌-◌}
use native.Mathlib.Nat.{sub-zero}
use native.Mathlib.Omega.{arith}
use borrow.Author.Tests.{eq-eqb, ne_eqb, eqb-true}
use lib.Dec.{eqb, leb}
use lib.ListN.{length, replicate, length-replicate}
use Rattle.std.specs.Prelude.{Option, None, Some}
use Rattle.base_lists.proofs.Below.{and_left, and_right, and_both}
use Rattle.day_rows.specs.Check.{counts_in_range}
use Rattle.day_rows.specs.declared.check.Takes.TheVariants.{Scheduling}
use Rattle.day_rows.proofs.CountLaws.{Within, within}
use Rattle.plan_check.specs.Day.{Day}
use Rattle.list_nodes.specs.Placements.{nodes}
use Rattle.list_nodes.specs.steps.Nodes.{countable, nodes_within}
use Rattle.list_nodes.specs.steps.Walk.{nodes_from}
use Rattle.list_nodes.specs.steps.Runs.{Walks, Counted, Judged}
use Rattle.list_nodes.proofs.WholeLaws.{zeros-at, nodes-all}

-- ---- whether the nodes are counted, one test after the other

module _ (day : Day) where
  pub count-range : counts_in_range day.counts Scheduling ≡ false → false ≡ countable day
  unfolding countable
  count-range f = rw f

  module _ (r : counts_in_range day.counts Scheduling ≡ true) where
    pub count-mins : (length day.mins ≡ day.counts.choices → ⊥) → false ≡ countable day
    unfolding countable
    count-mins n = rw (r, ne_eqb _ _ n)

    pub count-decides : length day.mins ≡ day.counts.choices → eqb (length day.optional) day.counts.choices ≡ countable day
    unfolding countable
    count-decides m = rw (r, eq-eqb _ _ m)

  pub none-counted : (budget : ℕ) → countable day ≡ false → None ≡ nodes_within day budget
  unfolding nodes_within
  none-counted budget f = rw f

  module _ (c : countable day ≡ true) where
    in_range : counts_in_range day.counts Scheduling ≡ true
    unfolding countable
    in_range =
        and_left (counts_in_range day.counts Scheduling) (eqb (length day.mins) day.counts.choices)
        (and_left (counts_in_range day.counts Scheduling && eqb (length day.mins) day.counts.choices) (eqb (length day.optional) day.counts.choices) c)

    mins-fit : length day.mins ≡ day.counts.choices
    unfolding countable
    mins-fit =
        eqb-true _ _
        (and_right (counts_in_range day.counts Scheduling) (eqb (length day.mins) day.counts.choices)
        (and_left (counts_in_range day.counts Scheduling && eqb (length day.mins) day.counts.choices) (eqb (length day.optional) day.counts.choices) c))

    flags-fit : length day.optional ≡ day.counts.choices
    unfolding countable
    flags-fit =
        eqb-true _ _
        (and_right (counts_in_range day.counts Scheduling && eqb (length day.mins) day.counts.choices) (eqb (length day.optional) day.counts.choices) c)

    limits : Within day.counts Scheduling
    limits = within day.counts Scheduling in_range

    -- the count starts with no choice placed and all sums 0
    pub count_walks : {sums : List ℕ} → sums ≡ replicate 24 0 → Walks day.counts.slots day.counts.choosers day.mins day.optional 0 sums
    count_walks e =
        record {
          few-choices = omega (arith, limits.choices, mins-fit);
          few-slots = limits.slots;
          few-choosers = limits.choosers;
          flags = flags-fit ∙ sym mins-fit;
          within = omega arith;
          entries = ap length e ∙ length-replicate {A = ℕ} 24 0;
          low = λ slot. rw e (rw (zeros-at 24 slot) (omega arith));
        }

    module _ {sums sums' : List ℕ} {budget left : ℕ} {holds : Bool} (e : sums ≡ replicate 24 0)
        (k : Counted (nodes_from day.counts.slots day.counts.choosers day.mins day.optional (length day.mins - 0) 0 sums) budget left sums sums' holds) where
      whole-nodes : nodes_from day.counts.slots day.counts.choosers day.mins day.optional (length day.mins - 0) 0 sums ≡ nodes day
      whole-nodes = rw (sub-zero, mins-fit, e) (nodes-all day limits.slots)

      holds-is : holds ≡ leb (nodes day) budget
      holds-is = k.answer ∙ ap (λ (n : ℕ). leb n budget) whole-nodes

      pub counted-over : holds ≡ false → None ≡ nodes_within day budget
      unfolding nodes_within
      counted-over f = rw (c, sym holds-is ∙ f)

      pub counted-within : holds ≡ true → {spent : ℕ} → spent ≡ budget - left → Some spent ≡ nodes_within day budget
      unfolding nodes_within
      counted-within t {spent} s =
          let b : budget ≡ nodes day + left = k.spent t ∙ ap (λ (n : ℕ). n + left) whole-nodes in
          let n : spent ≡ nodes day = omega (arith, s, b) in
          rw (c, sym holds-is ∙ t, n)

-- ---- what the count answers, read back

abbrev held : Option ℕ → Bool
held (Some nodes) = true
held None = false

abbrev count_in : Option ℕ → ℕ
count_in (Some nodes) = nodes
count_in None = 0

over-is : (b : Bool) (n : ℕ) → None ≡ cond b (Some n) None → b ≡ false
over-is true n e = absurd (false≢true (ap held e))
over-is false n e = refl

within-is : (b : Bool) (n m : ℕ) → Some m ≡ cond b (Some n) None → (b ≡ true) × (m ≡ n)
within-is true n m e = (refl, ap count_in e)
within-is false n m e = absurd (false≢true (sym (ap held e)))

-- what the count answers of a day that isn't refused
module _ (day : Day) (room : ℕ) (buffer : List ℕ) (j : Judged day room buffer) where
  is-counted : countable day ≡ true
  unfolding countable
  is-counted =
      and_both (counts_in_range day.counts Scheduling && eqb (length day.mins) day.counts.choices) (eqb (length day.optional) day.counts.choices)
      (and_both (counts_in_range day.counts Scheduling) (eqb (length day.mins) day.counts.choices) j.in_range (eq-eqb _ _ j.mins-fit))
      (eq-eqb _ _ j.optional-fits)

  module _ (budget : ℕ) {counted : Option ℕ} (e : counted ≡ nodes_within day budget) where
    counted_is : counted ≡ cond (leb (nodes day) budget) (Some (nodes day)) None
    unfolding nodes_within
    counted_is = e ∙ rw is-counted

    pub over_budget : counted ≡ None → leb (nodes day) budget ≡ false
    over_budget t = over-is (leb (nodes day) budget) (nodes day) (sym t ∙ counted_is)

    pub within_budget : {visited : ℕ} → counted ≡ Some visited → (leb (nodes day) budget ≡ true) × (visited ≡ nodes day)
    within_budget {visited} t = within-is (leb (nodes day) budget) (nodes day) visited (sym t ∙ counted_is)
