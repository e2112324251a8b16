-- The first run: a law for each way through its functions.
use mathlib.Core.Path.{◌≡◌, refl, sym, ◌∙◌}
use mathlib.Core.Bool.{Bool, true, false, false≢true}
use mathlib.Core.List.{List}
use Prim.Native.Nat.{ℕ, zero, suc, ◌+◌, ◌-◌, ◌≤◌, ◌<◌}
use native.Mathlib.Omega.{arith}
use borrow.Author.Tests.{le-leb, lt-leb, leb-true, leb-false}
use lib.Arith.{lt_of_le-ne}
use lib.Dec.{leb}
use lib.ListN.{length, get_or, set}
use Rattle.base_lists.specs.Keep.{sum_over}
use Rattle.list_nodes.specs.steps.Walk.{nodes_from, nodes_at, nodes_past}
use Rattle.list_nodes.specs.steps.Runs.{Counted}
use Rattle.list_nodes.proofs.PlaceLaws.{places-start, places-next, places-last, slot-fits, slot-over, omission_fits, omission_out, sums-slot, sums_omission, sums-back}

-- ---- how spending composes

module _ {before after : ℕ} {sums sums' : List ℕ} where
  -- nothing is left for a node
  pub none_left : {nodes : ℕ} → 0 < nodes → before ≡ 0 → Counted nodes before after sums sums' false
  none_left {nodes} h e =
      record {
        answer = sym (lt-leb nodes before (rw e h));
        spent = λ z. absurd (false≢true z);
        kept = λ z. absurd (false≢true z);
      }

  -- one node is spent before the others
  pub one_more : {nodes : ℕ} {holds : Bool} → (before ≡ 0 → ⊥) → Counted nodes (before - 1) after sums sums' holds → Counted (suc nodes) before after sums sums' holds
  one_more {nodes} {holds} h c =
      record {
        answer = c.answer ∙ go (leb nodes (before - 1)) refl;
        spent = λ z. omega (arith, c.spent z, pos);
        kept = c.kept;
      }
    where
      pos : 0 < before
      pos = positive before h
        where
          positive : (n : ℕ) → (n ≡ 0 → ⊥) → 0 < n
          positive zero h = absurd (h refl)
          positive (suc n) h = omega arith

      go : (b : Bool) → leb nodes (before - 1) ≡ b → b ≡ leb (suc nodes) before
      go true t = sym (le-leb (suc nodes) before (omega (arith, pos, leb-true nodes (before - 1) t)))
      go false t = sym (lt-leb (suc nodes) before (omega (arith, pos, leb-false nodes (before - 1) t)))

  -- the first of two parts is too much for the budget
  pub first-over : (one two : ℕ) {sums₀ : List ℕ} → Counted one before after sums sums' false → Counted (one + two) before after sums₀ sums' false
  first-over one two c =
      record {
        answer = sym (lt-leb (one + two) before (omega (arith, leb-false one before (sym c.answer))));
        spent = λ z. absurd (false≢true z);
        kept = λ z. absurd (false≢true z);
      }

  -- two parts are spent one after the other
  pub then_more : (one two middle : ℕ) {sums₀ sums₁ : List ℕ} {holds : Bool} → Counted one before middle sums₀ sums₁ true → Counted two middle after sums sums' holds
      → Counted (one + two) before after sums sums' holds
  then_more one two middle c d =
      record {
        answer = d.answer ∙ go (leb two middle) refl;
        spent = λ z. omega (arith, c.spent refl, d.spent z);
        kept = d.kept;
      }
    where
      go : (b : Bool) → leb two middle ≡ b → b ≡ leb (one + two) before
      go true t = sym (le-leb (one + two) before (omega (arith, c.spent refl, leb-true two middle t)))
      go false t = sym (lt-leb (one + two) before (omega (arith, c.spent refl, leb-false two middle t)))

-- no node spends nothing
pub no_node : {before : ℕ} {sums : List ℕ} → Counted 0 before before sums sums true
no_node {before} = record { answer = sym (le-leb 0 before (omega arith)); spent = λ z. omega arith; kept = λ z. refl }

-- ---- the nodes, by the code's numbers

module _ (slots choosers : ℕ) (mins optional sums : List ℕ) (choice : ℕ) where
  pub some-node : (n : ℕ) → 0 < nodes_from slots choosers mins optional n choice sums
  unfolding nodes_from
  some-node zero = omega arith
  some-node (suc n) = omega arith

  -- no choice is left: the start is the one node
  pub nodes-full : choice ≡ length mins → nodes_from slots choosers mins optional (length mins - choice) choice sums ≡ 1
  unfolding nodes_from
  nodes-full e =
      let z : length mins - choice ≡ 0 = omega arith in
      rw z

  -- a choice is left: the start itself, and the starts that go on
  pub nodes-on : choice < length mins
      → nodes_from slots choosers mins optional (length mins - choice) choice sums
      ≡ suc (nodes_past slots choosers mins optional (length mins - (choice + 1)) choice sums 0)
  unfolding nodes_from nodes_past nodes_at
  nodes-on h =
      let e : length mins - choice ≡ suc (length mins - (choice + 1)) = omega arith in
      rw (e, places-start slots)

module _ (slots choosers : ℕ) (mins optional sums : List ℕ) (n choice : ℕ) where
  -- the nodes of a slot, and then those of the places from the next one on
  nodes-next : (slot : ℕ) → slot < slots
      → nodes_past slots choosers mins optional n choice sums slot
      ≡ nodes_at slots choosers mins optional n choice sums slot + nodes_past slots choosers mins optional n choice sums (slot + 1)
  unfolding nodes_past sum_over
  nodes-next slot h = rw (places-next slots slot h)

  pub nodes-slot : (slot : ℕ) {amount : ℕ} → slot < slots → amount ≡ get_or mins choice 0 → get_or sums slot 0 + amount ≤ choosers
      → nodes_past slots choosers mins optional n choice sums slot
      ≡ nodes_from slots choosers mins optional n (choice + 1) (set sums slot (get_or sums slot 0 + amount)) + nodes_past slots choosers mins optional n choice sums (slot + 1)
  unfolding nodes_at
  nodes-slot slot h e f =
      nodes-next slot h
      ∙ rw (slot-fits slots choosers mins optional sums choice slot h e f, sums-slot slots choosers mins optional sums choice slot h e)

  pub nodes-over : (slot : ℕ) {amount : ℕ} → slot < slots → amount ≡ get_or mins choice 0 → choosers < get_or sums slot 0 + amount
      → nodes_past slots choosers mins optional n choice sums slot ≡ nodes_past slots choosers mins optional n choice sums (slot + 1)
  unfolding nodes_at
  nodes-over slot h e f = nodes-next slot h ∙ rw (slot-over slots choosers mins optional sums choice slot h e f) (omega arith)

  -- the nodes of omission, the last place
  nodes-last : nodes_past slots choosers mins optional n choice sums slots ≡ nodes_at slots choosers mins optional n choice sums 255
  unfolding nodes_past sum_over
  nodes-last = rw (places-last slots) (omega arith)

  pub nodes_omission : (slot : ℕ) → slot ≡ slots → slots ≤ 24 → get_or optional choice 0 ≡ 1
      → nodes_past slots choosers mins optional n choice sums slot ≡ nodes_from slots choosers mins optional n (choice + 1) sums
  unfolding nodes_at
  nodes_omission slot s h e =
      rw s
      (nodes-last ∙ rw (omission_fits slots choosers mins optional sums choice h e, sums_omission slots choosers mins optional sums choice h))

  pub nodes-none : (slot : ℕ) → slot ≡ slots → slots ≤ 24 → (get_or optional choice 0 ≡ 1 → ⊥)
      → nodes_past slots choosers mins optional n choice sums slot ≡ 0
  unfolding nodes_at
  nodes-none slot s h e = rw s (nodes-last ∙ rw (omission_out slots choosers mins optional sums choice h e))

-- ---- the functions

module _ (slots choosers : ℕ) (mins optional sums : List ℕ) (choice : ℕ) {before : ℕ} (some : before ≡ 0 → ⊥) where
  -- the count of a full start is one node
  pub counted-full : choice ≡ length mins
      → Counted (nodes_from slots choosers mins optional (length mins - choice) choice sums) before (before - 1) sums sums true
  counted-full e = rw (nodes-full slots choosers mins optional sums choice e) (one_more some no_node)

  -- the count of any other start is one node and what goes on from it
  pub counted-on : {after : ℕ} {sums' : List ℕ} {holds : Bool} → choice ≤ length mins → (choice ≡ length mins → ⊥)
      → Counted (nodes_past slots choosers mins optional (length mins - (choice + 1)) choice sums 0) (before - 1) after sums sums' holds
      → Counted (nodes_from slots choosers mins optional (length mins - choice) choice sums) before after sums sums' holds
  counted-on h n c = rw (nodes-on slots choosers mins optional sums choice (lt_of_le-ne h n)) (one_more some c)

-- the count of a choice's last place: omission, not allowed
module _ (slots choosers : ℕ) (mins optional sums : List ℕ) (n choice slot : ℕ) {before : ℕ} where
  pub counted_none : slot ≡ slots → slots ≤ 24 → (get_or optional choice 0 ≡ 1 → ⊥)
      → Counted (nodes_past slots choosers mins optional n choice sums slot) before before sums sums true
  counted_none s h e = rw (nodes-none slots choosers mins optional sums n choice slot s h e) no_node

module _ (slots choosers : ℕ) (mins optional sums : List ℕ) (n choice slot : ℕ) {before after : ℕ} where
  -- the count of omission where it is allowed
  pub counted_omission : {sums' : List ℕ} {holds : Bool} → slot ≡ slots → slots ≤ 24 → get_or optional choice 0 ≡ 1
      → Counted (nodes_from slots choosers mins optional n (choice + 1) sums) before after sums sums' holds
      → Counted (nodes_past slots choosers mins optional n choice sums slot) before after sums sums' holds
  counted_omission s h e c = rw (nodes_omission slots choosers mins optional sums n choice slot s h e) c

  module _ {amount : ℕ} (le : slot ≤ slots) (ne : slot ≡ slots → ⊥) (e : amount ≡ get_or mins choice 0) where
    -- a slot that would be over the headcount is passed over
    pub counted-over : {sums' : List ℕ} {holds : Bool} → choosers < get_or sums slot 0 + amount
        → Counted (nodes_past slots choosers mins optional n choice sums (slot + 1)) before after sums sums' holds
        → Counted (nodes_past slots choosers mins optional n choice sums slot) before after sums sums' holds
    counted-over o c = rw (nodes-over slots choosers mins optional sums n choice slot (lt_of_le-ne le ne) e o) c

    module _ (f : get_or sums slot 0 + amount ≤ choosers) where
      -- the budget ends behind the slot
      pub counted-ends : {sums₁ sums' : List ℕ} {holds : Bool}
          → Counted (nodes_from slots choosers mins optional n (choice + 1) (set sums slot (get_or sums slot 0 + amount))) before after sums₁ sums' holds
          → holds ≡ false → Counted (nodes_past slots choosers mins optional n choice sums slot) before after sums sums' false
      counted-ends c z =
          rw (nodes-slot slots choosers mins optional sums n choice slot (lt_of_le-ne le ne) e f) (first-over _ _ (rw z at c))

      -- the count of a slot, and then of the places from the next one on
      pub counted-slot : {middle : ℕ} {sums₁ sums' : List ℕ} {held holds : Bool}
          → Counted (nodes_from slots choosers mins optional n (choice + 1) (set sums slot (get_or sums slot 0 + amount))) before middle (set sums slot (get_or sums slot 0 + amount)) sums₁ held
          → held ≡ true
          → Counted (nodes_past slots choosers mins optional n choice (set sums₁ slot (get_or sums slot 0)) (slot + 1)) middle after (set sums₁ slot (get_or sums slot 0)) sums' holds
          → Counted (nodes_past slots choosers mins optional n choice sums slot) before after sums sums' holds
      counted-slot {middle} {sums₁} c z d =
          let b : set sums₁ slot (get_or sums slot 0) ≡ sums = sums-back slot (get_or sums slot 0 + amount) (c.kept z) in
          rw (nodes-slot slots choosers mins optional sums n choice slot (lt_of_le-ne le ne) e f)
          (then_more _ _ middle (rw z at c) (rw b at d))
