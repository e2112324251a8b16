-- A start and what goes on from it: its choices stand where they stood, so sums only grow and every start of
-- a node is a node.
use mathlib.Core.Path.{◌≡◌, refl, sym, ap, ◌∙◌}
use mathlib.Core.Bool.{Bool, true, false, ◌&&◌, ◌||◌, not, cond, false≢true}
use mathlib.Core.List.{List, [], ◌∷◌, ◌++◌}
use Prim.Native.Nat.{ℕ, suc, ◌+◌, ◌≤◌, ◌<◌}
use native.Mathlib.Decide.{ℕ_discrete}
use native.Mathlib.Nat.{add-zero, add-suc}
use native.Mathlib.Omega.{arith}
use borrow.Author.Tests.{le-leb, leb-true, ltb-true, eq-eqb, ne_eqb}
use lib.Dec.{eqb, ltb, leb}
use lib.ListN.{length, get_or, set, length-append, get_or-append}
use lib.Seq.{get_or-append_seam, get_or-set_same, get_or-set_other}
use Rattle.base_lists.specs.Below.{all_below, sum_below}
use Rattle.base_lists.proofs.Below.{and_both, and_left, and_right, all-each, each_all}
use Rattle.base_lists.proofs.SumBelow.{sum_ext, sum-grows}
use Rattle.base_lists.proofs.Sums.{all_ext}
use Rattle.plan_check.specs.Day.{Day}
use Rattle.plan_check.specs.Plan.{slot_of, omitted, stands_in, sum_up_to, sum_in}
use Rattle.plan_check.specs.Feasible.{omission_allowed, place_allowed, places_allowed, slot_fits, feasible}
use Rattle.plan_check.specs.Rows.{keeps_rows}
use Rattle.plan_check.specs.steps.Sums.{Sums}
use Rattle.plan_check.proofs.PlanLaws.{omission_is}
use Rattle.list_nodes.specs.Placements.{is_node}
use Rattle.list_nodes.specs.steps.Walk.{place_fits, sums_with, goes_to, sums_to}

-- ---- a start within a longer one

module _ (start rest : List ℕ) where
  slot_same : (choice : ℕ) → choice < length start → slot_of (start ++ rest) choice ≡ slot_of start choice
  unfolding slot_of
  slot_same choice h = get_or-append start rest 255 choice h

  stands_same : (choice slot : ℕ) → choice < length start → stands_in (start ++ rest) choice slot ≡ stands_in start choice slot
  unfolding stands_in omitted
  stands_same choice slot h = rw (slot_same choice h)

  sum_same : (amounts : List ℕ) (slot : ℕ) → sum_up_to (length start) (λ choice. get_or amounts choice 0) (start ++ rest) slot ≡ sum_in amounts start slot
  unfolding sum_in sum_up_to
  sum_same amounts slot =
      sum_ext (length start) (λ choice. cond (stands_in (start ++ rest) choice slot) (get_or amounts choice 0) 0)
      (λ choice. cond (stands_in start choice slot) (get_or amounts choice 0) 0)
      λ choice h. ap (λ (b : Bool). cond b (get_or amounts choice 0) 0) (stands_same choice slot h)

  -- sums of minimums only grow
  sum_more : (amounts : List ℕ) (slot : ℕ) → sum_in amounts start slot ≤ sum_in amounts (start ++ rest) slot
  unfolding sum_in sum_up_to
  sum_more amounts slot =
      rw (sym (sum_same amounts slot), length-append)
      (sum-grows (length start) (length rest) λ choice. cond (stands_in (start ++ rest) choice slot) (get_or amounts choice 0) 0)

  place_same : (slots : ℕ) (optional : List ℕ) (choice : ℕ) → choice < length start → place_allowed slots optional (start ++ rest) choice ≡ place_allowed slots optional start choice
  unfolding place_allowed
  place_same slots optional choice h = rw (slot_same choice h)

  places-less : (slots : ℕ) (optional : List ℕ) → places_allowed slots optional (start ++ rest) ≡ true → places_allowed slots optional start ≡ true
  unfolding places_allowed
  places-less slots optional t =
      each_all (length start) (place_allowed slots optional start) λ choice h.
      sym (place_same slots optional choice h)
      ∙ all-each (length (start ++ rest)) (place_allowed slots optional (start ++ rest)) t choice (rw length-append (omega arith))

-- ---- a node by its facts

pub record Node (day : Day) (start : List ℕ) : Type 0 where
  pub allowed : places_allowed day.counts.slots day.optional start ≡ true
  pub low : (slot : ℕ) → slot < day.counts.slots → sum_in day.mins start slot ≤ day.counts.choosers

module _ (day : Day) where
  pub node_facts : (start : List ℕ) → is_node day start ≡ true → Node day start
  unfolding is_node
  node_facts start t =
      let a = places_allowed day.counts.slots day.optional start in
      let b = all_below day.counts.slots λ slot. leb (sum_in day.mins start slot) day.counts.choosers in
      record {
        allowed = and_left a b t;
        low =
            λ slot h. leb-true _ _
            (all-each day.counts.slots (λ slot. leb (sum_in day.mins start slot) day.counts.choosers) (and_right a b t) slot h);
      }

  pub facts_node : (start : List ℕ) → Node day start → is_node day start ≡ true
  unfolding is_node
  facts_node start n =
      and_both _ _ n.allowed
      (each_all day.counts.slots (λ slot. leb (sum_in day.mins start slot) day.counts.choosers) λ slot h. le-leb _ _ (n.low slot h))

  -- every start of a node is a node
  pub node-start : (start rest : List ℕ) → is_node day (start ++ rest) ≡ true → is_node day start ≡ true
  node-start start rest t =
      let n = node_facts (start ++ rest) t in
      facts_node start
      (record {
        allowed = places-less start rest day.counts.slots day.optional n.allowed;
        low = λ slot h. omega (arith, n.low slot h, sum_more start rest day.mins slot);
      })

  -- a feasible plan is a node
  pub feasible-node : (plan : List ℕ) → feasible day plan ≡ true → is_node day plan ≡ true
  unfolding feasible slot_fits
  feasible-node plan t =
      let a = places_allowed day.counts.slots day.optional plan in
      let f : ℕ → Bool = λ slot. leb (sum_in day.mins plan slot) day.counts.choosers && leb day.counts.choosers (sum_in day.maxs plan slot) in
      let s = all_below day.counts.slots f in
      let two = and_left (a && s) (keeps_rows plan day.rows) t in
      facts_node plan
      (record {
        allowed = and_left a s two;
        low = λ slot h. leb-true _ _ (and_left _ _ (all-each day.counts.slots f (and_right a s two) slot h));
      })

  not_true_false : (b : Bool) → (b ≡ true → ⊥) → b ≡ false
  not_true_false true h = absurd (h refl)
  not_true_false false h = refl

  -- no node and no feasible plan begins with what is no node
  pub no_node-after : (start rest : List ℕ) → is_node day start ≡ false → is_node day (start ++ rest) ≡ false
  no_node-after start rest e =
      not_true_false (is_node day (start ++ rest)) λ t. false≢true (sym e ∙ node-start start rest t)

  pub no_plan-after : (start rest : List ℕ) → is_node day start ≡ false → feasible day (start ++ rest) ≡ false
  no_plan-after start rest e =
      not_true_false (feasible day (start ++ rest)) λ t. false≢true (sym e ∙ node-start start rest (feasible-node (start ++ rest) t))

  -- the empty start is a node: 'the empty one included'
  pub empty-node : is_node day [] ≡ true
  unfolding places_allowed all_below sum_in sum_up_to sum_below
  empty-node = facts_node [] (record { allowed = refl; low = λ slot h. omega arith })

-- ---- one choice more

module _ (start : List ℕ) (place : ℕ) where
  last-slot : slot_of (start ++ (place ∷ [])) (length start) ≡ place
  unfolding slot_of
  last-slot = get_or-append_seam start place [] 255

  length_more : length (start ++ (place ∷ [])) ≡ suc (length start)
  length_more = length-append start (place ∷ []) ∙ add-suc (length start) 0 ∙ ap suc (add-zero (length start))

  -- the choice adds to its own slot alone
  pub sum-in : (amounts : List ℕ) (slot : ℕ) → (place ≡ 255 → ⊥) → place ≡ slot → sum_in amounts (start ++ (place ∷ [])) slot ≡ sum_in amounts start slot + get_or amounts (length start) 0
  unfolding sum_in sum_up_to sum_below stands_in omitted
  sum-in amounts slot n e =
      rw (length_more, last-slot, ne_eqb _ _ n, eq-eqb _ _ e) (ap (λ (k : ℕ). k + get_or amounts (length start) 0) (sum_same start (place ∷ []) amounts slot))

  pub sum-out : (amounts : List ℕ) (slot : ℕ) → (place ≡ slot → ⊥) → sum_in amounts (start ++ (place ∷ [])) slot ≡ sum_in amounts start slot
  unfolding sum_in sum_up_to sum_below stands_in omitted
  sum-out amounts slot n =
      rw (length_more, last-slot, ne_eqb _ _ n, and_no (not (eqb place 255))) (add-zero _ ∙ sum_same start (place ∷ []) amounts slot)
    where
      and_no : (b : Bool) → (b && false) ≡ false
      and_no true = refl
      and_no false = refl

  pub sum-omitted : (amounts : List ℕ) (slot : ℕ) → place ≡ 255 → sum_in amounts (start ++ (place ∷ [])) slot ≡ sum_in amounts start slot
  unfolding sum_in sum_up_to sum_below stands_in omitted
  sum-omitted amounts slot e = rw (length_more, last-slot, eq-eqb _ _ e) (add-zero _ ∙ sum_same start (place ∷ []) amounts slot)

  -- the last choice is allowed or not by its own place
  last-allowed : (slots : ℕ) (optional : List ℕ) → place_allowed slots optional (start ++ (place ∷ [])) (length start) ≡ (ltb place slots || omission_allowed place (get_or optional (length start) 0))
  unfolding place_allowed
  last-allowed slots optional = rw last-slot

  places-more : (slots : ℕ) (optional : List ℕ) → places_allowed slots optional (start ++ (place ∷ [])) ≡ (places_allowed slots optional start && (ltb place slots || omission_allowed place (get_or optional (length start) 0)))
  unfolding places_allowed all_below
  places-more slots optional = rw (length_more, last-allowed slots optional) (ap (λ (b : Bool). b && (ltb place slots || omission_allowed place (get_or optional (length start) 0))) same)
    where
      same : all_below (length start) (place_allowed slots optional (start ++ (place ∷ []))) ≡ all_below (length start) (place_allowed slots optional start)
      same = all_ext (length start) _ _ λ choice h. place_same start (place ∷ []) slots optional choice h

-- ---- the node test as the code makes it

same_bool : (a b : Bool) → (a ≡ true → b ≡ true) → (b ≡ true → a ≡ true) → a ≡ b
same_bool true true f g = refl
same_bool true false f g = sym (f refl)
same_bool false true f g = g refl
same_bool false false f g = refl

module _ (day : Day) (start sums : List ℕ) (few : day.counts.slots ≤ 24) (node : Node day start) (held : Sums day.mins start sums) (place : ℕ) where
  -- the next choice may take the place exactly if that makes a node
  goes_node : (b : Bool) → ltb place day.counts.slots ≡ b → goes_to day start sums place ≡ true → Node day (start ++ (place ∷ []))
  unfolding goes_to place_fits Sums
  goes_node true t g =
      let h : place < day.counts.slots = ltb-true _ _ t in
      let f : get_or sums place 0 + get_or day.mins (length start) 0 ≤ day.counts.choosers = leb-true _ _ (rw t at g) in
      record {
        allowed = rw (places-more start place day.counts.slots day.optional, node.allowed, t);
        low =
            λ slot b. elim (ℕ_discrete place slot) [
              | yes e ↦
                  rw (sum-in start place day.mins slot (λ z. omega (arith, z)) e, sym e, sym (held place)) f
              | no n ↦ rw (sum-out start place day.mins slot n) (node.low slot b)
            ];
      }
  goes_node false t g =
      let o : omission_allowed place (get_or day.optional (length start) 0) ≡ true = rw t at g in
      record {
        allowed = rw (places-more start place day.counts.slots day.optional, node.allowed, t, o);
        low = λ slot b. rw (sum-omitted start place day.mins slot (omission_is _ _ o)) (node.low slot b);
      }

  node_goes : (b : Bool) → ltb place day.counts.slots ≡ b → Node day (start ++ (place ∷ [])) → goes_to day start sums place ≡ true
  unfolding goes_to place_fits Sums
  node_goes true t n =
      let h : place < day.counts.slots = ltb-true _ _ t in
      let s = sum-in start place day.mins place (λ z. omega (arith, z)) refl in
      rw t (le-leb (get_or sums place 0 + get_or day.mins (length start) 0) day.counts.choosers (rw (held place) (rw s at (n.low place h))))
  node_goes false t n =
      rw t
      (and_right (places_allowed day.counts.slots day.optional start) (omission_allowed place (get_or day.optional (length start) 0))
      (rw (places-more start place day.counts.slots day.optional, t) at n.allowed))

  pub step-node : is_node day (start ++ (place ∷ [])) ≡ goes_to day start sums place
  step-node =
      same_bool _ _ (λ t. node_goes (ltb place day.counts.slots) refl (node_facts day (start ++ (place ∷ [])) t))
      (λ g. facts_node day (start ++ (place ∷ [])) (goes_node (ltb place day.counts.slots) refl g))

  -- the sums go with the place that the next choice takes
  pub step-sums : length sums ≡ 24 → goes_to day start sums place ≡ true → Sums day.mins (start ++ (place ∷ [])) (sums_to day start sums place)
  unfolding Sums sums_to sums_with goes_to place_fits
  step-sums l g slot = go (ltb place day.counts.slots) refl
    where
      go : (b : Bool) → ltb place day.counts.slots ≡ b
          → get_or (cond (ltb place day.counts.slots) (set sums place (get_or sums place 0 + get_or day.mins (length start) 0)) sums) slot 0 ≡ sum_in day.mins (start ++ (place ∷ [])) slot
      go true t =
          let h : place < day.counts.slots = ltb-true _ _ t in
          rw t
          (elim (ℕ_discrete place slot) [
            | yes e ↦
                rw (sym e, get_or-set_same sums place (get_or sums place 0 + get_or day.mins (length start) 0) 0 (omega arith), held place)
                (sym (sum-in start place day.mins place (λ z. omega (arith, z)) refl))
            | no n ↦
                get_or-set_other sums place slot (get_or sums place 0 + get_or day.mins (length start) 0) 0 (λ z. n (sym z))
                ∙ held slot ∙ sym (sum-out start place day.mins slot n)
          ])
      go false t =
          rw t (held slot ∙ sym (sum-omitted start place day.mins slot (omission_is _ _ (rw t at g))))
