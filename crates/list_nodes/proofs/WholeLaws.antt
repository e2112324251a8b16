-- The walk from the empty start gives what the listing is defined by: the plans that pass the plan check, and
-- the nodes.
use mathlib.Core.Path.{◌≡◌, refl, sym, ap, fun_ext, ◌∙◌}
use mathlib.Core.Bool.{Bool, true, false, cond}
use mathlib.Core.List.{List, [], ◌∷◌, ◌++◌, map, flat_map, append-nil}
use Prim.Native.Nat.{ℕ, zero, suc, ◌+◌, ◌≤◌}
use native.Mathlib.Numerals.{one-add}
use native.Mathlib.Omega.{arith}
use lib.Dec.{ltb}
use lib.ListN.{length, get_or, set, replicate, length-append, length-set, length-replicate}
use lib.Seq.{append_snoc}
use Rattle.base_lists.specs.Below.{sum_below}
use Rattle.base_lists.specs.Keep.{keep, sum_over}
use Rattle.base_lists.proofs.SumBelow.{sum_ext, sum_first, sum_zeros}
use Rattle.base_lists.proofs.Keep.{flat_map_ext, length_flat_map, map_flat_map, map-map, keep-map-none, keep_flat_map, sum_over_ext, sum_over_le, sum_swap}
use Rattle.plan_check.specs.Day.{Day}
use Rattle.plan_check.specs.Feasible.{feasible}
use Rattle.plan_check.specs.Plan.{sum_up_to, sum_in}
use Rattle.plan_check.specs.steps.Sums.{Sums}
use Rattle.list_nodes.specs.Placements.{places, placements, plans, is_node, nodes}
use Rattle.list_nodes.specs.steps.Walk.{place_fits, sums_with, nodes_from, goes_to, sums_to, if_feasible, plans_from}
use Rattle.list_nodes.proofs.StartLaws.{node_facts, empty-node, no_node-after, no_plan-after, step-node, step-sums}

-- the placements that go on from a start
abbrev pub after : ℕ → List ℕ → ℕ → List (List ℕ)
after slots start n = map (λ rest. start ++ rest) (placements slots n)

-- the placements that go on from a start with one choice more, place by place
pub spread : (slots : ℕ) (test : List ℕ → Bool) (start : List ℕ) (n : ℕ) → keep test (after slots start (suc n)) ≡ flat_map (λ place. keep test (after slots (start ++ (place ∷ [])) n)) (places slots)
unfolding placements
spread slots test start n =
    ap (keep test)
    (map_flat_map (λ rest. start ++ rest) (λ place. map (λ rest. place ∷ rest) (placements slots n)) (places slots)
    ∙ flat_map_ext (λ place. map (λ rest. start ++ rest) (map (λ rest. place ∷ rest) (placements slots n))) (λ place. after slots (start ++ (place ∷ [])) n) (places slots) joined)
    ∙ keep_flat_map test (λ place. after slots (start ++ (place ∷ [])) n) (places slots)
  where
    joined : (place : ℕ) → map (λ rest. start ++ rest) (map (λ rest. place ∷ rest) (placements slots n)) ≡ after slots (start ++ (place ∷ [])) n
    joined place =
        map-map (λ rest. start ++ rest) (λ rest. place ∷ rest) (placements slots n)
        ∙ ap (λ (f : List ℕ → List ℕ). map f (placements slots n)) (fun_ext λ rest. sym (append_snoc start place rest))

-- a start with its sums, as the walk has them
pub record Reached (day : Day) (start sums : List ℕ) : Type 0 where
  pub few : day.counts.slots ≤ 24
  pub node : is_node day start ≡ true
  pub held : Sums day.mins start sums
  pub entries : length sums ≡ 24

module _ (day : Day) (start sums : List ℕ) (r : Reached day start sums) (place : ℕ) where
  step : is_node day (start ++ (place ∷ [])) ≡ goes_to day start sums place
  step = step-node day start sums r.few (node_facts day start r.node) r.held place

  -- the next start is reached
  pub reached-next : goes_to day start sums place ≡ true → Reached day (start ++ (place ∷ [])) (sums_to day start sums place)
  unfolding sums_to sums_with
  reached-next g =
      record {
        few = r.few;
        node = step ∙ g;
        held = step-sums day start sums r.few (node_facts day start r.node) r.held place r.entries g;
        entries = same (ltb place day.counts.slots);
      }
    where
      same : (b : Bool) → length (cond b (set sums place (get_or sums place 0 + get_or day.mins (length start) 0)) sums) ≡ 24
      same true = length-set sums place (get_or sums place 0 + get_or day.mins (length start) 0) ∙ r.entries
      same false = r.entries

-- ---- the plans

pub plans-walked : (day : Day) (n : ℕ) (start sums : List ℕ) → Reached day start sums → plans_from day n start sums ≡ keep (feasible day) (after day.counts.slots start n)
unfolding plans_from if_feasible keep placements
plans-walked day zero start sums r = rw (append-nil start)
plans-walked day (suc n) start sums r =
    flat_map_ext
    (λ place. cond (goes_to day start sums place) (plans_from day n (start ++ (place ∷ [])) (sums_to day start sums place)) [])
    (λ place. keep (feasible day) (after day.counts.slots (start ++ (place ∷ [])) n))
    (places day.counts.slots)
    (λ place. go place (goes_to day start sums place) refl λ g. plans-walked day n (start ++ (place ∷ [])) (sums_to day start sums place) (reached-next day start sums r place g))
    ∙ sym (spread day.counts.slots (feasible day) start n)
  where
    go : (place : ℕ) (b : Bool) → goes_to day start sums place ≡ b
        → (goes_to day start sums place ≡ true → plans_from day n (start ++ (place ∷ [])) (sums_to day start sums place) ≡ keep (feasible day) (after day.counts.slots (start ++ (place ∷ [])) n))
        → cond b (plans_from day n (start ++ (place ∷ [])) (sums_to day start sums place)) [] ≡ keep (feasible day) (after day.counts.slots (start ++ (place ∷ [])) n)
    go place true g ih = ih g
    go place false g ih =
        sym (keep-map-none (feasible day) (λ rest. start ++ (place ∷ []) ++ rest) (placements day.counts.slots n) λ rest.
        no_plan-after day (start ++ (place ∷ [])) rest (step day start sums r place ∙ g))

-- ---- the nodes

module _ (day : Day) where
  -- the nodes of one length that go on from a start
  unfoldable pub nodes_of : List ℕ → ℕ → ℕ
  nodes_of start n = length (keep (is_node day) (after day.counts.slots start n))

  -- the nodes that go on from a start with up to so many choices more
  unfoldable pub nodes_up_to : List ℕ → ℕ → ℕ
  nodes_up_to start n = sum_below (suc n) (nodes_of start)

  nodes-next : (start : List ℕ) (n : ℕ) → nodes_of start (suc n) ≡ sum_over (λ place. nodes_of (start ++ (place ∷ [])) n) (places day.counts.slots)
  unfolding nodes_of
  nodes-next start n =
      ap length (spread day.counts.slots (is_node day) start n)
      ∙ length_flat_map (λ place. keep (is_node day) (after day.counts.slots (start ++ (place ∷ [])) n)) (places day.counts.slots)

  nodes-here : (start : List ℕ) → is_node day start ≡ true → nodes_of start 0 ≡ 1
  unfolding nodes_of keep placements
  nodes-here start t = rw (append-nil start, t)

  pub nodes-none : (start : List ℕ) (n : ℕ) → is_node day start ≡ false → nodes_up_to start n ≡ 0
  unfolding nodes_up_to nodes_of
  nodes-none start n f =
      sum_ext (suc n) (nodes_of start) (λ k. 0) (λ k h. ap length (keep-map-none (is_node day) (λ rest. start ++ rest) (placements day.counts.slots k) λ rest. no_node-after day start rest f))
      ∙ sum_zeros (suc n)

  pub nodes-last : (start : List ℕ) → is_node day start ≡ true → nodes_up_to start 0 ≡ 1
  unfolding nodes_up_to sum_below
  nodes-last start t = rw (nodes-here start t)

  pub nodes-more : (start : List ℕ) (n : ℕ) → is_node day start ≡ true
      → nodes_up_to start (suc n) ≡ suc (sum_over (λ place. nodes_up_to (start ++ (place ∷ [])) n) (places day.counts.slots))
  unfolding nodes_up_to
  nodes-more start n t =
      sum_first (suc n) (nodes_of start)
      ∙ rw (nodes-here start t)
      (ap (λ (k : ℕ). 1 + k)
      (sum_ext (suc n) (λ k. nodes_of start (suc k)) (λ k. sum_over (λ place. nodes_of (start ++ (place ∷ [])) k) (places day.counts.slots)) (λ k h. nodes-next start k)
      ∙ sum_swap (suc n) (λ k place. nodes_of (start ++ (place ∷ [])) k) (places day.counts.slots))
      ∙ one-add _)

  pub nodes-walked : (n : ℕ) (start sums : List ℕ) → Reached day start sums
      → nodes_from day.counts.slots day.counts.choosers day.mins day.optional n (length start) sums ≡ nodes_up_to start n
  unfolding nodes_from goes_to sums_to
  nodes-walked zero start sums r = sym (nodes-last start r.node)
  nodes-walked (suc n) start sums r =
      ap suc
      (sum_over_ext (λ place. cond (goes_to day start sums place) (nodes_from day.counts.slots day.counts.choosers day.mins day.optional n (length start + 1) (sums_to day start sums place)) 0)
      (λ place. nodes_up_to (start ++ (place ∷ [])) n)
      (places day.counts.slots)
      (λ place. go place (goes_to day start sums place) refl λ g. nodes-walked n (start ++ (place ∷ [])) (sums_to day start sums place) (reached-next day start sums r place g)))
      ∙ sym (nodes-more start n r.node)
    where
      go : (place : ℕ) (b : Bool) → goes_to day start sums place ≡ b
          → (goes_to day start sums place ≡ true → nodes_from day.counts.slots day.counts.choosers day.mins day.optional n (length (start ++ (place ∷ []))) (sums_to day start sums place) ≡ nodes_up_to (start ++ (place ∷ [])) n)
          → cond b (nodes_from day.counts.slots day.counts.choosers day.mins day.optional n (length start + 1) (sums_to day start sums place)) 0 ≡ nodes_up_to (start ++ (place ∷ [])) n
      go place true g ih = (rw (length-append start (place ∷ [])) at (ih g))
      go place false g ih = sym (nodes-none (start ++ (place ∷ [])) n (step day start sums r place ∙ g))

-- ---- no more plans than nodes

pub plans-fewer : (day : Day) (n : ℕ) (start sums : List ℕ)
    → length (plans_from day n start sums) ≤ nodes_from day.counts.slots day.counts.choosers day.mins day.optional n (length start) sums
unfolding plans_from if_feasible nodes_from goes_to sums_to
plans-fewer day zero start sums = go (feasible day start)
  where
    go : (b : Bool) → length (cond b (start ∷ []) []) ≤ 1
    go true = omega arith
    go false = omega arith
plans-fewer day (suc n) start sums =
    rw
    (length_flat_map
    (λ place. cond (place_fits day.counts.slots day.counts.choosers day.mins day.optional sums (length start) place) (plans_from day n (start ++ (place ∷ [])) (sums_with day.counts.slots day.mins sums (length start) place)) [])
    (places day.counts.slots))
    (omega (
      arith,
      sum_over_le
          (λ place. length (cond (place_fits day.counts.slots day.counts.choosers day.mins day.optional sums (length start) place) (plans_from day n (start ++ (place ∷ [])) (sums_with day.counts.slots day.mins sums (length start) place)) []))
          (λ place. cond (place_fits day.counts.slots day.counts.choosers day.mins day.optional sums (length start) place) (nodes_from day.counts.slots day.counts.choosers day.mins day.optional n (length start + 1) (sums_with day.counts.slots day.mins sums (length start) place)) 0)
          (places day.counts.slots)
          (λ place. go place (place_fits day.counts.slots day.counts.choosers day.mins day.optional sums (length start) place) (plans-fewer day n (start ++ (place ∷ [])) (sums_with day.counts.slots day.mins sums (length start) place))),
    ))
  where
    go : (place : ℕ) (b : Bool)
        → length (plans_from day n (start ++ (place ∷ [])) (sums_with day.counts.slots day.mins sums (length start) place)) ≤ nodes_from day.counts.slots day.counts.choosers day.mins day.optional n (length (start ++ (place ∷ []))) (sums_with day.counts.slots day.mins sums (length start) place)
        → length (cond b (plans_from day n (start ++ (place ∷ [])) (sums_with day.counts.slots day.mins sums (length start) place)) []) ≤ cond b (nodes_from day.counts.slots day.counts.choosers day.mins day.optional n (length start + 1) (sums_with day.counts.slots day.mins sums (length start) place)) 0
    go place true ih = rw (length-append start (place ∷ [])) at ih
    go place false ih = omega arith

-- ---- from the empty start

pub zeros-at : (n i : ℕ) → get_or {A = ℕ} (replicate n 0) i 0 ≡ 0
zeros-at zero i = refl
zeros-at (suc n) zero = refl
zeros-at (suc n) (suc i) = zeros-at n i

pub map_same {ℓ} : {A : Type ℓ} (l : List A) → map (λ x. x) l ≡ l
map_same [] = refl
map_same (x ∷ l) = ap (λ k. x ∷ k) (map_same l)

module _ (day : Day) (few : day.counts.slots ≤ 24) where
  pub reached-empty : Reached day [] (replicate 24 0)
  unfolding Sums sum_in sum_up_to sum_below
  reached-empty = record { few = few; node = empty-node day; held = λ slot. zeros-at 24 slot; entries = length-replicate {A = ℕ} 24 0 }

  pub plans-all : plans_from day day.counts.choices [] (replicate 24 0) ≡ plans day
  unfolding plans
  plans-all = plans-walked day day.counts.choices [] (replicate 24 0) reached-empty ∙ ap (keep (feasible day)) (map_same (placements day.counts.slots day.counts.choices))

  pub nodes-all : nodes_from day.counts.slots day.counts.choosers day.mins day.optional day.counts.choices 0 (replicate 24 0) ≡ nodes day
  unfolding nodes nodes_up_to nodes_of
  nodes-all =
      nodes-walked day day.counts.choices [] (replicate 24 0) reached-empty
      ∙ sum_ext (suc day.counts.choices) (nodes_of day []) (λ n. length (keep (is_node day) (placements day.counts.slots n))) λ n h. ap (λ (l : List (List ℕ)). length (keep (is_node day) l)) (map_same (placements day.counts.slots n))

  -- no more plans than nodes: so the number of a plan is within the nodes
  pub total-within : length (plans day) ≤ nodes day
  total-within =
      rw (sym plans-all, sym nodes-all) (plans-fewer day day.counts.choices [] (replicate 24 0))
