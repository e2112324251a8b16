-- With enough turns a pass isn't cut, and it leaves the rest of them.
use mathlib.Core.Path.{◌≡◌, refl, ap}
use mathlib.Core.Bool.{Bool, true, false}
use mathlib.Core.List.{List, [], ◌∷◌}
use Prim.Native.Nat.{ℕ, zero, suc, ◌+◌, ◌*◌, ◌≤◌, ◌<◌}
use native.Mathlib.Omega.{arith}
use native.Mathlib.Nat.{suc-mul}
use lib.ListN.{length}
use Rattle.search_rules.specs.Walk.{Sight, Out, hit, dry, cut, turn, opened, used, pass}
use Rattle.search_rules.specs.Turns.{turns_enough}
use Rattle.search_rules.proofs.WalkSteps.{pass-walk}
use Rattle.search_rules.proofs.Induction.{After, Kept, walk_ind}
use Rattle.search_rules.proofs.Nodes.{nodes, cost, nodes_powers, cost-fewer}

-- the turns that the candidates left take, the deepest of them k depths from the end
pub need : ℕ → ℕ → List (List ℕ) → ℕ
need b k [] = 0
need b k (bucket ∷ candidates) = length bucket * cost b k + 1 + need b (suc k) candidates

-- of a budget at most p turns are used; a cut has fewer than p
abbrev pub Within : ℕ → ℕ → Out → Type 0
Within budget p (hit left places drawn) = budget ≤ left + p
Within budget p (dry left drawn) = budget ≤ left + p
Within budget p (cut drawn) = budget < p

-- the candidates of each depth are there, and the turns left are enough for them
record Made (b C budget p left : ℕ) (places : List ℕ) (made : List (List ℕ)) : Type 0 where
  k : ℕ
  depth : length places + k ≡ C
  each : length made ≡ suc (length places)
  enough : budget + need b k made ≤ left + p
  below : (place : ℕ) (rest : List ℕ) (shallower : List (List ℕ)) → made ≡ (place ∷ rest) ∷ shallower → 0 < k

-- at a new depth, before its candidates are made, the turns left are enough for them
record Unmade (b C budget p left : ℕ) (places : List ℕ) (candidates : List (List ℕ)) : Type 0 where
  k : ℕ
  depth : length places + k ≡ C
  each : length candidates ≡ length places
  enough : budget + (2 * nodes b k + 1 + need b (suc k) candidates) ≤ left + p

-- what is kept of a state: the turns left are enough
abbrev InTime : ℕ → ℕ → ℕ → ℕ → ℕ → Bool → List ℕ → List (List ℕ) → ℕ → Type 0
InTime b C budget p left true places candidates drawn = Unmade b C budget p left places candidates
InTime b C budget p left false places candidates drawn = Made b C budget p left places candidates

-- how many candidates are left at the deepest depth
abbrev deepest : List (List ℕ) → ℕ
deepest [] = 0
deepest (bucket ∷ candidates) = length bucket

module _ (b C budget p : ℕ) where
  -- no state lacks its depth's candidates
  made_some : (left : ℕ) (places : List ℕ) → Made b C budget p left places [] → ⊥
  made_some left places m = let e : 0 ≡ suc (length places) = m.each in absurd (omega arith)

  -- one turn at least is needed at any state
  made_one : (left : ℕ) (places : List ℕ) (made : List (List ℕ)) → Made b C budget p left places made → budget + 1 ≤ left + p
  unfolding need
  made_one left places [] m = absurd (made_some left places m)
  made_one left places (bucket ∷ candidates) m = let h : budget + (length bucket * cost b m.k + 1 + need b (suc m.k) candidates) ≤ left + p = m.enough in omega arith

  -- one turn at least is needed at a new depth too
  state-one : (left : ℕ) (new : Bool) (places : List ℕ) (candidates : List (List ℕ)) (drawn : ℕ) → InTime b C budget p left new places candidates drawn → budget + 1 ≤ left + p
  state-one left true places candidates drawn u = omega (arith, u.enough)
  state-one left false places candidates drawn m = made_one left places candidates m

  -- a step back leaves enough turns
  made-back : (left : ℕ) (last : ℕ) (places : List ℕ) (shallower : List (List ℕ)) → Made b C budget p (suc left) (last ∷ places) ([] ∷ shallower) → Made b C budget p left places shallower
  unfolding need
  made-back left last places shallower m =
      record {
        k = suc m.k;
        depth = let d : suc (length places) + m.k ≡ C = m.depth in omega arith;
        each = let e : suc (length shallower) ≡ suc (suc (length places)) = m.each in omega arith;
        enough = let h : budget + (0 * cost b m.k + 1 + need b (suc m.k) shallower) ≤ suc left + p = m.enough in omega arith;
        below = λ place rest more e. omega arith;
      }

  -- a step down, k depths from the end, leaves enough turns
  down-turns : (k left : ℕ) (place : ℕ) (rest places : List ℕ) (shallower : List (List ℕ)) → 0 < k → length places + k ≡ C → suc (length shallower) ≡ suc (length places)
      → budget + need b k ((place ∷ rest) ∷ shallower) ≤ suc left + p → Unmade b C budget p left (place ∷ places) (rest ∷ shallower)
  unfolding need cost
  down-turns zero left place rest places shallower h d e n = absurd (omega arith)
  down-turns (suc j) left place rest places shallower h d e n =
      record {
        k = j;
        depth = let g : length places + suc j ≡ C = d in let r : suc (length places) + j ≡ C = omega arith in r;
        each = e;
        enough =
            let r : budget + (suc (length rest) * cost b (suc j) + 1 + need b (suc (suc j)) shallower) ≤ suc left + p = n in
            let s : suc (length rest) * cost b (suc j) ≡ length rest * cost b (suc j) + cost b (suc j) = suc-mul (length rest) (cost b (suc j)) in
            let c : cost b (suc j) ≡ 2 * suc (nodes b j) = refl in
            let t : budget + (2 * nodes b j + 1 + (length rest * cost b (suc j) + 1 + need b (suc (suc j)) shallower)) ≤ left + p = omega arith in
            t;
      }

  -- a step down leaves enough turns
  made-down : (left : ℕ) (place : ℕ) (rest places : List ℕ) (shallower : List (List ℕ)) → Made b C budget p (suc left) places ((place ∷ rest) ∷ shallower)
      → Unmade b C budget p left (place ∷ places) (rest ∷ shallower)
  made-down left place rest places shallower m = down-turns m.k left place rest places shallower (m.below place rest shallower refl) m.depth m.each m.enough

  -- a turn leaves enough turns
  made-turn : (left : ℕ) (places : List ℕ) (made : List (List ℕ)) (drawn : ℕ) → Made b C budget p (suc left) places made → After (InTime b C budget p) (Within budget p) left (turn places made drawn)
  unfolding turn
  made-turn left places [] drawn m = absurd (made_some (suc left) places m)
  made-turn left [] ([] ∷ shallower) drawn m = omega (arith, made_one (suc left) [] ([] ∷ shallower) m)
  made-turn left (last ∷ places) ([] ∷ shallower) drawn m = made-back left last places shallower m
  made-turn left places ((place ∷ rest) ∷ shallower) drawn m = made-down left place rest places shallower m

module _ (sight : List ℕ → Sight) (bucket : List ℕ → ℕ → List ℕ) (draws : List ℕ → ℕ → ℕ) (b C : ℕ)
    (small : (places : List ℕ) (drawn : ℕ) → length (bucket places drawn) ≤ b)
    (bottom : (places : List ℕ) (drawn : ℕ) → length places ≡ C → bucket places drawn ≡ []) where
  -- where a new depth has a candidate the end isn't reached
  some_below : (k : ℕ) (places : List ℕ) (drawn : ℕ) → length places + k ≡ C → 0 < length (bucket places drawn) → 0 < k
  some_below zero places drawn d h = let e : length (bucket places drawn) ≡ 0 = ap length (bottom places drawn (let g : length places + 0 ≡ C = d in omega arith)) in absurd (omega arith)
  some_below (suc k) places drawn d h = omega arith

  -- with the candidates of a new depth made, the turns left are enough
  made-opened : (budget p left : ℕ) (new : Bool) (places : List ℕ) (candidates : List (List ℕ)) (drawn : ℕ) → InTime b C budget p left new places candidates drawn
      → Made b C budget p left places (opened bucket new places candidates drawn)
  unfolding opened need
  made-opened budget p left true places candidates drawn u =
      record {
        k = u.k;
        depth = u.depth;
        each = ap suc u.each;
        enough =
            let f : length (bucket places drawn) * cost b u.k ≤ 2 * nodes b u.k = cost-fewer b u.k (length (bucket places drawn)) (small places drawn) in
            let h : budget + (length (bucket places drawn) * cost b u.k + 1 + need b (suc u.k) candidates) ≤ left + p = omega (arith, u.enough) in
            h;
        below = λ place rest shallower e.
            let g : length (bucket places drawn) ≡ suc (length rest) = ap deepest e in
            some_below u.k places drawn u.depth (omega arith);
      }
  made-opened budget p left false places candidates drawn m = m

  -- each turn uses one of those that are enough
  spent-kept : (budget p : ℕ) → Kept sight bucket draws (InTime b C budget p) (Within budget p)
  spent-kept budget p =
      record {
        at-goal = λ left new places candidates drawn f e. omega (arith, state-one b C budget p left new places candidates drawn f);
        at-over = λ left new places candidates drawn f e. omega (arith, state-one b C budget p left new places candidates drawn f);
        at_cut = λ new places candidates drawn f e. omega (arith, state-one b C budget p 0 new places candidates drawn f);
        at_turn = λ left new places candidates drawn f e.
            made-turn b C budget p left places (opened bucket new places candidates drawn) (used draws new places drawn) (made-opened budget p (suc left) new places candidates drawn f);
      }

  -- a pass uses at most the turns that are enough, and a cut has fewer
  pub pass-within : (budget drawn : ℕ) → Within budget (turns_enough b C) (pass sight bucket draws budget drawn)
  unfolding turns_enough need
  pass-within budget drawn =
      rw (pass-walk sight bucket draws budget drawn)
      (walk_ind sight bucket draws (InTime b C budget (turns_enough b C)) (Within budget (turns_enough b C)) (spent-kept budget (turns_enough b C)) budget true [] [] drawn
      (record { k = C; depth = omega arith; each = refl; enough = omega (arith, nodes_powers b C) }))

  -- with enough turns a pass isn't cut
  pub pass_uncut : (budget drawn drawn' : ℕ) → turns_enough b C ≤ budget → pass sight bucket draws budget drawn ≡ cut drawn' → ⊥
  pass_uncut budget drawn drawn' h e = let f : budget < turns_enough b C = rw e at (pass-within budget drawn) in absurd (omega arith)

  -- a pass with enough turns that finds a plan leaves all but those that are enough
  pub hit-leaves : (budget drawn left : ℕ) (places : List ℕ) (drawn' : ℕ) → pass sight bucket draws budget drawn ≡ hit left places drawn' → budget ≤ left + turns_enough b C
  hit-leaves budget drawn left places drawn' e = rw e at (pass-within budget drawn)

  -- a pass with enough turns that finds none leaves all but those that are enough
  pub dry-leaves : (budget drawn left drawn' : ℕ) → pass sight bucket draws budget drawn ≡ dry left drawn' → budget ≤ left + turns_enough b C
  dry-leaves budget drawn left drawn' e = rw e at (pass-within budget drawn)
