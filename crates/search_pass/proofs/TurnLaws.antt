-- Each way through a turn: the walk from where the code stands is the whole pass.
use mathlib.Core.Path.{◌≡◌, refl, sym, ◌∙◌, ap, ap₂}
use mathlib.Core.Bool.{Bool, true, false, ◌&&◌, cond, false≢true}
use mathlib.Core.List.{List, [], ◌∷◌}
use Prim.Native.Nat.{ℕ, zero, suc, ◌+◌, ◌*◌, ◌-◌, ◌≤◌, ◌<◌, ◌^◌}
use native.Mathlib.Omega.{arith}
use native.Mathlib.Decide.{ℕ_discrete}
use borrow.Author.Tests.{ltb-true, ltb-false, leb-true, eqb-true, le-leb, eq-eqb}
use lib.Dec.{eqb, ltb, leb}
use lib.ListN.{length, get_or, set, take, drop, replicate, length-replicate}
use lib.Seq.{drop-cons}
use Rattle.base_lists.specs.Keep.{sum_over}
use Rattle.base_lists.specs.Pool.{window}
use Rattle.base_lists.proofs.Below.{and_left, and_right}
use Rattle.search_rules.specs.Walk.{Sight, goal, over, on, Out, hit, dry, cut, opened, used, walk}
use Rattle.search_rules.proofs.WalkLaws.{opened-new, opened-old, used-new, used-old, walk-goal, walk-over, walk-cut, walk_close, walk-back, walk-down, pass-walk}
use Rattle.search_order.proofs.OrderLaws.{permutation_length, below, distinct}
use Rattle.search_candidates.specs.Loads.{Loads}
use Rattle.search_rules.specs.Decided.{decided, loads_at}
use Rattle.search_rules.specs.Pass.{Lent, remaining_at, depth_at, asked_at, candidates_at, draw_after, plan_of, sight_at, pass_of}
use Rattle.search_turn.specs.steps.Seen.{sight_from}
use Rattle.search_turn.specs.steps.State.{closes_at, turning, turn_of}
use Rattle.search_turn.specs.steps.Opening.{loads_in, depth_from, asked_from, opening, opening_of}
use Rattle.search_pass.specs.steps.Call.{leaves, found, without, wanting, left_by}
use Rattle.search_turn.specs.declared.state.SearchState.{SearchState}
use Rattle.search_pass.proofs.Counted.{Counted, Known, Moved}
use Rattle.search_pass.specs.steps.Taken.{Taken}
use Rattle.search_pass.proofs.Turning.{TurnReady, Turned}
use Rattle.search_pass.proofs.StepLaws.{turned_of}
use Rattle.search_pass.proofs.Standing.{stack_of, made, Held, Opened}
use Rattle.search_pass.proofs.DecidedLaws.{decided-none, decided-more, later-undecided, step_back_lem}
use Rattle.search_pass.proofs.LoadLaws.{listed, sums-listed, counts-listed, nothing-listed}
use Rattle.search_pass.proofs.SightLaws.{sight_are}
use Rattle.search_pass.proofs.DepthLaws.{candidates_from, drew_from, draw_from, opened_of}
use Rattle.search_pass.proofs.StackLaws.{next-there, stack-empty, stack_some, stack-none, stack-taken, held-taken, held_back}

-- ---- what remains

-- a choice and those after it
pub remains-at : (lent : Lent) (depth : ℕ) → depth < length lent.order → remaining_at lent depth ≡ get_or lent.day.maxs (get_or lent.order depth 0) 0 + remaining_at lent (depth + 1)
unfolding remaining_at sum_over
remains-at lent depth h =
    let e : suc depth ≡ depth + 1 = omega arith in
    let f : ℕ → ℕ = λ choice. get_or lent.day.maxs choice 0 in
    ap (sum_over f) (drop-cons lent.order depth 0 h) ∙ ap (λ (n : ℕ). f (get_or lent.order depth 0) + sum_over f (drop n lent.order)) e

sum_words : (f : ℕ → ℕ) (l : List ℕ) → ((k : ℕ) → f k ≤ 65535) → sum_over f l ≤ 65535 * length l
unfolding sum_over
sum_words f [] h = omega arith
sum_words f (x ∷ l) h = omega (arith, h x, sum_words f l h)

drop-short : (n : ℕ) (l : List ℕ) → length (drop n l) ≤ length l
drop-short zero l = omega arith
drop-short (suc n) [] = omega arith
drop-short (suc n) (x ∷ l) = omega (arith, drop-short n l)

pub remains-fits : (lent : Lent) (depth : ℕ) → ((k : ℕ) → get_or lent.day.maxs k 0 ≤ 65535) → length lent.order ≤ 64 → remaining_at lent depth ≤ 65535 * 64
unfolding remaining_at
remains-fits lent depth f h = omega (arith, sum_words (λ choice. get_or lent.day.maxs choice 0) (drop depth lent.order) f, drop-short depth lent.order)

-- ---- where the code stands

pub record Standing (lent : Lent) (whole : Out) (left : ℕ) (new : Bool) (depth draw remaining : ℕ) (state : SearchState) (pool next end : List ℕ) : Type 0 where
  pub places : List ℕ
  pub at : length places ≡ depth
  pub within : depth ≤ lent.day.counts.choices
  pub old-within : new ≡ false → depth < lent.day.counts.choices
  pub decides : state.decisions ≡ decided lent.order places
  pub counted : Counted lent.day.mins lent.day.maxs state
  pub remains : remaining ≡ remaining_at lent depth
  pub held : Held pool next end (made new depth)
  pub same : walk (sight_at lent) (candidates_at lent) (draw_after lent) left new places (stack_of pool next end (made new depth)) draw ≡ whole

loads_are : (mins maxs : List ℕ) (state : SearchState) → Counted mins maxs state → loads_in state ≡ loads_at mins maxs state.decisions
unfolding loads_at
loads_are mins maxs state k = rw (k.min-sums, k.max-sums, k.counts)

asked_are : (lent : Lent) (places : List ℕ) (draw : ℕ) → asked_at lent places draw ≡ asked_from lent (loads_at lent.day.mins lent.day.maxs (decided lent.order places)) (length places) draw (remaining_at lent (length places))
unfolding asked_at asked_from depth_at depth_from
asked_are lent places draw = refl

candidates_are : (lent : Lent) (places : List ℕ) (draw : ℕ) → candidates_at lent places draw ≡ candidates_from lent (loads_at lent.day.mins lent.day.maxs (decided lent.order places)) (length places) draw
unfolding candidates_at candidates_from
candidates_are lent places draw = rw (asked_are lent places draw)

draws_are : (lent : Lent) (places : List ℕ) (draw : ℕ) → draw_after lent places draw ≡ draw_from lent (loads_at lent.day.mins lent.day.maxs (decided lent.order places)) (length places) draw
unfolding draw_after draw_from drew_from
draws_are lent places draw = rw (asked_are lent places draw)

plan-is : (lent : Lent) (places : List ℕ) → plan_of lent places ≡ take lent.day.counts.choices (decided lent.order places)
unfolding plan_of
plan-is lent places = refl

-- how many candidates the deepest depth has
abbrev first_length : List (List ℕ) → ℕ
first_length [] = 0
first_length (l ∷ stack) = length l

-- how many depths have candidates after a step down, and after a step back
made_true : (depth : ℕ) → made true (depth + 1) ≡ suc depth
unfolding made
made_true depth = omega arith

made_false : (depth : ℕ) → made false depth ≡ suc depth
unfolding made
made_false depth = refl

made_none : made true 0 ≡ 0
unfolding made
made_none = refl

-- no choice stands twice in the order
apart_of : (lent : Lent) → Taken lent → (i j : ℕ) → i < j → j < lent.day.counts.choices → get_or lent.order i 0 ≡ get_or lent.order j 0 → ⊥
apart_of lent t i j l h e = omega (arith, distinct _ _ t.ordered i j (omega arith) h e)

module _ (lent : Lent) (whole : Out) (left : ℕ) (new : Bool) (depth draw remaining : ℕ) (state : SearchState) (pool next end : List ℕ)
    (k : Standing lent whole left new depth draw remaining state pool next end) (t : Taken lent) where
  sight_is : (seen : Sight) → seen ≡ sight_from lent.full lent.day state.decisions depth → sight_at lent k.places ≡ seen
  sight_is seen e =
      sight_are lent t k.places
      ∙ ap₂ (λ (d : List ℕ) (n : ℕ). sight_from lent.full lent.day d n) (sym k.decides) k.at
      ∙ sym e

  loads-is : loads_at lent.day.mins lent.day.maxs (decided lent.order k.places) ≡ loads_in state
  loads-is = ap (loads_at lent.day.mins lent.day.maxs) (sym k.decides) ∙ sym (loads_are lent.day.mins lent.day.maxs state k.counted)

  candidates-is : candidates_at lent k.places draw ≡ candidates_from lent (loads_in state) depth draw
  candidates-is = candidates_are lent k.places draw ∙ ap₂ (λ (l : Loads) (n : ℕ). candidates_from lent l n draw) loads-is k.at

  draws-is : draw_after lent k.places draw ≡ draw_from lent (loads_in state) depth draw
  draws-is = draws_are lent k.places draw ∙ ap₂ (λ (l : Loads) (n : ℕ). draw_from lent l n draw) loads-is k.at

  -- ---- the pass ends

  pub at-goal : (plan plan' : List ℕ) → goal ≡ sight_from lent.full lent.day state.decisions depth → plan' ≡ take lent.day.counts.choices state.decisions
      → leaves (found left draw) plan' ≡ left_by lent plan whole
  at-goal plan plan' e p =
      let w : hit left k.places draw ≡ whole = sym (walk-goal (sight_at lent) (candidates_at lent) (draw_after lent) left new k.places (stack_of pool next end (made new depth)) draw (sight_is goal e)) ∙ k.same in
      ap (leaves (found left draw)) (p ∙ ap (take lent.day.counts.choices) k.decides ∙ sym (plan-is lent k.places)) ∙ ap (left_by lent plan) w

  pub at-over : (plan : List ℕ) → over ≡ sight_from lent.full lent.day state.decisions depth → leaves (without left draw) plan ≡ left_by lent plan whole
  at-over plan e =
      let w : dry left draw ≡ whole = sym (walk-over (sight_at lent) (candidates_at lent) (draw_after lent) left new k.places (stack_of pool next end (made new depth)) draw (sight_is over e)) ∙ k.same in
      ap (left_by lent plan) w

  pub at_cut : (plan : List ℕ) → left ≤ 0 → on ≡ sight_from lent.full lent.day state.decisions depth → leaves (wanting draw) plan ≡ left_by lent plan whole
  at_cut plan z e =
      let n : left ≡ 0 = omega arith in
      let w : cut draw ≡ whole = sym (walk-cut (sight_at lent) (candidates_at lent) (draw_after lent) new k.places (stack_of pool next end (made new depth)) draw (sight_is on e))
      ∙ ap (λ (turns : ℕ). walk (sight_at lent) (candidates_at lent) (draw_after lent) turns new k.places (stack_of pool next end (made new depth)) draw) (sym n) ∙ k.same in
      ap (left_by lent plan) w

  -- ---- a turn, the candidates of a new depth made

  module _ (r : ℕ) (pool' next' end' : List ℕ)
      (o : Opened (candidates_from lent (loads_in state) depth draw) (draw_from lent (loads_in state) depth draw) new depth draw pool next end r pool' next' end') where
    opened-is : opened (candidates_at lent) new k.places (stack_of pool next end (made new depth)) draw ≡ stack_of pool' next' end' (suc depth)
    unfolding made
    opened-is = go new k.places refl o.stack
      where
        go : (b : Bool) (places : List ℕ) → places ≡ k.places
            → stack_of pool' next' end' (suc depth) ≡ cond b (candidates_from lent (loads_in state) depth draw ∷ stack_of pool next end depth) (stack_of pool next end (suc depth))
            → opened (candidates_at lent) b k.places (stack_of pool next end (made b depth)) draw ≡ stack_of pool' next' end' (suc depth)
        go true places e s =
            opened-new (candidates_at lent) k.places (stack_of pool next end depth) draw
            ∙ ap (λ (c : List ℕ). c ∷ stack_of pool next end depth) candidates-is ∙ sym s
        go false places e s = opened-old (candidates_at lent) k.places (stack_of pool next end (suc depth)) draw ∙ sym s

    used-is : used (draw_after lent) new k.places draw ≡ r
    used-is = go new o.draws
      where
        go : (b : Bool) → r ≡ cond b (draw_from lent (loads_in state) depth draw) draw → used (draw_after lent) b k.places draw ≡ r
        go true d = used-new (draw_after lent) k.places draw ∙ draws-is ∙ sym d
        go false d = used-old (draw_after lent) k.places draw ∙ sym d

    -- the closing turn
    pub at_close : (plan : List ℕ) → on ≡ sight_from lent.full lent.day state.decisions depth → 0 < left → depth ≡ 0 → get_or end' depth 0 ≤ get_or next' depth 0
        → leaves (without (left - 1) r) plan ≡ left_by lent plan whole
    at_close plan e h z b = go k.places k.at k.same (sight_is on e) opened-is used-is
      where
        go : (places : List ℕ) → length places ≡ depth
            → walk (sight_at lent) (candidates_at lent) (draw_after lent) left new places (stack_of pool next end (made new depth)) draw ≡ whole
            → sight_at lent places ≡ on
            → opened (candidates_at lent) new places (stack_of pool next end (made new depth)) draw ≡ stack_of pool' next' end' (suc depth)
            → used (draw_after lent) new places draw ≡ r
            → leaves (without (left - 1) r) plan ≡ left_by lent plan whole
        go [] a w s p u =
            ap (left_by lent plan)
            (ap (dry (left - 1)) (sym u)
            ∙ sym (walk_close (sight_at lent) (candidates_at lent) (draw_after lent) left new (stack_of pool next end (made new depth)) (stack_of pool' next' end' depth) draw s
            (p ∙ stack-none pool' next' end' depth o.held (omega (arith, k.within, t.few-choices)) b) h)
            ∙ w)
        go (x ∷ places) a w s p u = absurd (omega arith)

    -- ---- a step down

    -- above depth C only: at depth C there is no candidate
    pub down-within : get_or next' depth 0 < get_or end' depth 0 → depth < lent.day.counts.choices
    unfolding candidates_from
    down-within b = go new refl
      where
        some : stack_of pool' next' end' (suc depth)
            ≡ (get_or pool' (get_or next' depth 0) 0 ∷ window (get_or next' depth 0 + 1) (get_or end' depth 0 - (get_or next' depth 0 + 1)) pool') ∷ stack_of pool' next' end' depth
        some = stack_some pool' next' end' depth o.held (omega (arith, k.within, t.few-choices)) b

        by : (c : Bool) → ltb depth lent.day.counts.choices ≡ c → new ≡ true → depth < lent.day.counts.choices
        by true c e = ltb-true _ _ c
        by false c e =
            let s : stack_of pool' next' end' (suc depth) ≡ [] ∷ stack_of pool next end depth = rw (e, c) at o.stack in
            absurd (omega (arith, ap first_length (sym some ∙ s)))

        go : (b : Bool) → new ≡ b → depth < lent.day.counts.choices
        go true e = by (ltb depth lent.day.counts.choices) refl e
        go false e = k.old-within e

    module _ (choice : ℕ) (b : get_or next' depth 0 < get_or end' depth 0) (q : choice ≡ get_or lent.order depth 0) where
      pub down-known : Known lent.day.mins lent.day.maxs choice
      down-known =
          let c : choice < lent.day.counts.choices = rw q (below _ _ t.ordered depth (down-within b)) in
          record { few = omega (arith, t.few-choices); min-there = omega (arith, t.mins-fit); max-there = omega (arith, t.maxs-fit) }

      -- the choice of a step down is undecided
      pub down-undecided : get_or state.decisions choice 254 ≡ 254
      down-undecided =
          rw (k.decides, q)
          (later-undecided lent.day.counts.choices lent.order t.few-choices (below _ _ t.ordered) (apart_of lent t) k.places depth (omega (arith, k.at)) (down-within b))

      pub down_holds : (v : ℕ) → v ≡ get_or lent.day.maxs choice 0 → v ≤ remaining
      down_holds v e =
          omega (arith, k.remains, remains-at lent depth (omega (arith, down-within b, permutation_length _ _ t.ordered)), e ∙ ap (λ (n : ℕ). get_or lent.day.maxs n 0) q)

      pub at-down : (v : ℕ) (state' : SearchState) → on ≡ sight_from lent.full lent.day state.decisions depth → 0 < left → v ≡ get_or lent.day.maxs choice 0
          → Moved lent.day.mins lent.day.maxs state choice (get_or pool' (get_or next' depth 0) 0) (depth + 1) true (remaining - v) state'
          → Standing lent whole (left - 1) true (depth + 1) r (remaining - v) state' pool' (set next' depth (get_or next' depth 0 + 1)) end'
      at-down v state' e h ev m =
          let few : depth ≤ 64 = omega (arith, k.within, t.few-choices) in
          let place = get_or pool' (get_or next' depth 0) 0 in
          let rest = window (get_or next' depth 0 + 1) (get_or end' depth 0 - (get_or next' depth 0 + 1)) pool' in
          let after = set next' depth (get_or next' depth 0 + 1) in
          let n : made true (depth + 1) ≡ suc depth = made_true depth in
          record {
            places = place ∷ k.places;
            at = omega (arith, k.at);
            within = omega (arith, down-within b);
            old-within = λ z. absurd (false≢true (sym z));
            decides =
                m.decisions
                ∙ ap₂ (λ (d : List ℕ) (c : ℕ). set d c place) k.decides (q ∙ ap (λ (i : ℕ). get_or lent.order i 0) (sym k.at))
                ∙ sym (decided-more lent.order k.places place);
            counted = m.counted;
            remains =
                omega (arith, k.remains, remains-at lent depth (omega (arith, down-within b, permutation_length _ _ t.ordered)), ev ∙ ap (λ (i : ℕ). get_or lent.day.maxs i 0) q);
            held = rw n (held-taken pool' next' end' depth o.held few b);
            same =
                ap₂ (λ (s : List (List ℕ)) (d : ℕ). walk (sight_at lent) (candidates_at lent) (draw_after lent) (left - 1) true (place ∷ k.places) s d)
                (ap (stack_of pool' after end') n ∙ stack-taken pool' next' end' depth o.held few) (sym used-is)
                ∙ sym (walk-down (sight_at lent) (candidates_at lent) (draw_after lent) left new place rest k.places (stack_of pool next end (made new depth)) (stack_of pool' next' end' depth) draw
                (sight_is on e) (opened-is ∙ stack_some pool' next' end' depth o.held few b) h)
                ∙ k.same;
          }

    -- ---- a step back

    module _ (choice : ℕ) (z : 0 < depth) (q : choice ≡ get_or lent.order (depth - 1) 0) where
      back-within : depth - 1 < lent.day.counts.choices
      back-within = omega (arith, k.within)

      pub back-known : Known lent.day.mins lent.day.maxs choice
      back-known =
          let c : choice < lent.day.counts.choices = rw q (below _ _ t.ordered (depth - 1) back-within) in
          record { few = omega (arith, t.few-choices); min-there = omega (arith, t.mins-fit); max-there = omega (arith, t.maxs-fit) }

      back-remains : (v : ℕ) → v ≡ get_or lent.day.maxs choice 0 → remaining + v ≡ remaining_at lent (depth - 1)
      back-remains v e =
          let n : depth - 1 + 1 ≡ depth = omega arith in
          omega (arith, k.remains, rw n at (remains-at lent (depth - 1) (omega (arith, back-within, permutation_length _ _ t.ordered))), e ∙ ap (λ (i : ℕ). get_or lent.day.maxs i 0) q)

      pub back_fits : (v : ℕ) → v ≡ get_or lent.day.maxs choice 0 → ((i : ℕ) → get_or lent.day.maxs i 0 ≤ 65535) → remaining + v < 2 ^ 32
      back_fits v e f =
          omega (arith, back-remains v e, remains-fits lent (depth - 1) f (omega (arith, t.few-choices, permutation_length _ _ t.ordered)))

      pub at_back : (v : ℕ) (state' : SearchState) → on ≡ sight_from lent.full lent.day state.decisions depth → 0 < left → v ≡ get_or lent.day.maxs choice 0
          → get_or end' depth 0 ≤ get_or next' depth 0
          → Moved lent.day.mins lent.day.maxs state choice 254 (depth - 1) false (remaining + v) state'
          → Standing lent whole (left - 1) false (depth - 1) r (remaining + v) state' pool' next' end'
      at_back v state' e h ev b m = go k.places k.at k.same k.decides (sight_is on e) opened-is used-is
        where
          few : depth ≤ 64
          few = omega (arith, k.within, t.few-choices)

          n : made false (depth - 1) ≡ depth
          n = made_false (depth - 1) ∙ omega arith

          go : (places : List ℕ) → length places ≡ depth
              → walk (sight_at lent) (candidates_at lent) (draw_after lent) left new places (stack_of pool next end (made new depth)) draw ≡ whole
              → state.decisions ≡ decided lent.order places
              → sight_at lent places ≡ on
              → opened (candidates_at lent) new places (stack_of pool next end (made new depth)) draw ≡ stack_of pool' next' end' (suc depth)
              → used (draw_after lent) new places draw ≡ r
              → Standing lent whole (left - 1) false (depth - 1) r (remaining + v) state' pool' next' end'
          go [] a w d s p u = absurd (omega arith)
          go (x ∷ places) a w d s p u =
              let a' : length places ≡ depth - 1 = omega arith in
              record {
                places = places;
                at = a';
                within = omega (arith, back-within);
                old-within = λ y. back-within;
                decides =
                    m.decisions
                    ∙ ap₂ (λ (l : List ℕ) (c : ℕ). set l c 254) d (q ∙ ap (λ (i : ℕ). get_or lent.order i 0) (sym a'))
                    ∙ step_back_lem lent.day.counts.choices lent.order t.few-choices (below _ _ t.ordered) (apart_of lent t) x places (omega (arith, back-within));
                counted = m.counted;
                remains = back-remains v ev;
                held = rw n (held_back pool' next' end' (suc depth) depth (omega arith) o.held);
                same =
                    ap₂ (λ (l : List (List ℕ)) (y : ℕ). walk (sight_at lent) (candidates_at lent) (draw_after lent) (left - 1) false places l y)
                    (ap (stack_of pool' next' end') n) (sym u)
                    ∙ sym (walk-back (sight_at lent) (candidates_at lent) (draw_after lent) left new x places (stack_of pool next end (made new depth)) (stack_of pool' next' end' depth) draw
                    s (p ∙ stack-none pool' next' end' depth o.held few b) h)
                    ∙ w;
              }

-- ---- a turn as the code makes it

-- depth, newness and what remains, each by another name
standing_by : (lent : Lent) (whole : Out) (left draw : ℕ) (state : SearchState) (pool next end : List ℕ) (new new' : Bool) (depth depth' remaining remaining' : ℕ)
    → depth' ≡ depth → new' ≡ new → remaining' ≡ remaining
    → Standing lent whole left new depth draw remaining state pool next end
    → Standing lent whole left new' depth' draw remaining' state pool next end
standing_by lent whole left draw state pool next end new new' depth depth' remaining remaining' d n m k = rw (d, n, m) k

-- depth, newness and what remains, as a state has them
standing_in : (lent : Lent) (whole : Out) (left draw : ℕ) (state : SearchState) (pool next end : List ℕ) (new : Bool) (depth remaining : ℕ)
    → state.depth ≡ depth → state.is_new ≡ new → state.remaining ≡ remaining
    → Standing lent whole left new depth draw remaining state pool next end
    → Standing lent whole left state.is_new state.depth draw state.remaining state pool next end
standing_in lent whole left draw state pool next end new depth remaining d n m k =
    standing_by lent whole left draw state pool next end new state.is_new depth state.depth remaining state.remaining d n m k

module _ (lent : Lent) (whole : Out) (left draw : ℕ) (state : SearchState) (pool next end : List ℕ)
    (k : Standing lent whole left state.is_new state.depth draw state.remaining state pool next end) (t : Taken lent) (r : ℕ) (pool' next' end' : List ℕ)
    (kept : length pool' ≡ length pool)
    (w : opening r pool' next' end' ≡ opening_of lent (loads_in state) state.is_new state.depth draw state.remaining pool next end) where
  few_depths : state.depth ≤ 64
  few_depths = omega (arith, k.within, t.few-choices)

  o : Opened (candidates_from lent (loads_in state) state.depth draw) (draw_from lent (loads_in state) state.depth draw) state.is_new state.depth draw pool next end r pool' next' end'
  o = opened_of lent t (loads_in state) state.depth draw state.is_new state.remaining pool next end few_depths k.held k.remains r pool' next' end' kept w

  -- the closing turn
  pub at_closing : (plan : List ℕ) (b : Bool) → on ≡ sight_from lent.full lent.day state.decisions state.depth → 0 < left → b ≡ closes_at state.depth next' end' → b ≡ true
      → leaves (without (left - 1) r) plan ≡ left_by lent plan whole
  unfolding closes_at
  at_closing plan b e h q c =
      let a : (eqb state.depth 0 && leb (get_or end' 0 0) (get_or next' 0 0)) ≡ true = sym q ∙ c in
      let z : state.depth ≡ 0 = eqb-true _ _ (and_left (eqb state.depth 0) (leb (get_or end' 0 0) (get_or next' 0 0)) a) in
      at_close lent whole left state.is_new state.depth draw state.remaining state pool next end k t r pool' next' end' o plan e h z
      (rw z (leb-true _ _ (and_right (eqb state.depth 0) (leb (get_or end' 0 0) (get_or next' 0 0)) a)))

  module _ (b : Bool) (q : b ≡ closes_at state.depth next' end') (c : b ≡ false) where
    -- where no candidate is left and the pass doesn't close, there is a depth above
    above : get_or end' state.depth 0 ≤ get_or next' state.depth 0 → 0 < state.depth
    unfolding closes_at
    above h = elim (ℕ_discrete state.depth 0) [
      | yes z ↦
          let h' : get_or end' 0 0 ≤ get_or next' 0 0 = rw z at h in
          let s : (eqb state.depth 0 && leb (get_or end' 0 0) (get_or next' 0 0)) ≡ true = rw (eq-eqb _ _ z, le-leb _ _ h') in
          absurd (false≢true (sym c ∙ q ∙ s))
      | no n ↦ omega arith
    ]

    -- what the turn asks for
    ready_of : ((i : ℕ) → get_or lent.day.maxs i 0 ≤ 65535) → TurnReady lent.day.mins lent.day.maxs lent.order state next' end'
    ready_of f =
        let new = state.is_new in
        let depth = state.depth in
        let remaining = state.remaining in
        record {
          few = few_depths;
          there = λ h. next-there pool' next' end' depth o.held few_depths h;
          down = λ h.
              record {
                few = few_depths;
                there = omega (arith, down-within lent whole left new depth draw remaining state pool next end k t r pool' next' end' o h, permutation_length _ _ t.ordered);
                known = down-known lent whole left new depth draw remaining state pool next end k t r pool' next' end' o (get_or lent.order depth 0) h refl;
                counted = k.counted;
                undecided = down-undecided lent whole left new depth draw remaining state pool next end k t r pool' next' end' o (get_or lent.order depth 0) h refl;
                holds =
                    down_holds lent whole left new depth draw remaining state pool next end k t r pool' next' end' o (get_or lent.order depth 0) h refl
                    (get_or lent.day.maxs (get_or lent.order depth 0) 0) refl;
              };
          back = λ h.
              record {
                above = above h;
                there = omega (arith, above h, k.within, permutation_length _ _ t.ordered);
                known = back-known lent whole left new depth draw remaining state pool next end k t r pool' next' end' o (get_or lent.order (depth - 1) 0) (above h) refl;
                counted = k.counted;
                fits =
                    back_fits lent whole left new depth draw remaining state pool next end k t r pool' next' end' o (get_or lent.order (depth - 1) 0) (above h) refl
                    (get_or lent.day.maxs (get_or lent.order (depth - 1) 0) 0) refl f;
              };
        }

    module _ (fm : (i : ℕ) → get_or lent.day.mins i 0 ≤ 65535) (fx : (i : ℕ) → get_or lent.day.maxs i 0 ≤ 65535) (state' : SearchState) (next'' : List ℕ)
        (e : on ≡ sight_from lent.full lent.day state.decisions state.depth) (h : 0 < left)
        (turn : turning state' next'' ≡ turn_of lent.day.mins lent.day.maxs lent.order state pool' next' end') where
      d : Turned lent.day.mins lent.day.maxs lent.order state pool' next' end' state' next''
      d = turned_of lent.day.mins lent.day.maxs lent.order state pool' next' end' (ready_of fx) state' next'' fm fx turn

      turned-back : get_or end' state.depth 0 ≤ get_or next' state.depth 0 → Standing lent whole (left - 1) state'.is_new state'.depth r state'.remaining state' pool' next'' end'
      turned-back g =
          let m = d.back g in
          let v = get_or lent.day.maxs (get_or lent.order (state.depth - 1) 0) 0 in
          rw m.0
          (standing_in lent whole (left - 1) r state' pool' next' end' false (state.depth - 1) (state.remaining + v) m.1.deep m.1.newness m.1.remains
          (at_back lent whole left state.is_new state.depth draw state.remaining state pool next end k t r pool' next' end' o (get_or lent.order (state.depth - 1) 0) (above g) refl
          v state' e h refl g m.1))

      turned_down : get_or next' state.depth 0 < get_or end' state.depth 0 → Standing lent whole (left - 1) state'.is_new state'.depth r state'.remaining state' pool' next'' end'
      turned_down g =
          let m = d.down g in
          let v = get_or lent.day.maxs (get_or lent.order state.depth 0) 0 in
          rw m.0
          (standing_in lent whole (left - 1) r state' pool' (set next' state.depth (get_or next' state.depth 0 + 1)) end' true (state.depth + 1) (state.remaining - v) m.1.deep m.1.newness m.1.remains
          (at-down lent whole left state.is_new state.depth draw state.remaining state pool next end k t r pool' next' end' o (get_or lent.order state.depth 0) g refl v state' e h refl m.1))

      -- after it the walk from where the code stands is still the whole pass
      pub at_turn : Standing lent whole (left - 1) state'.is_new state'.depth r state'.remaining state' pool' next'' end'
      at_turn = go (ltb (get_or next' state.depth 0) (get_or end' state.depth 0)) refl
        where
          go : (b : Bool) → ltb (get_or next' state.depth 0) (get_or end' state.depth 0) ≡ b
              → Standing lent whole (left - 1) state'.is_new state'.depth r state'.remaining state' pool' next'' end'
          go true z = turned_down (ltb-true _ _ z)
          go false z = turned-back (ltb-false _ _ z)

-- ---- the pass begins

pub at-start : (lent : Lent) (budget draw remaining : ℕ) (state : SearchState) (pool next end : List ℕ) → Taken lent
    → state.decisions ≡ replicate 64 254 → state.slot_min ≡ replicate 24 0 → state.slot_max ≡ replicate 24 0 → state.sizes ≡ replicate 24 0
    → state.depth ≡ 0 → state.is_new ≡ true → state.remaining ≡ remaining → remaining ≡ remaining_at lent 0 → length pool ≡ 1625 → length next ≡ 65 → length end ≡ 65
    → Standing lent (pass_of lent budget draw) budget state.is_new state.depth draw state.remaining state pool next end
unfolding pass_of
at-start lent budget draw remaining state pool next end t d a b c deep newness rest m p n e =
    standing_in lent (pass_of lent budget draw) budget draw state pool next end true 0 remaining deep newness rest
    record {
      places = [];
      at = refl;
      within = omega arith;
      old-within = λ z. absurd (false≢true (sym z));
      decides = d ∙ sym (decided-none lent.order);
      counted =
          record {
            entries = ap length d ∙ length-replicate {A = ℕ} 64 254;
            min-sums = a ∙ sym (sums-listed lent.day.mins state.decisions ∙ ap (listed (λ k. get_or lent.day.mins k 0)) d ∙ nothing-listed (λ k. get_or lent.day.mins k 0) 64);
            max-sums = b ∙ sym (sums-listed lent.day.maxs state.decisions ∙ ap (listed (λ k. get_or lent.day.maxs k 0)) d ∙ nothing-listed (λ k. get_or lent.day.maxs k 0) 64);
            counts = c ∙ sym (counts-listed state.decisions ∙ ap (listed (λ k. 1)) d ∙ nothing-listed (λ k. 1) 64);
          };
      remains = m;
      held =
          record {
            pool-length = p;
            next-length = n;
            end-length = e;
            begins = λ i h. absurd (omega (arith, rw (made_none) at h));
            rises = λ i h. absurd (omega (arith, rw (made_none) at h));
            ends = λ i h. absurd (omega (arith, rw (made_none) at h));
          };
      same =
          ap (λ (l : List (List ℕ)). walk (sight_at lent) (candidates_at lent) (draw_after lent) budget true [] l draw) (ap (stack_of pool next end) made_none ∙ stack-empty pool next end)
          ∙ sym (pass-walk (sight_at lent) (candidates_at lent) (draw_after lent) budget draw);
    }
