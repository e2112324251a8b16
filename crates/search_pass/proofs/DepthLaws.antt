-- The candidates of a new depth: what the code made of the pool is the rule's.
use mathlib.Core.Path.{◌≡◌, refl, ◌∙◌, ap}
use mathlib.Core.Bool.{Bool, true, false, ◌&&◌, cond}
use mathlib.Core.List.{List, [], ◌++◌}
use Prim.Native.Nat.{ℕ, ◌*◌, ◌≤◌, ◌<◌}
use native.Mathlib.Omega.{arith}
use borrow.Author.Tests.{le-leb, lt-ltb, eq-eqb}
use lib.Dec.{ltb}
use lib.ListN.{length, drop}
use Rattle.base_lists.specs.Pool.{window}
use Rattle.search_candidates.specs.Loads.{Loads}
use Rattle.search_candidates.specs.Bucket.{bucket_of, draws_one, Written, written, bucket_fits, fill_of}
use Rattle.search_rules.specs.Pass.{Lent, choice_at, remaining_at, next_draw}
use Rattle.search_turn.specs.steps.Opening.{depth_from, asked_from, open_of, Opening, opening, opens_at, opened_by, opening_of}
use Rattle.search_pass.specs.steps.Taken.{Taken}
use Rattle.search_pass.proofs.Standing.{made, Held, Opened}
use Rattle.search_pass.proofs.StackLaws.{opened-left, opened-made, held_new, window-size}

-- the candidates of a depth, by the sums and counts as the code has them; there are none at depth C
unfoldable pub candidates_from : Lent → Loads → ℕ → ℕ → List ℕ
candidates_from lent loads depth draw =
    cond (ltb depth lent.day.counts.choices) (bucket_of (asked_from lent loads depth draw (remaining_at lent depth))) []

-- whether making the candidates of a depth uses a draw
unfoldable pub drew_from : Lent → Loads → ℕ → ℕ → Bool
drew_from lent loads depth draw = ltb depth lent.day.counts.choices && draws_one (asked_from lent loads depth draw (remaining_at lent depth))

-- the place of the next draw once the candidates are made
unfoldable pub draw_from : Lent → Loads → ℕ → ℕ → ℕ
draw_from lent loads depth draw = cond (drew_from lent loads depth draw) (next_draw lent.draws draw) draw

module _ (lent : Lent) (t : Taken lent) (loads : Loads) (depth draw : ℕ) where
  -- 25 entries have room for S + 1 candidates
  few-room : (list : List ℕ) → length list ≡ 25 → lent.day.counts.slots < length list
  few-room list l = omega (arith, t.few-slots)

  -- what is written is the depth's candidates
  open_is : (list : List ℕ) → length list ≡ 25
      → open_of (asked_from lent loads depth draw (remaining_at lent depth)) depth list
      ≡ written (length (candidates_from lent loads depth draw)) (drew_from lent loads depth draw) (candidates_from lent loads depth draw ++ drop (length (candidates_from lent loads depth draw)) list)
  unfolding open_of candidates_from drew_from fill_of bucket_fits asked_from
  open_is list l = go (ltb depth lent.day.counts.choices) refl
    where
      go : (b : Bool) → ltb depth lent.day.counts.choices ≡ b
          → open_of (asked_from lent loads depth draw (remaining_at lent depth)) depth list
          ≡ written (length (candidates_from lent loads depth draw)) (drew_from lent loads depth draw) (candidates_from lent loads depth draw ++ drop (length (candidates_from lent loads depth draw)) list)
      go true e = rw (e, le-leb _ _ t.few-choices, le-leb _ _ t.few-slots, lt-ltb _ _ (few-room list l))
      go false e = rw e

  module _ (new : Bool) (remaining : ℕ) (pool next end : List ℕ) (few : depth ≤ 64) (h : Held pool next end (made new depth)) (m : remaining ≡ remaining_at lent depth) where
    -- a depth that isn't new is left as it was
    opening-old : new ≡ false → opening_of lent loads new depth draw remaining pool next end ≡ opening draw pool next end
    unfolding opening_of opens_at
    opening-old e = rw e

    -- a new depth's candidates are made
    opening-new : new ≡ true → opening_of lent loads new depth draw remaining pool next end
        ≡ opened_by (open_of (asked_from lent loads depth draw remaining) depth (window (25 * depth) 25 pool)) lent.draws depth draw pool next end
    unfolding opening_of opens_at asked_from depth_from choice_at
    opening-new e = rw (e, le-leb _ _ few, eq-eqb _ _ h.pool-length, eq-eqb _ _ h.next-length, eq-eqb _ _ h.end-length)

    wrote : new ≡ true → open_of (asked_from lent loads depth draw remaining) depth (window (25 * depth) 25 pool)
        ≡ written (length (candidates_from lent loads depth draw)) (drew_from lent loads depth draw)
        (candidates_from lent loads depth draw ++ drop (length (candidates_from lent loads depth draw)) (window (25 * depth) 25 pool))
    wrote e = ap (λ (n : ℕ). open_of (asked_from lent loads depth draw n) depth (window (25 * depth) 25 pool)) m ∙ open_is (window (25 * depth) 25 pool) (window-size (25 * depth) 25 pool (omega (arith, h.pool-length)))

    module _ (r : ℕ) (pool' next' end' : List ℕ) (same : length pool' ≡ length pool) (w : opening r pool' next' end' ≡ opening_of lent loads new depth draw remaining pool next end) where
      left_as : new ≡ false → Opened (candidates_from lent loads depth draw) (draw_from lent loads depth draw) new depth draw pool next end r pool' next' end'
      left_as e =
          let z : opening r pool' next' end' ≡ opening draw pool next end = w ∙ opening-old e in
          rw (ap (λ (o : Opening). o.draw) z, ap (λ (o : Opening). o.pool) z, ap (λ (o : Opening). o.next) z, ap (λ (o : Opening). o.end) z)
          (opened-left (candidates_from lent loads depth draw) (draw_from lent loads depth draw) new depth draw pool next end e h)

      made_as : new ≡ true → Opened (candidates_from lent loads depth draw) (draw_from lent loads depth draw) new depth draw pool next end r pool' next' end'
      unfolding opened_by draw_from
      made_as e =
          let z = w ∙ opening-new e ∙ ap (λ (x : Written). opened_by x lent.draws depth draw pool next end) (wrote e) in
          rw (ap (λ (o : Opening). o.next) z, ap (λ (o : Opening). o.end) z)
          (opened-made (candidates_from lent loads depth draw) pool pool' next end depth (held_new pool next end new depth e h) few (ap (λ (o : Opening). o.pool) z) same
          (length (candidates_from lent loads depth draw)) refl (cond (drew_from lent loads depth draw) (next_draw lent.draws draw) draw) new draw r e (ap (λ (o : Opening). o.draw) z))

      -- the depth's candidates are made where it is new, and left where it isn't
      pub opened_of : Opened (candidates_from lent loads depth draw) (draw_from lent loads depth draw) new depth draw pool next end r pool' next' end'
      opened_of = go new refl
        where
          go : (b : Bool) → new ≡ b → Opened (candidates_from lent loads depth draw) (draw_from lent loads depth draw) new depth draw pool next end r pool' next' end'
          go true e = made_as e
          go false e = left_as e
