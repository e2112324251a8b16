-- The candidates of a new depth, for each way through the code.
use mathlib.Core.Path.{◌≡◌, refl, sym, ◌∙◌, ap, ap₂}
use mathlib.Core.Bool.{Bool, true, false, ◌&&◌, cond}
use mathlib.Core.List.{List, ◌++◌}
use Prim.Native.Nat.{ℕ, suc, ◌+◌, ◌*◌, ◌-◌, ◌≤◌, ◌<◌}
use native.Mathlib.Omega.{arith}
use borrow.Author.Tests.{lt-ltb, le-ltb, le-leb, lt-leb, eq-eqb, ne_eqb, leb-true, eqb-true}
use borrow.Rule.Slice.PartMut.{put_mid, mid_of, mid_len, Post-is}
use lib.Dec.{eqb, ltb, leb}
use lib.ListN.{length, get_or, set, take, drop, length-append}
use Rattle.base_lists.specs.Pool.{window}
use Rattle.base_lists.proofs.Below.{and_left, and_right}
use Rattle.day_rows.specs.declared.check.Counts.{Counts}
use Rattle.search_map.specs.Map.{looked_up}
use Rattle.search_candidates.specs.Loads.{Loads}
use Rattle.search_candidates.specs.Bucket.{Asked, asked_of, bucket_of, Written, written, bucket_fits, fill_of}
use Rattle.search_candidates.specs.declared.asked.Depth.{Depth}
use Rattle.search_rules.specs.Pass.{Lent, choice_at, next_draw}
use Rattle.search_turn.specs.steps.Opening.{depth_from, asked_from, open_of, opening, opens_at, opened_by, opening_of}

-- ---- a depth's own numbers

abbrev depth_of : ℕ → ℕ → ℕ → ℕ → Bool → ℕ → ℕ → Depth
depth_of choice min max optional last remaining draw =
    record { choice = choice; min = min; max = max; optional = optional; last = last; remaining = remaining; draw = draw }

pub depth_is : (lent : Lent) (depth draw remaining choice min max flag drawn : ℕ) (last : Bool) → choice ≡ get_or lent.order depth 0
    → min ≡ get_or lent.day.mins choice 0 → max ≡ get_or lent.day.maxs choice 0 → flag ≡ get_or lent.day.optional choice 0 → last ≡ eqb (suc depth) lent.day.counts.choices → drawn ≡ get_or lent.draws draw 0
    → depth_of choice min max flag last remaining drawn ≡ depth_from lent depth draw remaining
unfolding depth_from choice_at
depth_is lent depth draw remaining choice min max flag drawn last ec em ex ef el ed = rw (em, ex, ef, el, ed, ec)

-- ---- what is asked for

module _ (asked : Asked) (depth : ℕ) (list : List ℕ) where
  -- at depth C nothing is made
  pub open_none : asked.counts.choices ≤ depth → written 0 false list ≡ open_of asked depth list
  unfolding open_of
  open_none h = rw (le-ltb _ _ h)

  -- no more candidates are written than there is room for
  open_few : (open_of asked depth list).count ≤ length (open_of asked depth list).list
  unfolding open_of fill_of
  open_few = go (ltb depth asked.counts.choices) refl (bucket_fits asked.counts (length list)) refl
    where
      go : (b : Bool) → ltb depth asked.counts.choices ≡ b → (f : Bool) → bucket_fits asked.counts (length list) ≡ f
          → (open_of asked depth list).count ≤ length (open_of asked depth list).list
      go true e true g = rw (e, g) (omega (arith, length-append (bucket_of asked) (drop (length (bucket_of asked)) list)))
      go true e false g = rw (e, g) (omega arith)
      go false e f g = rw e (omega arith)

  count-few : (count : ℕ) (drew : Bool) (bucket : List ℕ) → written count drew bucket ≡ open_of asked depth list → count ≤ length bucket
  count-few count drew bucket e = omega (arith, open_few, ap (λ (w : Written). w.count) e, ap (λ (w : Written). length w.list) e)

-- above depth C the candidates are made, by the rows that were looked up
pub open_some : (counts : Counts) (asked : Depth) (rows looked looked' sets : List ℕ) (loads : Loads) (depth : ℕ) (list : List ℕ) (w : Written) → depth < counts.choices
    → looked ≡ looked' → w ≡ fill_of (asked_of counts asked rows looked sets loads) list → w ≡ open_of (asked_of counts asked rows looked' sets loads) depth list
unfolding open_of
open_some counts asked rows looked looked' sets loads depth list w h l e =
    rw (lt-ltb _ _ h) (e ∙ ap (λ (n : List ℕ). fill_of (asked_of counts asked rows n sets loads) list) l)

-- no more candidates are made than the depth's own entries
pub count_fits : (asked : Asked) (depth : ℕ) (pool : List ℕ) (count : ℕ) (drew : Bool) (bucket : List ℕ) → 25 * depth + 25 ≤ length pool
    → written count drew bucket ≡ open_of asked depth (mid_of (25 * depth) (25 * depth + 25 - 25 * depth) pool)
    → length bucket ≡ length (mid_of (25 * depth) (25 * depth + 25 - 25 * depth) pool) → count ≤ 25
count_fits asked depth pool count drew bucket h w e =
    let n : 25 * depth + 25 - 25 * depth ≡ 25 = omega arith in
    let l : length bucket ≡ 25 = e ∙ mid_len (25 * depth) (25 * depth + 25) pool h ∙ n in
    omega (arith, count-few asked depth (mid_of (25 * depth) (25 * depth + 25 - 25 * depth) pool) count drew bucket w)

-- ---- what is taken

module _ (new : Bool) (depth pool next end : ℕ) where
  pub opens-old : new ≡ false → false ≡ opens_at new depth pool next end
  unfolding opens_at
  opens-old e = rw e

  module _ (n : new ≡ true) where
    pub opens-deep : 64 < depth → false ≡ opens_at new depth pool next end
    unfolding opens_at
    opens-deep h = rw (n, lt-leb _ _ h)

    module _ (d : depth ≤ 64) where
      pub opens-pool : (pool ≡ 1625 → ⊥) → false ≡ opens_at new depth pool next end
      unfolding opens_at
      opens-pool h = rw (n, le-leb _ _ d, ne_eqb _ _ h)

      module _ (p : pool ≡ 1625) where
        pub opens-next : (next ≡ 65 → ⊥) → false ≡ opens_at new depth pool next end
        unfolding opens_at
        opens-next h = rw (n, le-leb _ _ d, eq-eqb _ _ p, ne_eqb _ _ h)

        pub opens-end : next ≡ 65 → eqb end 65 ≡ opens_at new depth pool next end
        unfolding opens_at
        opens-end h = rw (n, le-leb _ _ d, eq-eqb _ _ p, eq-eqb _ _ h)

-- what the test of what opening a depth takes says
pub record Room (depth pool next end : ℕ) : Type 0 where
  pub few : depth ≤ 64
  pub pool-length : pool ≡ 1625
  pub next-length : next ≡ 65
  pub end-length : end ≡ 65

pub room_of : (new : Bool) (depth pool next end : ℕ) → true ≡ opens_at new depth pool next end → Room depth pool next end
unfolding opens_at
room_of new depth pool next end e =
    let h : (new && leb depth 64 && eqb pool 1625 && eqb next 65 && eqb end 65) ≡ true = sym e in
    let a : (new && leb depth 64 && eqb pool 1625 && eqb next 65) ≡ true = and_left (new && leb depth 64 && eqb pool 1625 && eqb next 65) (eqb end 65) h in
    let b : (new && leb depth 64 && eqb pool 1625) ≡ true = and_left (new && leb depth 64 && eqb pool 1625) (eqb next 65) a in
    let c : (new && leb depth 64) ≡ true = and_left (new && leb depth 64) (eqb pool 1625) b in
    record {
      few = leb-true _ _ (and_right new (leb depth 64) c);
      pool-length = eqb-true _ _ (and_right (new && leb depth 64) (eqb pool 1625) b);
      next-length = eqb-true _ _ (and_right (new && leb depth 64 && eqb pool 1625) (eqb next 65) a);
      end-length = eqb-true _ _ (and_right (new && leb depth 64 && eqb pool 1625 && eqb next 65) (eqb end 65) h);
    }

-- ---- a depth opened

module _ (lent : Lent) (loads : Loads) (new : Bool) (depth draw remaining : ℕ) (pool next end : List ℕ) where
  -- what opening a depth doesn't take stays as it was
  pub opening-left : false ≡ opens_at new depth (length pool) (length next) (length end)
      → opening draw pool next end ≡ opening_of lent loads new depth draw remaining pool next end
  unfolding opening_of
  opening-left e = rw (sym e)

  -- what is asked for is the depth's
  asked_is : (asked : Depth) → asked ≡ depth_from lent depth draw remaining
      → asked_of lent.day.counts asked lent.day.rows (looked_up lent.map lent.whole asked.choice) lent.sets loads ≡ asked_from lent loads depth draw remaining
  unfolding asked_from depth_from choice_at
  asked_is asked e = ap (λ (d : Depth). asked_of lent.day.counts d lent.day.rows (looked_up lent.map lent.whole d.choice) lent.sets loads) e

  pub opening-made : (asked : Depth) (r count : ℕ) (drew : Bool) (bucket : List ℕ) → true ≡ opens_at new depth (length pool) (length next) (length end)
      → asked ≡ depth_from lent depth draw remaining
      → written count drew bucket ≡ open_of (asked_of lent.day.counts asked lent.day.rows (looked_up lent.map lent.whole asked.choice) lent.sets loads) depth (mid_of (25 * depth) (25 * depth + 25 - 25 * depth) pool)
      → r ≡ cond drew (next_draw lent.draws draw) draw
      → opening r (put_mid (25 * depth) (25 * depth + 25 - 25 * depth) pool bucket) (set next depth (25 * depth)) (set end depth (25 * depth + count))
      ≡ opening_of lent loads new depth draw remaining pool next end
  unfolding opening_of opened_by window
  opening-made asked r count drew bucket t a w d =
      let n : 25 * depth + 25 - 25 * depth ≡ 25 = omega arith in
      let made : written count drew bucket ≡ open_of (asked_from lent loads depth draw remaining) depth (window (25 * depth) 25 pool)
      = w ∙ ap₂ (λ (x : Asked) (k : ℕ). open_of x depth (take k (drop (25 * depth) pool))) (asked_is asked a) n in
      rw (sym t, sym made, d)
      (ap (λ (l : List ℕ). opening (cond drew (next_draw lent.draws draw) draw) (take (25 * depth) pool ++ (bucket ++ l)) (set next depth (25 * depth)) (set end depth (25 * depth + count)))
      (Post-is (25 * depth) (25 * depth + 25) pool (omega arith)))
