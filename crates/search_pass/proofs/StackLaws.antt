-- The candidates of all depths in one list: what a store leaves as it was, and the next candidate taken.
use mathlib.Core.Path.{◌≡◌, refl, sym, ◌∙◌, ap, ap₂}
use mathlib.Core.Bool.{Bool, true, false, cond, false≢true}
use mathlib.Core.List.{List, [], ◌∷◌, ◌++◌}
use Prim.Native.Nat.{ℕ, zero, suc, ◌+◌, ◌*◌, ◌-◌, ◌≤◌, ◌<◌}
use native.Mathlib.Decide.{ℕ_discrete}
use native.Mathlib.Omega.{arith}
use lib.ListN.{length, get_or, set, take, drop, length-set, length-drop, length-append, take-append-drop}
use lib.Seq.{length-take-le, drop-append-le, take-append-le, take_at, drop_at, drop-cons, get_or-set_same, get_or-set_other}
use Rattle.base_lists.specs.Pool.{window}
use Rattle.search_pass.proofs.Standing.{stack_of, made, Held, Opened}

-- ---- windows

-- a window that ends in the front of a list
cut-front : (a s m : ℕ) (p : List ℕ) → a + s ≤ m → m ≤ length p → take s (drop a p) ≡ take s (drop a (take m p))
cut-front a s m p b h =
    let l : length (take m p) ≡ m = length-take-le m p h in
    let d : length (drop a (take m p)) ≡ m - a = length-drop a (take m p) ∙ ap (λ (n : ℕ). n - a) l in
    ap (λ (z : List ℕ). take s (drop a z)) (sym (take-append-drop m p))
    ∙ ap (λ (z : List ℕ). take s z) (drop-append-le a (take m p) (drop m p) (omega arith))
    ∙ take-append-le s (drop a (take m p)) (drop m p) (omega arith)

-- lists with an equal front have its windows alike
window-front : (a s m : ℕ) (p q : List ℕ) → a + s ≤ m → m ≤ length p → m ≤ length q → take m p ≡ take m q → window a s p ≡ window a s q
unfolding window
window-front a s m p q b h k e = cut-front a s m p b h ∙ ap (λ (z : List ℕ). take s (drop a z)) e ∙ sym (cut-front a s m q b k)

-- a window with a first entry
window-some : (a b : ℕ) (l : List ℕ) → a < b → b ≤ length l → window a (b - a) l ≡ get_or l a 0 ∷ window (a + 1) (b - (a + 1)) l
unfolding window
window-some a b l h k =
    let e : b - a ≡ suc (b - (a + 1)) = omega arith in
    let f : suc a ≡ a + 1 = omega arith in
    rw (e, drop-cons l a 0 (omega arith), f)

-- a window with no entry
window-none : (a b : ℕ) (l : List ℕ) → b ≤ a → window a (b - a) l ≡ []
unfolding window
window-none a b l h =
    let e : b - a ≡ 0 = omega arith in
    rw e

-- a window has as many entries as it is asked for
pub window-size : (a s : ℕ) (l : List ℕ) → a + s ≤ length l → length (window a s l) ≡ s
unfolding window
window-size a s l h = length-take-le s (drop a l) (omega (arith, length-drop a l))

-- ---- stacks

-- what stands past the depths' own entries is no matter
stack_frame : (n m : ℕ) (pool pool' next next' end end' : List ℕ) → ((i : ℕ) → i < n → get_or next' i 0 ≡ get_or next i 0) → ((i : ℕ) → i < n → get_or end' i 0 ≡ get_or end i 0)
    → ((i : ℕ) → i < n → get_or next i 0 ≤ get_or end i 0) → ((i : ℕ) → i < n → get_or end i 0 ≤ m) → m ≤ length pool → m ≤ length pool' → take m pool' ≡ take m pool
    → stack_of pool' next' end' n ≡ stack_of pool next end n
unfolding stack_of
stack_frame zero m pool pool' next next' end end' nx en up lo h k e = refl
stack_frame (suc n) m pool pool' next next' end end' nx en up lo h k e =
    let u = up n (omega arith) in
    let o = lo n (omega arith) in
    ap₂ (λ (x : List ℕ) (l : List (List ℕ)). x ∷ l)
    (rw (nx n (omega arith), en n (omega arith)) (window-front (get_or next n 0) (get_or end n 0 - get_or next n 0) m pool' pool (omega arith) k h e))
    (stack_frame n m pool pool' next next' end end' (λ i b. nx i (omega arith)) (λ i b. en i (omega arith)) (λ i b. up i (omega arith)) (λ i b. lo i (omega arith)) h k e)

-- no depth has candidates
pub stack-empty : (pool next end : List ℕ) → stack_of pool next end 0 ≡ []
unfolding stack_of
stack-empty pool next end = refl

-- the deepest depth's candidates
pub stack_top : (pool next end : List ℕ) (depth : ℕ) → stack_of pool next end (suc depth) ≡ window (get_or next depth 0) (get_or end depth 0 - get_or next depth 0) pool ∷ stack_of pool next end depth
unfolding stack_of
stack_top pool next end depth = refl

module _ (pool next end : List ℕ) (depth : ℕ) (h : Held pool next end (suc depth)) (few : depth ≤ 64) where
  -- the next candidate stands in the pool
  pub next-there : get_or next depth 0 < get_or end depth 0 → get_or next depth 0 < 1625
  next-there b = omega (arith, h.ends depth (omega arith))

  -- the next candidate is there
  pub stack_some : get_or next depth 0 < get_or end depth 0
      → stack_of pool next end (suc depth) ≡ (get_or pool (get_or next depth 0) 0 ∷ window (get_or next depth 0 + 1) (get_or end depth 0 - (get_or next depth 0 + 1)) pool) ∷ stack_of pool next end depth
  stack_some b =
      stack_top pool next end depth
      ∙ ap (λ (x : List ℕ). x ∷ stack_of pool next end depth) (window-some (get_or next depth 0) (get_or end depth 0) pool b (omega (arith, h.ends depth (omega arith), h.pool-length)))

  -- no candidate is left
  pub stack-none : get_or end depth 0 ≤ get_or next depth 0 → stack_of pool next end (suc depth) ≡ [] ∷ stack_of pool next end depth
  stack-none b =
      stack_top pool next end depth ∙ ap (λ (x : List ℕ). x ∷ stack_of pool next end depth) (window-none (get_or next depth 0) (get_or end depth 0) pool b)

  -- the next candidate taken
  pub stack-taken : stack_of pool (set next depth (get_or next depth 0 + 1)) end (suc depth)
      ≡ window (get_or next depth 0 + 1) (get_or end depth 0 - (get_or next depth 0 + 1)) pool ∷ stack_of pool next end depth
  stack-taken =
      let at = get_or next depth 0 in
      let s : get_or (set next depth (at + 1)) depth 0 ≡ at + 1 = get_or-set_same next depth (at + 1) 0 (omega (arith, h.next-length)) in
      stack_top pool (set next depth (at + 1)) end depth
      ∙ ap₂ (λ (x : ℕ) (l : List (List ℕ)). window x (get_or end depth 0 - x) pool ∷ l) s
      (stack_frame depth 1625 pool pool next (set next depth (at + 1)) end end (λ i b. get_or-set_other next depth i (at + 1) 0 (λ z. omega arith)) (λ i b. refl)
      (λ i b. h.rises i (omega arith)) (λ i b. omega (arith, h.ends i (omega arith))) (omega (arith, h.pool-length)) (omega (arith, h.pool-length)) refl)

  pub held-taken : get_or next depth 0 < get_or end depth 0 → Held pool (set next depth (get_or next depth 0 + 1)) end (suc depth)
  held-taken b =
      let at = get_or next depth 0 in
      let s : get_or (set next depth (at + 1)) depth 0 ≡ at + 1 = get_or-set_same next depth (at + 1) 0 (omega (arith, h.next-length)) in
      record {
        pool-length = h.pool-length;
        next-length = length-set next depth (at + 1) ∙ h.next-length;
        end-length = h.end-length;
        begins =
            λ i l. elim (ℕ_discrete i depth) [
              | yes e ↦ rw (e, s) (omega (arith, h.begins depth (omega arith)))
              | no n ↦ rw (get_or-set_other next depth i (at + 1) 0 n) (h.begins i l)
            ];
        rises =
            λ i l. elim (ℕ_discrete i depth) [
              | yes e ↦ rw (e, s) (omega arith)
              | no n ↦ rw (get_or-set_other next depth i (at + 1) 0 n) (h.rises i l)
            ];
        ends = h.ends;
      }

-- the shallower depths stay as they are
pub held_back : (pool next end : List ℕ) (n m : ℕ) → m ≤ n → Held pool next end n → Held pool next end m
held_back pool next end n m b h =
    record {
      pool-length = h.pool-length;
      next-length = h.next-length;
      end-length = h.end-length;
      begins = λ i l. h.begins i (omega arith);
      rises = λ i l. h.rises i (omega arith);
      ends = λ i l. h.ends i (omega arith);
    }

-- ---- a depth opened

-- the candidates of a depth that isn't new are as they were left
pub opened-left : (candidates : List ℕ) (drawn : ℕ) (new : Bool) (depth draw : ℕ) (pool next end : List ℕ) → new ≡ false → Held pool next end (made new depth)
    → Opened candidates drawn new depth draw pool next end draw pool next end
unfolding made
opened-left candidates drawn new depth draw pool next end e h =
    record { held = go new e h; stack = rw e; draws = rw e }
  where
    go : (new : Bool) → new ≡ false → Held pool next end (cond new depth (suc depth)) → Held pool next end (suc depth)
    go true e h = absurd (false≢true (sym e))
    go false e h = h

-- how many depths have their candidates made
made-new : (new : Bool) (depth : ℕ) → new ≡ true → made new depth ≡ depth
unfolding made
made-new new depth e = rw e

-- the candidates are written at the front of the depth's own entries
module _ (candidates pool pool' next end : List ℕ) (depth : ℕ) (h : Held pool next end depth) (few : depth ≤ 64)
    (put : pool' ≡ take (25 * depth) pool ++ ((candidates ++ drop (length candidates) (window (25 * depth) 25 pool)) ++ drop (25 * depth + 25) pool))
    (same : length pool' ≡ length pool) where
  before-length : length (take (25 * depth) pool) ≡ 25 * depth
  before-length = length-take-le (25 * depth) pool (omega (arith, h.pool-length))

  part_length : length (candidates ++ drop (length candidates) (window (25 * depth) 25 pool)) ≡ 25
  part_length =
      let rest = drop (25 * depth + 25) pool in
      let part = candidates ++ drop (length candidates) (window (25 * depth) 25 pool) in
      omega (
        arith,
        sym same ∙ ap length put ∙ length-append (take (25 * depth) pool) (part ++ rest),
        length-append part rest,
        length-drop (25 * depth + 25) pool,
        before-length,
        h.pool-length,
      )

  pub few-candidates : length candidates ≤ 25
  few-candidates = omega (arith, part_length, length-append candidates (drop (length candidates) (window (25 * depth) 25 pool)))

  after-length : length pool' ≡ 1625
  after-length = same ∙ h.pool-length

  after_front : take (25 * depth) pool' ≡ take (25 * depth) pool
  after_front =
      ap (λ (l : List ℕ). take (25 * depth) l) put
      ∙ take_at (take (25 * depth) pool) ((candidates ++ drop (length candidates) (window (25 * depth) 25 pool)) ++ drop (25 * depth + 25) pool) (25 * depth) before-length

  after-window : window (25 * depth) (length candidates) pool' ≡ candidates
  unfolding window
  after-window =
      let rest = drop (25 * depth + 25) pool in
      let part = candidates ++ drop (length candidates) (window (25 * depth) 25 pool) in
      ap (λ (l : List ℕ). take (length candidates) (drop (25 * depth) l)) put
      ∙ ap (λ (l : List ℕ). take (length candidates) l) (drop_at (take (25 * depth) pool) (part ++ rest) (25 * depth) before-length)
      ∙ take-append-le (length candidates) part rest (omega (arith, few-candidates, part_length))
      ∙ take_at candidates (drop (length candidates) (window (25 * depth) 25 pool)) (length candidates) refl

  module _ (count : ℕ) (c : count ≡ length candidates) where
    next-own : get_or (set next depth (25 * depth)) depth 0 ≡ 25 * depth
    next-own = get_or-set_same next depth (25 * depth) 0 (omega (arith, h.next-length))

    end-own : get_or (set end depth (25 * depth + count)) depth 0 ≡ 25 * depth + count
    end-own = get_or-set_same end depth (25 * depth + count) 0 (omega (arith, h.end-length))

    pub held-made : Held pool' (set next depth (25 * depth)) (set end depth (25 * depth + count)) (suc depth)
    held-made =
        record {
          pool-length = after-length;
          next-length = length-set next depth (25 * depth) ∙ h.next-length;
          end-length = length-set end depth (25 * depth + count) ∙ h.end-length;
          begins =
              λ i l. elim (ℕ_discrete i depth) [
                | yes e ↦ rw (e, next-own) (omega arith)
                | no n ↦ rw (get_or-set_other next depth i (25 * depth) 0 n) (h.begins i (omega arith))
              ];
          rises =
              λ i l. elim (ℕ_discrete i depth) [
                | yes e ↦ rw (e, next-own, end-own) (omega arith)
                | no n ↦ rw (get_or-set_other next depth i (25 * depth) 0 n, get_or-set_other end depth i (25 * depth + count) 0 n) (h.rises i (omega arith))
              ];
          ends =
              λ i l. elim (ℕ_discrete i depth) [
                | yes e ↦ rw (e, end-own) (omega (arith, few-candidates))
                | no n ↦ rw (get_or-set_other end depth i (25 * depth + count) 0 n) (h.ends i (omega arith))
              ];
        }

    pub stack-made : stack_of pool' (set next depth (25 * depth)) (set end depth (25 * depth + count)) (suc depth) ≡ candidates ∷ stack_of pool next end depth
    stack-made =
        let next' = set next depth (25 * depth) in
        let end' = set end depth (25 * depth + count) in
        let size : get_or end' depth 0 - get_or next' depth 0 ≡ length candidates = omega (arith, next-own, end-own) in
        stack_top pool' next' end' depth
        ∙ ap₂ (λ (x : List ℕ) (l : List (List ℕ)). x ∷ l)
        (ap₂ (λ (a n : ℕ). window a n pool') next-own size ∙ after-window)
        (stack_frame depth (25 * depth) pool pool' next next' end end' (λ i b. get_or-set_other next depth i (25 * depth) 0 (λ z. omega arith))
        (λ i b. get_or-set_other end depth i (25 * depth + count) 0 (λ z. omega arith)) (λ i b. h.rises i b) (λ i b. omega (arith, h.ends i b))
        (omega (arith, h.pool-length)) (omega (arith, after-length)) after_front)

    pub opened-made : (drawn : ℕ) (new : Bool) (draw r : ℕ) → new ≡ true → r ≡ drawn
        → Opened candidates drawn new depth draw pool next end r pool' (set next depth (25 * depth)) (set end depth (25 * depth + count))
    opened-made drawn new draw r e d =
        record { held = held-made; stack = rw e stack-made; draws = rw e d }

-- held for a new depth
pub held_new : (pool next end : List ℕ) (new : Bool) (depth : ℕ) → new ≡ true → Held pool next end (made new depth) → Held pool next end depth
held_new pool next end new depth e h = rw (made-new new depth e) at h
