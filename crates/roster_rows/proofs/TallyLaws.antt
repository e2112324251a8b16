-- The pass that counts every byte of a list at its place.
use mathlib.Core.Path.{◌≡◌, refl, sym, ◌∙◌, ap}
use mathlib.Core.List.{List}
use Prim.Native.Nat.{ℕ, zero, suc, ◌+◌, ◌≤◌, ◌<◌}
use native.Mathlib.Decide.{ℕ_discrete}
use native.Mathlib.Omega.{arith}
use borrow.Author.Tests.{eq-eqb, ne_eqb}
use lib.Dec.{eqb}
use lib.ListN.{length, get_or, set, drop, replicate, length-set}
use lib.Seq.{get_or-set_same, get_or-set_other}
use Rattle.base_lists.specs.Below.{one}
use Rattle.base_lists.specs.Group.{times_in}
use Rattle.roster_rows.specs.steps.Shapes.{Tally}
use Rattle.roster_rows.proofs.CellLaws.{times_next, times_end, times_le}

-- the pass over a list, after the first n entries: what is counted and what is left make the whole
pub record Tallying (list : List ℕ) (n : ℕ) (times : List ℕ) : Type 0 where
  pub within : n ≤ length list
  pub entries : length times ≡ 256
  pub counts : (byte : ℕ) → byte ≤ 255 → get_or times byte 0 + times_in byte (drop n list) ≡ times_in byte list

zeros-at : (n i : ℕ) → get_or {A = ℕ} (replicate n 0) i 0 ≡ 0
zeros-at zero i = refl
zeros-at (suc n) zero = refl
zeros-at (suc n) (suc i) = zeros-at n i

-- 1 for equal numbers, 0 for others
pub one_true : (a b : ℕ) → a ≡ b → one (eqb a b) ≡ 1
unfolding one
one_true a b e = rw (eq-eqb a b e)

pub one_false : (a b : ℕ) → (a ≡ b → ⊥) → one (eqb a b) ≡ 0
unfolding one
one_false a b n = rw (ne_eqb a b n)

module _ (list : List ℕ) where
  pub tallying_start : (times : List ℕ) → times ≡ replicate 256 0 → Tallying list 0 times
  tallying_start times e =
      record {
        within = omega arith;
        entries = rw e;
        counts = λ byte h. ap (λ (x : ℕ). x + times_in byte list) (ap (λ l. get_or l byte 0) e ∙ zeros-at 256 byte) ∙ omega arith;
      }

  module _ (n : ℕ) (times : List ℕ) (k : Tallying list n times) where
    -- a count is at most the list's length
    pub tallying_room : (at : ℕ) → at ≤ 255 → get_or times at 0 ≤ length list
    tallying_room at h = omega (arith, k.counts at h, times_le at list)

    pub tallying_next : n < length list → (at : ℕ) (times' : List ℕ) → at ≡ get_or list n 0 → at ≤ 255 → times' ≡ set times at (get_or times at 0 + 1)
        → Tallying list (n + 1) times'
    tallying_next h at times' e b q =
        record {
          within = omega arith;
          entries = rw q (simp length-set k.entries);
          counts = λ byte g. rw q (go byte g);
        }
      where
        go : (byte : ℕ) → byte ≤ 255 → get_or (set times at (get_or times at 0 + 1)) byte 0 + times_in byte (drop (n + 1) list) ≡ times_in byte list
        go byte g =
            let left = times_next byte list n h in
            let whole = k.counts byte g in
            elim (ℕ_discrete byte at) [
              | yes z ↦
                  let s : get_or (set times at (get_or times at 0 + 1)) byte 0 ≡ get_or times byte 0 + 1 = rw z (get_or-set_same times at (get_or times at 0 + 1) 0 (omega (arith, k.entries, b))) in
                  let t : one (eqb byte (get_or list n 0)) ≡ 1 = one_true byte (get_or list n 0) (z ∙ e) in
                  omega (arith, s, t, left, whole)
              | no z ↦
                  let s : get_or (set times at (get_or times at 0 + 1)) byte 0 ≡ get_or times byte 0 = get_or-set_other times at byte (get_or times at 0 + 1) 0 z in
                  let t : one (eqb byte (get_or list n 0)) ≡ 0 = one_false byte (get_or list n 0) (λ y. z (y ∙ sym e)) in
                  omega (arith, s, t, left, whole)
            ]

    pub tallying_done : length list ≤ n → Tally list times
    tallying_done h =
        record {
          entries = k.entries;
          counts = λ byte g. omega (arith, k.counts byte g, times_end byte list n h);
        }
