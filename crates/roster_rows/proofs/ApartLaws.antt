-- The slots that a chooser's cells meet, and the seats of one choice.
use mathlib.Core.Path.{◌≡◌, refl, sym, ◌∙◌, ap}
use mathlib.Core.Bool.{Bool, true, false, ◌&&◌, ◌||◌, not}
use mathlib.Core.List.{List}
use Prim.Native.Nat.{ℕ, zero, suc, ◌+◌, ◌≤◌, ◌<◌}
use native.Mathlib.Decide.{ℕ_discrete}
use native.Mathlib.Nat.{not-suc-le-zero}
use native.Mathlib.Omega.{arith}
use borrow.Author.Tests.{eq-eqb, ne_eqb}
use lib.Dec.{eqb, leb}
use lib.ListN.{length, get_or, set, replicate, length-set}
use lib.Seq.{get_or-set_same, get_or-set_other}
use Rattle.std.proofs.lemmas.Bool.{false≢true}
use Rattle.base_lists.specs.Below.{all_below}
use Rattle.base_lists.proofs.Below.{all_more, each_all, one-fails}
use Rattle.plan_check.specs.Plan.{slot_of}
use Rattle.roster_rows.specs.Seats.{slots_apart}

-- the slot that the cell at a place names, and whether the cells before it name others
abbrev pub slot_at : List ℕ → List ℕ → ℕ → ℕ
slot_at plan cells s = slot_of plan (get_or cells s 0)

abbrev pub elsewhere : List ℕ → List ℕ → ℕ → Bool
elsewhere plan cells s = all_below s λ t. not (eqb (slot_at plan cells s) (slot_at plan cells t))

-- the pass over a chooser's cells, after the first n: they stand apart, and exactly their slots are marked
pub record Meeting (plan cells : List ℕ) (n : ℕ) (met : List Bool) : Type 0 where
  pub within : n ≤ length cells
  pub apart : all_below n (elsewhere plan cells) ≡ true
  pub entries : length met ≡ 256
  pub unmarked : (slot : ℕ) → get_or met slot false ≡ false → (t : ℕ) → t < n → slot_at plan cells t ≡ slot → ⊥
  pub marked : (slot : ℕ) → get_or met slot false ≡ true → (t : ℕ) × (t < n) × (slot_at plan cells t ≡ slot)

none-marked : (n i : ℕ) → get_or (replicate n false) i false ≡ false
none-marked zero i = refl
none-marked (suc n) zero = refl
none-marked (suc n) (suc i) = none-marked n i

module _ (plan cells : List ℕ) where
  pub meeting_start : (met : List Bool) → met ≡ replicate 256 false → Meeting plan cells 0 met
  unfolding all_below
  meeting_start met e =
      record {
        within = omega arith;
        apart = refl;
        entries = rw e;
        unmarked = λ slot n t h q. not-suc-le-zero h;
        marked = λ slot m. absurd (false≢true (sym (ap (λ (l : List Bool). get_or l slot false) e ∙ none-marked 256 slot) ∙ m));
      }

  module _ (n : ℕ) (met : List Bool) (k : Meeting plan cells n met) (h : n < length cells) (slot : ℕ) (e : slot ≡ slot_at plan cells n) where
    -- a slot that is marked is met twice
    pub meeting_again : get_or met slot false ≡ true → false ≡ slots_apart plan cells
    unfolding slots_apart
    meeting_again m =
        let w = k.marked slot m in
        sym (one-fails (length cells) (elsewhere plan cells) n h
        (one-fails n (λ t. not (eqb (slot_at plan cells n) (slot_at plan cells t))) w.0 w.1
        (ap not (eq-eqb _ _ (sym (w.2 ∙ e))))))

    -- a slot that isn't marked is met for the first time, and marked
    pub meeting_next : slot ≤ 255 → get_or met slot false ≡ false → Meeting plan cells (n + 1) (set met slot true)
    meeting_next b m =
        record {
          within = omega arith;
          apart =
              all_more (elsewhere plan cells) n k.apart
              (each_all n (λ t. not (eqb (slot_at plan cells n) (slot_at plan cells t))) λ t ht.
              ap not (ne_eqb _ _ λ z. k.unmarked slot m t ht (sym (e ∙ z))));
          entries = simp length-set k.entries;
          unmarked = unmarked';
          marked = marked';
        }
      where
        same : get_or (set met slot true) slot false ≡ true
        same = get_or-set_same met slot true false (omega (arith, k.entries, b))

        unmarked' : (other : ℕ) → get_or (set met slot true) other false ≡ false → (t : ℕ) → t < n + 1 → slot_at plan cells t ≡ other → ⊥
        unmarked' other u t ht q =
            elim (ℕ_discrete other slot) [
              | yes z ↦ absurd (false≢true (sym u ∙ rw z same))
              | no z ↦
                  elim (ℕ_discrete t n) [
                    | yes w ↦ z (sym q ∙ ap (slot_at plan cells) w ∙ sym e)
                    | no w ↦ k.unmarked other (sym (get_or-set_other met slot other true false z) ∙ u) t (omega arith) q
                  ]
            ]

        marked' : (other : ℕ) → get_or (set met slot true) other false ≡ true → (t : ℕ) × (t < n + 1) × (slot_at plan cells t ≡ other)
        marked' other u =
            elim (ℕ_discrete other slot) [
              | yes z ↦ (n, omega arith, sym e ∙ sym z)
              | no z ↦
                  let w = k.marked other (sym (get_or-set_other met slot other true false z) ∙ u) in
                  (w.0, omega (arith, w.1), w.2)
            ]

  pub meeting_done : (n : ℕ) (met : List Bool) → Meeting plan cells n met → length cells ≤ n → true ≡ slots_apart plan cells
  unfolding slots_apart
  meeting_done n met k h =
      let e : n ≡ length cells = omega (arith, k.within, h) in
      sym (rw e at k.apart)

-- the seats of one choice, a law for each way through their test
module _ (place least most seats : ℕ) where
  pub choice-omitted : place ≡ 255 → true ≡ (eqb place 255 || (leb least seats && leb seats most))
  choice-omitted e = rw (eq-eqb _ _ e)

  pub choice-under : (place ≡ 255 → ⊥) → leb least seats ≡ false → false ≡ (eqb place 255 || (leb least seats && leb seats most))
  choice-under n l = rw (ne_eqb _ _ n, l)

  pub choice-most : (place ≡ 255 → ⊥) → leb least seats ≡ true → leb seats most ≡ (eqb place 255 || (leb least seats && leb seats most))
  choice-most n l = rw (ne_eqb _ _ n, l)
