-- The counts as the code comes by them.
use mathlib.Core.Path.{◌≡◌, refl, sym, ◌∙◌, ap, ap₂}
use mathlib.Core.Bool.{Bool, true, false, cond}
use mathlib.Core.List.{List}
use Prim.Native.Nat.{ℕ, zero, suc, ◌+◌, ◌≤◌, ◌<◌}
use native.Mathlib.Nat.{add-zero}
use native.Mathlib.Numerals.{add-one}
use native.Mathlib.Omega.{arith}
use lib.ListN.{length, get_or, set, replicate, length-replicate, get_or-replicate}
use lib.Seq.{set-get_or}
use Rattle.base_lists.specs.Below.{one, count_below}
use Rattle.base_lists.proofs.CountBelow.{count_le}
use Rattle.list_tables.specs.steps.Tables.{written}
use Rattle.list_tables.proofs.TableLaws.{written_in, written-more}
use Rattle.list_rule_tables.specs.steps.Figures.{free_of, settled_in}
use Rattle.list_rule_tables.specs.steps.SettledFigures.{changed_by}
use Rattle.list_rule_tables.proofs.SettledLaws.{change_one}
use Rattle.list_rule_counts.specs.steps.CountRule.{settled_count}
use Rattle.list_rule_counts.specs.steps.Figures.{fewest_in}

-- ---- the settled choices of each slot

module _ (free : ℕ) (domains : List ℕ) where
  settled-none : (slot : ℕ) → settled_count 0 free domains slot ≡ 0
  unfolding settled_count count_below
  settled-none slot = refl

  -- with one choice more
  settled-next : (choice slot : ℕ) → settled_count (suc choice) free domains slot
      ≡ cond (settled_in free domains slot choice) (settled_count choice free domains slot + 1) (settled_count choice free domains slot)
  unfolding settled_count count_below one
  settled-next choice slot = go (settled_in free domains slot choice) (settled_count choice free domains slot)
    where
      go : (b : Bool) (count : ℕ) → count + one b ≡ cond b (count + 1) count
      go true count = refl
      go false count = add-zero count

pub settled_le : (n free : ℕ) (domains : List ℕ) (slot : ℕ) → settled_count n free domains slot ≤ n
unfolding settled_count
settled_le n free domains slot = count_le n (settled_in free domains slot)

-- a slot's figure stands at its place
pub figure_at : (slots : ℕ) (f : ℕ → ℕ) → slots ≤ 24 → (slot : ℕ) → slot < slots → get_or (written slots 0 f (replicate 24 0)) slot 0 ≡ f slot
figure_at slots f few slot hs =
    let z : slot ≡ 0 + slot = omega arith in
    let n : length (replicate {A = ℕ} 24 0) ≡ 24 = length-replicate {A = ℕ} 24 0 in
    ap (λ (x : ℕ). get_or (written slots 0 f (replicate 24 0)) x 0) z ∙ written_in 0 f (replicate 24 0) slots slot (omega (arith, n)) hs

-- nothing written
written_none : (n : ℕ) (f : ℕ → ℕ) → n ≤ 24 → ((s : ℕ) → f s ≡ 0) → written n 0 f (replicate 24 0) ≡ replicate 24 0
unfolding written
written_none zero f h e = refl
written_none (suc n) f h e =
    let z : get_or {A = ℕ} (replicate 24 0) (0 + n) 0 ≡ 0 = get_or-replicate {A = ℕ} 24 (0 + n) 0 0 (omega arith) in
    ap₂ (λ (l : List ℕ) (x : ℕ). set l (0 + n) x) (written_none n f (omega arith) e) (e n ∙ sym z) ∙ set-get_or (replicate 24 0) (0 + n) 0

-- the counts by the choices passed
module _ (slots choices : ℕ) (domains : List ℕ) (few : slots ≤ 24) where
  abbrev pub counts_after : ℕ → List ℕ
  counts_after n = written slots 0 (settled_count n (free_of choices domains) domains) (replicate 24 0)

  pub counts_start : (none : List ℕ) → none ≡ replicate 24 0 → none ≡ counts_after 0
  counts_start none e = e ∙ sym (written_none slots (settled_count 0 (free_of choices domains) domains) few (settled-none (free_of choices domains) domains))

  pub counts_step : (n : ℕ) (settled after : List ℕ) → n < choices → settled ≡ counts_after n
      → after ≡ changed_by slots (λ count. count + 1) (get_or domains n 0) settled → after ≡ counts_after (n + 1)
  counts_step n settled after h s a =
      let free : ℕ = free_of choices domains in
      let size : length (replicate {A = ℕ} 24 0) ≡ 24 = length-replicate {A = ℕ} 24 0 in
      a ∙ ap (λ (x : List ℕ). changed_by slots (λ count. count + 1) (get_or domains n 0) x) s
      ∙ change_one slots choices domains (replicate 24 0) (omega (arith, few)) (omega (arith, few, size)) n (λ count. count + 1)
      (settled_count n free domains) (settled_count (suc n) free domains) h (settled-next free domains n)
      ∙ ap counts_after (sym (add-one n))

  pub counts-few : (n : ℕ) (settled : List ℕ) → n ≤ 64 → settled ≡ counts_after n → (slot : ℕ) → slot < slots → get_or settled slot 0 ≤ 64
  counts-few n settled h s slot l =
      let e : get_or settled slot 0 ≡ settled_count n (free_of choices domains) domains slot =
      ap (λ (x : List ℕ). get_or x slot 0) s ∙ figure_at slots (settled_count n (free_of choices domains) domains) few slot l in
      omega (arith, e, settled_le n (free_of choices domains) domains slot)

-- ---- the least counts, one slot more

pub fewest-in : (entry : ℕ → ℕ → ℕ → ℕ) (from : ℕ) (lacks settled : List ℕ) (slot more : ℕ)
    → more ≡ entry 0 from (get_or lacks slot 0) → get_or settled slot 0 + more ≡ fewest_in entry from lacks settled slot
unfolding fewest_in
fewest-in entry from lacks settled slot more m = ap (λ (x : ℕ). get_or settled slot 0 + x) m

pub written_step : (f : ℕ → ℕ) (slot v : ℕ) (first array : List ℕ) → array ≡ written slot 0 f first → v ≡ f slot → set array slot v ≡ written (slot + 1) 0 f first
written_step f slot v first array a e =
    let z : slot ≡ 0 + slot = omega arith in
    ap₂ (λ (l : List ℕ) (x : ℕ). set l slot x) a e ∙ ap (λ (x : ℕ). set (written slot 0 f first) x (f slot)) z ∙ written-more 0 f first slot
