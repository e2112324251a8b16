-- The settled choices in one pass give what a pass for each slot gives.
use mathlib.Core.Path.{◌≡◌, refl, sym, ◌∙◌, ap, ap₂}
use mathlib.Core.Bool.{Bool, true, false, ◌&&◌, not, cond}
use mathlib.Core.List.{List, [], ◌∷◌, ◌++◌}
use Prim.Native.Nat.{ℕ, zero, suc, ◌+◌, ◌-◌, ◌≤◌, ◌<◌}
use native.Mathlib.Decide.{ℕ_discrete}
use native.Mathlib.Nat.{not-suc-le-zero}
use native.Mathlib.Numerals.{add-one}
use native.Mathlib.Omega.{arith}
use borrow.Author.Tests.{lt-ltb, le-ltb, ltb-true, ltb-false, eq-eqb, ne_eqb}
use lib.Dec.{eqb, ltb}
use lib.ListN.{length, get_or, set, drop, replicate, length-replicate}
use lib.Seq.{set-set, set_comm, set-append_seam, drop-cons}
use Rattle.std.proofs.lemmas.List.{append_assoc, replicate-append-replicate}
use Rattle.base_lists.specs.Below.{sum_below}
use Rattle.base_choice_sets.specs.Sets.{has}
use Rattle.base_choice_sets.proofs.SetLaws.{has-set}
use Rattle.list_tables.specs.steps.Tables.{written}
use Rattle.list_tables.proofs.TableLaws.{written_in}
use Rattle.list_domains.specs.steps.Domains.{settled, lowest_place}
use Rattle.list_domains.proofs.LowestLaws.{lowest_only}
use Rattle.list_rule_tables.specs.steps.Figures.{free_of, settled_in, settled_sum, lack_of, lacks_of}
use Rattle.list_rule_tables.specs.steps.SettledFigures.{changed_by}

-- ---- what is written

-- figures that agree are written alike
pub written_ext : (n : ℕ) (f g : ℕ → ℕ) (first : List ℕ) → ((s : ℕ) → s < n → f s ≡ g s) → written n 0 f first ≡ written n 0 g first
unfolding written
written_ext zero f g first h = refl
written_ext (suc n) f g first h =
    ap₂ (λ (l : List ℕ) (x : ℕ). set l (0 + n) x) (written_ext n f g first λ s l. h s (omega arith)) (h n (omega arith))

-- figures of which one is changed
written_change : (n k v : ℕ) (f g : ℕ → ℕ) (first : List ℕ) → k < n → v ≡ g k → ((s : ℕ) → s < n → (s ≡ k → ⊥) → f s ≡ g s)
    → set (written n 0 f first) k v ≡ written n 0 g first
unfolding written
written_change zero k v f g first l e h = absurd (not-suc-le-zero l)
written_change (suc n) k v f g first l e h = go (ℕ_discrete k n) (written_change n k v f g first)
  where
    go : Dec (k ≡ n) → (k < n → v ≡ g k → ((s : ℕ) → s < n → (s ≡ k → ⊥) → f s ≡ g s) → set (written n 0 f first) k v ≡ written n 0 g first)
        → set (set (written n 0 f first) (0 + n) (f n)) k v ≡ set (written n 0 g first) (0 + n) (g n)
    go (yes q) ih =
        let p : k ≡ 0 + n = omega (arith, q) in
        ap (λ (x : ℕ). set (set (written n 0 f first) (0 + n) (f n)) x v) p
        ∙ set-set (written n 0 f first) (0 + n) (f n) v
        ∙ ap₂ (λ (l : List ℕ) (x : ℕ). set l (0 + n) x) (written_ext n f g first λ s l. h s (omega arith) (λ z. omega arith)) (e ∙ ap g q)
    go (no q) ih =
        let i : set (written n 0 f first) k v ≡ written n 0 g first = ih (omega (arith, q)) e λ s l. h s (omega arith) in
        set_comm (written n 0 f first) (0 + n) k (f n) v (λ z. q (omega arith))
        ∙ ap₂ (λ (l : List ℕ) (x : ℕ). set l (0 + n) x) i (h n (omega arith) (λ z. q (sym z)))

-- ---- one choice, as the code comes by it

module _ (slots domain : ℕ) (change : ℕ → ℕ) (figures : List ℕ) (is : Bool) (i : is ≡ settled domain) where
  pub changed_free : is ≡ false → figures ≡ changed_by slots change domain figures
  unfolding changed_by
  changed_free t = rw (sym i, t)

  module _ (place : ℕ) (t : is ≡ true) (p : place ≡ lowest_place domain) where
    pub changed_past : slots ≤ place → figures ≡ changed_by slots change domain figures
    unfolding changed_by
    changed_past h = rw (sym i, t, sym p, le-ltb place slots h)

    pub changed_in : (v : ℕ) → place < slots → v ≡ change (get_or figures place 0) → set figures place v ≡ changed_by slots change domain figures
    unfolding changed_by
    changed_in v h e = rw (sym i, t, sym p, lt-ltb place slots h) (ap (λ (x : ℕ). set figures place x) e)

-- ---- a pass for each slot

module _ (slots choices : ℕ) (domains first : List ℕ) (few : slots ≤ 64) (room : slots ≤ length first) where
  -- a choice that isn't free stands in a slot exactly if that is its one place
  settled-by : (choice slot : ℕ) (b : Bool) → choice < choices → slot < slots → settled (get_or domains choice 0) ≡ b
      → settled_in (free_of choices domains) domains slot choice ≡ (b && eqb slot (lowest_place (get_or domains choice 0)))
  unfolding settled_in free_of
  settled-by choice slot b h l t =
      rw (has-set choices (λ c. not (settled (get_or domains c 0))) choice h, t) (go b t)
    where
      go : (b : Bool) → settled (get_or domains choice 0) ≡ b
          → (not (not b) && has (get_or domains choice 0) slot) ≡ (b && eqb slot (lowest_place (get_or domains choice 0)))
      go true t = lowest_only (get_or domains choice 0) slot t (omega arith)
      go false t = refl

  -- what one choice changes is what it changes in each slot
  pub change_one : (choice : ℕ) (change : ℕ → ℕ) (f g : ℕ → ℕ) → choice < choices
      → ((slot : ℕ) → g slot ≡ cond (settled_in (free_of choices domains) domains slot choice) (change (f slot)) (f slot))
      → changed_by slots change (get_or domains choice 0) (written slots 0 f first) ≡ written slots 0 g first
  unfolding changed_by
  change_one choice change f g h e = go (settled d) (ltb low slots) refl refl
    where
      d : ℕ
      d = get_or domains choice 0

      low : ℕ
      low = lowest_place d

      by : (b : Bool) → settled d ≡ b → (slot : ℕ) → slot < slots → (c : Bool) → (b && eqb slot low) ≡ c → g slot ≡ cond c (change (f slot)) (f slot)
      by b t slot l c u = e slot ∙ ap (λ (x : Bool). cond x (change (f slot)) (f slot)) (settled-by choice slot b h l t ∙ u)

      go : (b c : Bool) → settled d ≡ b → ltb low slots ≡ c
          → cond (b && c) (set (written slots 0 f first) low (change (get_or (written slots 0 f first) low 0))) (written slots 0 f first) ≡ written slots 0 g first
      go false c t u = written_ext slots f g first λ s l. sym (by false t s l false refl)
      go true false t u =
          written_ext slots f g first λ s l. sym (by true t s l false (ne_eqb s low (λ z. omega (arith, z, l, ltb-false low slots u))))
      go true true t u =
          let k : low < slots = ltb-true low slots u in
          let z : low ≡ 0 + low = omega arith in
          let r : get_or (written slots 0 f first) low 0 ≡ f low =
          ap (λ (x : ℕ). get_or (written slots 0 f first) x 0) z ∙ written_in 0 f first slots low (omega arith) k in
          written_change slots low (change (get_or (written slots 0 f first) low 0)) f g first k
          (ap change r ∙ sym (by true t low k true (eq-eqb low low refl)))
          λ s l n. sym (by true t s l false (ne_eqb s low n))

-- ---- the lacks

-- the first slots lack all choosers
pub lacks-filled : (choosers slots : ℕ) (first : List ℕ) → slots ≤ length first → replicate slots choosers ++ drop slots first ≡ written slots 0 (λ s. choosers) first
unfolding written
lacks-filled choosers zero first h = refl
lacks-filled choosers (suc n) first h =
    let front : List ℕ = replicate n choosers in
    let rest : List ℕ = drop (suc n) first in
    let size : length front ≡ n = length-replicate n choosers in
    let longer : front ++ (choosers ∷ []) ≡ replicate (suc n) choosers = replicate-append-replicate n 1 choosers ∙ ap (λ (k : ℕ). replicate k choosers) (add-one n) in
    let whole : front ++ drop n first ≡ front ++ (get_or first n 0 ∷ rest) = ap (λ (l : List ℕ). front ++ l) (drop-cons first n 0 (omega (arith, h))) in
    let one : set (front ++ (get_or first n 0 ∷ rest)) n choosers ≡ front ++ (choosers ∷ rest) =
    ap (λ (k : ℕ). set (front ++ (get_or first n 0 ∷ rest)) k choosers) (sym size) ∙ set-append_seam front (get_or first n 0) rest choosers in
    ap (λ (l : List ℕ). l ++ rest) (sym longer) ∙ append_assoc front (choosers ∷ []) rest
    ∙ sym (ap (λ (l : List ℕ). set l n choosers) (sym (lacks-filled choosers n first (omega (arith, h))) ∙ whole) ∙ one)
    ∙ ap (λ (k : ℕ). set (written n 0 (λ s. choosers) first) k choosers) (omega arith)

-- what is left of a lack, by a maximum as wide as the lack
pub lack-left : (lack most wide left : ℕ) → left ≡ lack - wide → wide ≡ most → left ≡ lack - most
lack-left lack most wide left e w = e ∙ ap (λ (x : ℕ). lack - x) w

-- what a slot lacks before any choice, and with one choice more
module _ (maxs : List ℕ) (free : ℕ) (domains : List ℕ) (choosers : ℕ) where
  lack-none : (slot : ℕ) → choosers ≡ lack_of 0 choosers maxs free domains slot
  unfolding lack_of settled_sum sum_below
  lack-none slot = omega arith

  lack-next : (choice slot : ℕ) → lack_of (suc choice) choosers maxs free domains slot
      ≡ cond (settled_in free domains slot choice) (lack_of choice choosers maxs free domains slot - get_or maxs choice 0) (lack_of choice choosers maxs free domains slot)
  unfolding lack_of settled_sum sum_below
  lack-next choice slot = go (settled_in free domains slot choice) (settled_sum choice maxs free domains slot)
    where
      go : (b : Bool) (sum : ℕ) → choosers - (sum + cond b (get_or maxs choice 0) 0) ≡ cond b (choosers - sum - get_or maxs choice 0) (choosers - sum)
      go true sum = omega arith
      go false sum = omega arith

-- the slots' lacks before any choice, and with one choice more
module _ (slots choices choosers : ℕ) (maxs domains : List ℕ) (few : slots ≤ 24) where
  abbrev pub lacks_after : ℕ → List ℕ
  lacks_after n = written slots 0 (lack_of n choosers maxs (free_of choices domains) domains) (replicate 24 0)

  pub lacks-start : (none all : List ℕ) → none ≡ replicate 24 0 → all ≡ written slots 0 (λ slot. choosers) none → all ≡ lacks_after 0
  lacks-start none all n a =
      a ∙ ap (λ (x : List ℕ). written slots 0 (λ slot. choosers) x) n
      ∙ written_ext slots (λ slot. choosers) (lack_of 0 choosers maxs (free_of choices domains) domains) (replicate 24 0)
      λ s h. lack-none maxs (free_of choices domains) domains choosers s

  pub lacks-step : (n : ℕ) (lacks after : List ℕ) → n < choices → lacks ≡ lacks_after n
      → after ≡ changed_by slots (λ lack. lack - get_or maxs n 0) (get_or domains n 0) lacks → after ≡ lacks_after (n + 1)
  lacks-step n lacks after h l a =
      let free : ℕ = free_of choices domains in
      let size : length (replicate {A = ℕ} 24 0) ≡ 24 = length-replicate {A = ℕ} 24 0 in
      a ∙ ap (λ (x : List ℕ). changed_by slots (λ lack. lack - get_or maxs n 0) (get_or domains n 0) x) l
      ∙ change_one slots choices domains (replicate 24 0) (omega (arith, few)) (omega (arith, few, size)) n (λ lack. lack - get_or maxs n 0)
      (lack_of n choosers maxs free domains) (lack_of (suc n) choosers maxs free domains) h (lack-next maxs free domains choosers n)
      ∙ ap lacks_after (sym (add-one n))

  pub lacks-end : (n : ℕ) (lacks : List ℕ) → n ≡ choices → lacks ≡ lacks_after n → lacks ≡ lacks_of slots choices choosers maxs (free_of choices domains) domains
  unfolding lacks_of
  lacks-end n lacks e l = l ∙ ap lacks_after e
