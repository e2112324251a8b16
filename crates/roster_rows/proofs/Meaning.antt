-- The rows of kinds 10 to 13 in plain mathematics, each kind apart; and that no two outcomes fit what
-- keeps_assignment_rows promises.
use mathlib.Core.Path.{◌≡◌, refl, sym, ◌∙◌, ap}
use mathlib.Core.Bool.{Bool, true, false, ◌||◌, not, false≢true}
use mathlib.Core.List.{List, [], ◌∷◌}
use mathlib.Core.Logic.{◌↔◌}
use Prim.Native.Nat.{ℕ, zero, suc, ◌<◌, zero-le, suc-le-suc}
use native.Mathlib.Decide.{ℕ_discrete}
use native.Mathlib.Nat.{not-suc-le-zero, le_of_suc-le-suc}
use borrow.Author.Tests.{eq-eqb, eqb-true, not-true}
use lib.Dec.{eqb}
use lib.ListN.{length, get_or}
use Rattle.base_lists.specs.Group.{times_in}
use Rattle.base_lists.specs.Keep.{any_of}
use Rattle.base_lists.proofs.Outcome.{no_two}
use Rattle.day_rows.specs.declared.row.Row.{Row}
use Rattle.plan_check.specs.Plan.{slot_of, omitted}
use Rattle.plan_check.proofs.PlanLaws.{is-omitted, not-omitted}
use Rattle.roster_rows.specs.Cells.{cells_of}
use Rattle.roster_rows.specs.Roster.{Roster}
use Rattle.roster_rows.specs.Rows.{equal_lists, choosers_in, choices_of, is_there, keeps_assignment_row, roster_keeps}
use Rattle.roster_rows.proofs.EqualLaws.{equal_means, equal_by, sorted_times}
use Rattle.roster_rows.proofs.KindLaws.{keeps_10, keeps_11, keeps_12, keeps_13}

-- a cell of the chooser names the choice
unfoldable pub There : Roster → ℕ → ℕ → Type 0
There roster chooser choice =
    (s : ℕ) × (s < length (cells_of roster.slots roster.cells chooser)) × (choice ≡ get_or (cells_of roster.slots roster.cells chooser) s 0)

any_means : (choice : ℕ) (l : List ℕ) → any_of (eqb choice) l ≡ true → (s : ℕ) × (s < length l) × (choice ≡ get_or l s 0)
unfolding any_of
any_means choice [] h = absurd (false≢true h)
any_means choice (x ∷ l) h = go (eqb choice x) refl h (any_means choice l)
  where
    go : (b : Bool) → eqb choice x ≡ b → (b || any_of (eqb choice) l) ≡ true → (any_of (eqb choice) l ≡ true → (s : ℕ) × (s < length l) × (choice ≡ get_or l s 0))
        → (s : ℕ) × (s < length (x ∷ l)) × (choice ≡ get_or (x ∷ l) s 0)
    go true e h ih = (0, suc-le-suc zero-le, eqb-true choice x e)
    go false e h ih = let r = ih h in (suc r.0, suc-le-suc r.1, r.2)

any_by : (choice : ℕ) (l : List ℕ) (s : ℕ) → s < length l → choice ≡ get_or l s 0 → any_of (eqb choice) l ≡ true
unfolding any_of
any_by choice [] s h e = absurd (not-suc-le-zero h)
any_by choice (x ∷ l) zero h e = ap (λ (b : Bool). b || any_of (eqb choice) l) (eq-eqb choice x e)
any_by choice (x ∷ l) (suc s) h e = go (eqb choice x) (any_by choice l s (le_of_suc-le-suc h) e)
  where
    go : (b : Bool) → any_of (eqb choice) l ≡ true → (b || any_of (eqb choice) l) ≡ true
    go true t = refl
    go false t = t

module _ (roster : Roster) (chooser choice : ℕ) where
  pub there_means : is_there roster chooser choice ≡ true → There roster chooser choice
  unfolding is_there There
  there_means h = any_means choice (cells_of roster.slots roster.cells chooser) h

  pub there-by : There roster chooser choice → is_there roster chooser choice ≡ true
  unfolding is_there There
  there-by t = any_by choice (cells_of roster.slots roster.cells chooser) t.0 t.1 t.2

-- a test that an omission spares: it must hold where the choice isn't omitted
module _ (plan : List ℕ) (choice : ℕ) (b : Bool) where
  unless-out : (omitted plan choice || b) ≡ true → (slot_of plan choice ≡ 255 → ⊥) → b ≡ true
  unless-out h n = ap (λ (o : Bool). o || b) (sym (not-omitted plan choice n)) ∙ h

  out_or : ((slot_of plan choice ≡ 255 → ⊥) → b ≡ true) → (omitted plan choice || b) ≡ true
  out_or f =
      elim (ℕ_discrete (slot_of plan choice) 255) [
        | yes e ↦ rw (is-omitted plan choice e)
        | no n ↦ rw (not-omitted plan choice n) (f n)
      ]

or_assoc : (a b c : Bool) → (a || b || c) ≡ (a || (b || c))
or_assoc true b c = refl
or_assoc false b c = refl

-- what each kind of row asks of a roster, in plain words
module _ (roster : Roster) (row : Row) where
  -- '10, if both are scheduled: equal lists of choosers, repeats counted'
  pub kind_10 : row.kind ≡ 10
      → (keeps_assignment_row roster row ≡ true)
      ↔ ((slot_of roster.plan row.left ≡ 255 → ⊥) → (slot_of roster.plan row.right ≡ 255 → ⊥) → choosers_in roster row.left ≡ choosers_in roster row.right)
  kind_10 k =
      let l = choosers_in roster row.left in
      let r = choosers_in roster row.right in
      let e = keeps_10 roster row k ∙ or_assoc (omitted roster.plan row.left) (omitted roster.plan row.right) (equal_lists l r) in (
        λ h a b. equal_means l r (unless-out roster.plan row.right (equal_lists l r) (unless-out roster.plan row.left (omitted roster.plan row.right || equal_lists l r) (sym e ∙ h) a) b),
        λ f. e ∙ out_or roster.plan row.left (omitted roster.plan row.right || equal_lists l r) λ a. out_or roster.plan row.right (equal_lists l r) λ b. equal_by l r (f a b),
      )

  -- '11: omitted, or chooser there'
  pub kind_11 : row.kind ≡ 11
      → (keeps_assignment_row roster row ≡ true) ↔ ((slot_of roster.plan row.right ≡ 255 → ⊥) → There roster row.left row.right)
  kind_11 k =
      let e = keeps_11 roster row k in
      let b = is_there roster row.left row.right in (
        λ h n. there_means roster row.left row.right (unless-out roster.plan row.right b (sym e ∙ h) n),
        λ f. e ∙ out_or roster.plan row.right b λ n. there-by roster row.left row.right (f n),
      )

  -- '12: chooser not there'
  pub kind_12 : row.kind ≡ 12 → (keeps_assignment_row roster row ≡ true) ↔ (There roster row.left row.right → ⊥)
  kind_12 k =
      let e = keeps_12 roster row k in (
        λ h t. false≢true (sym (not-true _ (sym e ∙ h)) ∙ there-by roster row.left row.right t),
        λ n. e ∙ ap not (go (is_there roster row.left row.right) refl n),
      )
    where
      go : (b : Bool) → is_there roster row.left row.right ≡ b → (There roster row.left row.right → ⊥) → is_there roster row.left row.right ≡ false
      go true t n = absurd (n (there_means roster row.left row.right t))
      go false t n = t

  -- '13: equal sorted lists of choices'
  pub kind_13 : row.kind ≡ 13
      → (keeps_assignment_row roster row ≡ true) ↔ (choices_of roster row.left ≡ choices_of roster row.right)
  kind_13 k =
      let e = keeps_13 roster row k in
      (λ h. equal_means _ _ (sym e ∙ h), λ q. e ∙ equal_by _ _ q)

-- the lists of choosers and of choices: each stands in its list as often as the cells say
module _ (roster : Roster) where
  pub choosers-counted : (choice chooser : ℕ) → chooser < roster.choosers → times_in chooser (choosers_in roster choice) ≡ times_in choice (cells_of roster.slots roster.cells chooser)
  unfolding choosers_in
  choosers-counted choice chooser h = sorted_times (λ chooser. times_in choice (cells_of roster.slots roster.cells chooser)) roster.choosers chooser h

  pub choices-counted : (chooser choice : ℕ) → choice < roster.choices → times_in choice (choices_of roster chooser) ≡ times_in choice (cells_of roster.slots roster.cells chooser)
  unfolding choices_of
  choices-counted chooser choice h = sorted_times (λ choice. times_in choice (cells_of roster.slots roster.cells chooser)) roster.choices choice h

-- no two outcomes fit what keeps_assignment_rows promises
pub one_answer : (roster : Roster) (rows : List ℕ) {a b : Bool} → a ≡ roster_keeps roster rows
    → b ≡ roster_keeps roster rows → a ≡ b
one_answer roster rows = no_two
