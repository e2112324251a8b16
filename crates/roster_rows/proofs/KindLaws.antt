-- The rows of kinds 10 to 13: each kind's sentence, and each way through keeps_assignment_rows.
use mathlib.Core.Path.{◌≡◌, sym, ◌∙◌, ap}
use mathlib.Core.Bool.{Bool, true, false, ◌||◌, not}
use mathlib.Core.List.{List}
use Prim.Native.Nat.{ℕ, ◌+◌, ◌*◌, ◌≤◌, ◌<◌}
use borrow.Author.Tests.{eq-eqb, ne_eqb, le-leb, lt-leb}
use lib.Dec.{eqb}
use lib.ListN.{length, get_or}
use Rattle.base_lists.specs.Below.{all_below}
use Rattle.base_lists.specs.Group.{times_in}
use Rattle.base_lists.proofs.Below.{all_more, one-fails}
use Rattle.day_rows.specs.declared.row.Row.{Row}
use Rattle.plan_check.specs.Plan.{omitted}
use Rattle.roster_rows.specs.Cells.{cells_of}
use Rattle.roster_rows.specs.Roster.{Roster}
use Rattle.roster_rows.specs.Rows.{equal_lists, choosers_in, choices_of, is_there, keeps_assignment_row, keeps_assignment_rows, roster_keeps}
use Rattle.roster_rows.specs.steps.Shapes.{Tally}
use Rattle.roster_rows.proofs.EqualLaws.{sorted_equal}

-- lists of choosers, and of choices, are equal exactly if their counts are
module _ (roster : Roster) where
  pub choosers-equal : (left right : ℕ)
      → all_below roster.choosers (λ chooser. eqb (times_in left (cells_of roster.slots roster.cells chooser)) (times_in right (cells_of roster.slots roster.cells chooser)))
      ≡ equal_lists (choosers_in roster left) (choosers_in roster right)
  unfolding choosers_in
  choosers-equal left right =
      sym (sorted_equal roster.choosers (λ chooser. times_in left (cells_of roster.slots roster.cells chooser)) (λ chooser. times_in right (cells_of roster.slots roster.cells chooser)))

  pub choices-equal : (left right : ℕ)
      → all_below roster.choices (λ choice. eqb (times_in choice (cells_of roster.slots roster.cells left)) (times_in choice (cells_of roster.slots roster.cells right)))
      ≡ equal_lists (choices_of roster left) (choices_of roster right)
  unfolding choices_of
  choices-equal left right =
      sym (sorted_equal roster.choices (λ choice. times_in choice (cells_of roster.slots roster.cells left)) (λ choice. times_in choice (cells_of roster.slots roster.cells right)))

-- the loop over the choosers: the two counts of one chooser, as the code has read them
module _ (roster : Roster) (left right chooser : ℕ) (cells : List ℕ) (e : cells ≡ cells_of roster.slots roster.cells chooser)
    {a b : ℕ} (p : a ≡ times_in left cells) (q : b ≡ times_in right cells) where
  pub choosers_differ : chooser < roster.choosers → (a ≡ b → ⊥)
      → false ≡ equal_lists (choosers_in roster left) (choosers_in roster right)
  choosers_differ h n =
      sym (one-fails roster.choosers (λ k. eqb (times_in left (cells_of roster.slots roster.cells k)) (times_in right (cells_of roster.slots roster.cells k))) chooser h (ne_eqb _ _ λ z. n (p ∙ ap (times_in left) e ∙ z ∙ sym (q ∙ ap (times_in right) e))))
      ∙ choosers-equal roster left right

  pub choosers-agree : a ≡ b → all_below chooser (λ k. eqb (times_in left (cells_of roster.slots roster.cells k)) (times_in right (cells_of roster.slots roster.cells k))) ≡ true
      → all_below (chooser + 1) (λ k. eqb (times_in left (cells_of roster.slots roster.cells k)) (times_in right (cells_of roster.slots roster.cells k))) ≡ true
  choosers-agree z h =
      all_more (λ k. eqb (times_in left (cells_of roster.slots roster.cells k)) (times_in right (cells_of roster.slots roster.cells k))) chooser h
      (eq-eqb _ _ (sym (p ∙ ap (times_in left) e) ∙ z ∙ q ∙ ap (times_in right) e))

-- the loop over the choices: the two tallies, as the code has made them
module _ (roster : Roster) (left right : ℕ) {cells others ours theirs : List ℕ}
    (e : cells ≡ cells_of roster.slots roster.cells left) (o : others ≡ cells_of roster.slots roster.cells right) (p : Tally cells ours) (q : Tally others theirs) (choice : ℕ) (few : choice ≤ 255) where
  our_count : get_or ours choice 0 ≡ times_in choice (cells_of roster.slots roster.cells left)
  our_count = p.counts choice few ∙ ap (times_in choice) e

  their_count : get_or theirs choice 0 ≡ times_in choice (cells_of roster.slots roster.cells right)
  their_count = q.counts choice few ∙ ap (times_in choice) o

  pub choices_differ : choice < roster.choices → (get_or ours choice 0 ≡ get_or theirs choice 0 → ⊥)
      → false ≡ equal_lists (choices_of roster left) (choices_of roster right)
  choices_differ h n =
      sym (one-fails roster.choices (λ k. eqb (times_in k (cells_of roster.slots roster.cells left)) (times_in k (cells_of roster.slots roster.cells right))) choice h (ne_eqb _ _ λ z. n (our_count ∙ z ∙ sym their_count)))
      ∙ choices-equal roster left right

  pub choices-agree : get_or ours choice 0 ≡ get_or theirs choice 0 → all_below choice (λ k. eqb (times_in k (cells_of roster.slots roster.cells left)) (times_in k (cells_of roster.slots roster.cells right))) ≡ true
      → all_below (choice + 1) (λ k. eqb (times_in k (cells_of roster.slots roster.cells left)) (times_in k (cells_of roster.slots roster.cells right))) ≡ true
  choices-agree z h =
      all_more (λ k. eqb (times_in k (cells_of roster.slots roster.cells left)) (times_in k (cells_of roster.slots roster.cells right))) choice h
      (eq-eqb _ _ (sym our_count ∙ z ∙ their_count))

-- a test that may be spared, because one before it holds
pub or_first : {a : Bool} (b : Bool) → a ≡ true → true ≡ (a || b)
or_first b t = rw t

pub or_next : {a : Bool} (b : Bool) → a ≡ false → b ≡ (a || b)
or_next b t = rw t

module _ {a : Bool} (b c : Bool) where
  pub or_left : a ≡ true → true ≡ (a || b || c)
  or_left t = rw t

  pub or_middle : a ≡ false → b ≡ true → true ≡ (a || b || c)
  or_middle t u = rw (t, u)

  pub or_last : a ≡ false → b ≡ false → c ≡ (a || b || c)
  or_last t u = rw (t, u)

-- a row's kind decides its sentence
module _ (roster : Roster) (row : Row) where
  pub keeps_10 : row.kind ≡ 10
      → keeps_assignment_row roster row
      ≡ (omitted roster.plan row.left || omitted roster.plan row.right
      || equal_lists (choosers_in roster row.left) (choosers_in roster row.right))
  unfolding keeps_assignment_row
  keeps_10 e = rw e

  pub keeps_11 : row.kind ≡ 11
      → keeps_assignment_row roster row ≡ (omitted roster.plan row.right || is_there roster row.left row.right)
  unfolding keeps_assignment_row
  keeps_11 e = rw e

  pub keeps_12 : row.kind ≡ 12 → keeps_assignment_row roster row ≡ not (is_there roster row.left row.right)
  unfolding keeps_assignment_row
  keeps_12 e = rw e

  pub keeps_13 : row.kind ≡ 13
      → keeps_assignment_row roster row
      ≡ equal_lists (choices_of roster row.left) (choices_of roster row.right)
  unfolding keeps_assignment_row
  keeps_13 e = rw e

  pub keeps-other : (row.kind ≡ 10 → ⊥) → (row.kind ≡ 11 → ⊥) → (row.kind ≡ 12 → ⊥) → (row.kind ≡ 13 → ⊥)
      → keeps_assignment_row roster row ≡ false
  unfolding keeps_assignment_row
  keeps-other a b c d = simp (ne_eqb _ _ a, ne_eqb _ _ b, ne_eqb _ _ c, ne_eqb _ _ d)

-- keeps_assignment_rows, one test of the roster's shape after the other
module _ (roster : Roster) (rows : List ℕ) where
  pub many-choices : 64 < roster.choices → false ≡ roster_keeps roster rows
  unfolding roster_keeps
  many-choices h = rw (lt-leb _ _ h)

  module _ (c : roster.choices ≤ 64) where
    pub many-slots : 24 < roster.slots → false ≡ roster_keeps roster rows
    unfolding roster_keeps
    many-slots h = rw (le-leb _ _ c, lt-leb _ _ h)

    module _ (s : roster.slots ≤ 24) where
      pub many-choosers : 200 < roster.choosers → false ≡ roster_keeps roster rows
      unfolding roster_keeps
      many-choosers h = rw (le-leb _ _ c, le-leb _ _ s, lt-leb _ _ h)

      module _ (o : roster.choosers ≤ 200) where
        pub wrong_length : (length roster.cells ≡ roster.choosers * roster.slots → ⊥) → false ≡ roster_keeps roster rows
        unfolding roster_keeps
        wrong_length n = rw (le-leb _ _ c, le-leb _ _ s, le-leb _ _ o, ne_eqb _ _ n)

        pub rows_decide : length roster.cells ≡ roster.choosers * roster.slots
            → keeps_assignment_rows roster rows ≡ roster_keeps roster rows
        unfolding roster_keeps
        rows_decide e = rw (le-leb _ _ c, le-leb _ _ s, le-leb _ _ o, eq-eqb _ _ e)
