-- A law for each way through the functions of the look ahead.
use mathlib.Core.Path.{◌≡◌, refl, sym, ap, ap₂, ◌∙◌}
use mathlib.Core.Bool.{Bool, true, false, not, cond}
use mathlib.Core.List.{List}
use Prim.Native.Nat.{ℕ, zero, suc, ◌+◌, ◌-◌, ◌≤◌, ◌<◌}
use native.Mathlib.Omega.{arith}
use borrow.Author.Tests.{le-leb, lt-leb, leb-true, leb-false, eq-eqb, ne_eqb}
use lib.Dec.{eqb, leb}
use lib.ListN.{length, get_or, set, replicate, get_or-eq_default}
use lib.Seq.{set_out}
use Rattle.base_lists.proofs.Below.{all_more, one-fails}
use Rattle.base_lists.proofs.Through.{all_none, all_done}
use Rattle.day_rows.specs.declared.check.Counts.{Counts}
use Rattle.plan_check.specs.Plan.{slot_of}
use Rattle.list_domains.specs.steps.Domains.{place_number, only_place}
use Rattle.list_tables.specs.steps.Tables.{entry_at, weight_at}
use Rattle.list_rule_slots.specs.steps.SlotRules.{slots_rule}
use Rattle.list_rule_rows.specs.steps.RowsRule.{rows_rule}
use Rattle.list_tables.specs.steps.Lightest.{lightest_at}
use Rattle.list_rule_tables.specs.steps.Figures.{free_of, first_in, lacks_in}
use Rattle.list_rule_tables.specs.steps.Rule.{tables_rule}
use Rattle.list_rule_counts.specs.steps.CountRule.{has_limit, wants_of, rooms_of, broken, counts_rule}
use Rattle.list_look.specs.steps.Open.{open_places}
use Rattle.list_decided.specs.steps.Leaves.{rows_leave}
use Rattle.list_look.specs.steps.Look.{decided, alive, alive_or, limits_leave, weighed, kept_if_alive, looked_ahead, near_end, opened_at}

-- ---- the last choice is decided

module _ (slots : ℕ) (plan domains : List ℕ) where
  pub none-decided : (choice : ℕ) → choice ≡ 0 → domains ≡ decided slots plan choice domains
  unfolding decided
  none-decided choice e = rw e

  pub last-decided : (choice : ℕ) → (choice ≡ 0 → ⊥) → decided slots plan choice domains ≡ set domains (choice - 1) (only_place (place_number slots (slot_of plan (choice - 1))))
  unfolding decided
  last-decided zero n = absurd (n refl)
  last-decided (suc choice) n =
      let e : suc choice - 1 ≡ choice = omega arith in
      rw e

  -- no choice past 63 has a domain
  pub past-decided : (choice : ℕ) → (choice ≡ 0 → ⊥) → 64 < choice → length domains ≡ 64 → domains ≡ decided slots plan choice domains
  past-decided choice n h l =
      sym (last-decided choice n ∙ set_out domains (choice - 1) (only_place (place_number slots (slot_of plan (choice - 1)))) (omega (arith, h, l)))

  pub now-decided : (choice : ℕ) {place wider number only : ℕ} → (choice ≡ 0 → ⊥) → place ≡ slot_of plan (choice - 1) → wider ≡ place → number ≡ place_number slots wider → only ≡ only_place number
      → set domains (choice - 1) only ≡ decided slots plan choice domains
  now-decided choice n p w m o = sym (last-decided choice n ∙ rw (o, m, w, p))

-- ---- whether every choice has a place

module _ (choices : ℕ) (domains : List ℕ) where
  pub one_dead : (choice : ℕ) → choice < choices → get_or domains choice 0 ≡ 0 → false ≡ alive choices domains
  unfolding alive
  one_dead choice h e = sym (one-fails choices (λ choice. not (eqb (get_or domains choice 0) 0)) choice h (rw (eq-eqb (get_or domains choice 0) 0 e)))

  -- a choice without a domain has no place
  pub many_dead : length domains < choices → false ≡ alive choices domains
  many_dead h = one_dead (length domains) h (get_or-eq_default domains 0 (omega arith))

  pub all-alive : (choice : ℕ) → choice ≤ choices → choices ≤ choice → alive choice domains ≡ true → true ≡ alive choices domains
  unfolding alive
  all-alive choice a b h = all_done (λ choice. not (eqb (get_or domains choice 0) 0)) choices choice a b h

  pub ends : alive choices domains ≡ false → replicate 64 0 ≡ alive_or choices domains
  unfolding alive_or
  ends f = rw f

  pub goes_on : alive choices domains ≡ true → domains ≡ alive_or choices domains
  unfolding alive_or
  goes_on t = rw t

pub none_dead : (domains : List ℕ) → alive 0 domains ≡ true
unfolding alive
none_dead domains = all_none (λ choice. not (eqb (get_or domains choice 0) 0))

pub more-alive : (domains : List ℕ) (choice : ℕ) → alive choice domains ≡ true → (get_or domains choice 0 ≡ 0 → ⊥) → alive (choice + 1) domains ≡ true
unfolding alive
more-alive domains choice h n = all_more (λ choice. not (eqb (get_or domains choice 0) 0)) choice h (rw (ne_eqb (get_or domains choice 0) 0 n))

-- ---- tables and counts

module _ (counts : Counts) (maxs rows tables : List ℕ) (free : ℕ) (lacks domains : List ℕ) where
  -- with limits: some slot's least count is one that it can't have
  pub limits-broken : {dead : Bool} → dead ≡ broken (entry_at tables) counts rows (first_in counts.choices free) lacks domains → dead ≡ true
      → replicate 64 0 ≡ limits_leave counts maxs rows tables free lacks domains
  unfolding limits_leave
  limits-broken d t = sym (rw (sym d ∙ t))

  -- with limits: what tables, and then counts leave
  pub limits-by : {dead : Bool} {wants rooms by_tables after : List ℕ} → dead ≡ broken (entry_at tables) counts rows (first_in counts.choices free) lacks domains → dead ≡ false
      → wants ≡ wants_of (entry_at tables) counts rows (first_in counts.choices free) lacks domains
      → rooms ≡ rooms_of counts rows domains
      → by_tables ≡ tables_rule (entry_at tables) (lightest_at tables) (weight_at tables) counts maxs free lacks wants domains
      → after ≡ counts_rule (entry_at tables) counts maxs free lacks wants rooms by_tables
      → after ≡ limits_leave counts maxs rows tables free lacks domains
  unfolding limits_leave
  limits-by {wants = wants} {rooms = rooms} d f w r t c =
      c
      ∙ ap₂ (λ (x y : List ℕ). counts_rule (entry_at tables) counts maxs free lacks wants x y) r t
      ∙ ap (λ (x : List ℕ). counts_rule (entry_at tables) counts maxs free lacks x (rooms_of counts rows domains)
      (tables_rule (entry_at tables) (lightest_at tables) (weight_at tables) counts maxs free lacks x domains)) w
      ∙ sym (rw (sym d ∙ f))

module _ (counts : Counts) (maxs rows tables domains : List ℕ) {free : ℕ} {lacks : List ℕ} {limited : Bool}
    (f : free ≡ cond (leb counts.choices 64) (free_of counts.choices domains) 0) (l : lacks ≡ lacks_in counts maxs domains) (h : limited ≡ has_limit rows) where
  pub weigh_limited : {after : List ℕ} → limited ≡ true → after ≡ limits_leave counts maxs rows tables free lacks domains → after ≡ weighed counts maxs rows tables domains
  unfolding weighed
  weigh_limited t a = a ∙ ap₂ (λ (x : ℕ) (y : List ℕ). limits_leave counts maxs rows tables x y domains) f l ∙ sym (rw (sym h ∙ t))

  pub weigh_unlimited : {after : List ℕ} → limited ≡ false
      → after ≡ tables_rule (entry_at tables) (lightest_at tables) (weight_at tables) counts maxs free lacks (replicate 24 0) domains → after ≡ weighed counts maxs rows tables domains
  unfolding weighed
  weigh_unlimited t a =
      a
      ∙ ap₂ (λ (x : ℕ) (y : List ℕ). tables_rule (entry_at tables) (lightest_at tables) (weight_at tables) counts maxs x y (replicate 24 0) domains) f l
      ∙ sym (rw (sym h ∙ t))

-- ---- the look ahead, by counts that are known by now

module _ (counts : Counts) (mins maxs rows tables plan : List ℕ) (choice : ℕ) (domains : List ℕ) where
  module _ {counts' : Counts} {last by-counts : List ℕ} (e : counts' ≡ counts) (d : last ≡ decided counts'.slots plan choice domains)
      (n : by-counts ≡ weighed counts' maxs rows tables last) {living : Bool} (l : living ≡ alive counts'.choices by-counts) where
    weighed-is : by-counts ≡ weighed counts maxs rows tables (decided counts.slots plan choice domains)
    weighed-is =
        n
        ∙ ap (weighed counts' maxs rows tables) d
        ∙ ap (λ (k : Counts). weighed k maxs rows tables (decided k.slots plan choice domains)) e

    living_is : living ≡ alive counts.choices (weighed counts maxs rows tables (decided counts.slots plan choice domains))
    living_is = l ∙ ap (λ (k : Counts). alive k.choices by-counts) e ∙ ap (alive counts.choices) weighed-is

    -- the start is dead by tables and counts
    pub looked_dead : living ≡ false → replicate 64 0 ≡ looked_ahead counts mins maxs rows tables plan choice domains
    unfolding looked_ahead kept_if_alive
    looked_dead f = sym (rw (sym living_is ∙ f))

    -- the start is alive: what rule after rule leaves
    pub looked-by : {summed kept seen : List ℕ} → living ≡ true
        → summed ≡ slots_rule counts' mins maxs by-counts
        → kept ≡ rows_rule counts' rows summed
        → seen ≡ alive_or counts'.choices kept
        → seen ≡ looked_ahead counts mins maxs rows tables plan choice domains
    unfolding looked_ahead kept_if_alive
    looked-by y s r a =
        a
        ∙ ap (alive_or counts'.choices) (r ∙ ap (rows_rule counts' rows) s)
        ∙ ap (λ (k : Counts). alive_or k.choices (rows_rule k rows (slots_rule k mins maxs by-counts))) e
        ∙ ap (λ (w : List ℕ). alive_or counts.choices (rows_rule counts rows (slots_rule counts mins maxs w))) weighed-is
        ∙ sym (rw (sym living_is ∙ y))

-- ---- as the walk sees it

-- whether the end is near: no choice is left, or few are
pub few_left : (choices choice left : ℕ) → left ≡ choices - choice → leb left 8 ≡ near_end choices choice
unfolding near_end
few_left choices choice left e = go (leb left 8) refl
  where
    go : (b : Bool) → leb left 8 ≡ b → leb left 8 ≡ leb choices (choice + 8)
    go true t = t ∙ sym (le-leb choices (choice + 8) (omega (arith, leb-true left 8 t, e)))
    go false t = t ∙ sym (lt-leb choices (choice + 8) (omega (arith, leb-false left 8 t, e)))

-- the places that are open, by counts that are known by now
pub opened-by : (counts : Counts) (mins maxs optional rows tables plan : List ℕ) (choice : ℕ) (sums fills : List ℕ) (domain : ℕ) {counts' : Counts} {given left places : ℕ} → counts' ≡ counts
    → given ≡ domain
    → left ≡ rows_leave counts'.slots choice plan rows given
    → places ≡ open_places (entry_at tables) (weight_at tables) counts' mins maxs optional choice sums fills left
    → places ≡ opened_at counts mins maxs optional rows tables plan choice sums fills domain
unfolding opened_at
opened-by counts mins maxs optional rows tables plan choice sums fills domain {counts'} e g l o =
    o
    ∙ ap (open_places (entry_at tables) (weight_at tables) counts' mins maxs optional choice sums fills) (l ∙ ap (rows_leave counts'.slots choice plan rows) g)
    ∙ ap (λ (k : Counts). open_places (entry_at tables) (weight_at tables) k mins maxs optional choice sums fills (rows_leave k.slots choice plan rows domain)) e
