-- The call: its refusals, and the two rules one after the other.
use mathlib.Core.Path.{◌≡◌, ◌∙◌, ap}
use mathlib.Core.List.{List}
use Prim.Native.Nat.{ℕ, ◌≤◌, ◌<◌}
use borrow.Author.Tests.{le-leb, lt-leb, eq-eqb, ne_eqb}
use lib.ListN.{length}
use Rattle.day_rows.specs.declared.check.Counts.{Counts}
use Rattle.list_tables.specs.steps.Tables.{tables_fit}
use Rattle.list_domains.specs.steps.Domains.{each_below}
use Rattle.list_rule_tables.specs.steps.Figures.{first_in}
use Rattle.list_rule_counts.specs.steps.CountRule.{rooms_below, want_rule, counts_rule}

module _ (entry : ℕ → ℕ → ℕ → ℕ) (counts : Counts) (maxs : List ℕ) (free : ℕ) (lacks wants rooms domains : List ℕ) where
  pub rule-many-choices : 64 < counts.choices → domains ≡ counts_rule entry counts maxs free lacks wants rooms domains
  unfolding counts_rule tables_fit
  rule-many-choices h = rw (lt-leb _ _ h)

  pub rule-many-choosers : counts.choices ≤ 64 → 200 < counts.choosers → domains ≡ counts_rule entry counts maxs free lacks wants rooms domains
  unfolding counts_rule tables_fit
  rule-many-choosers c h = rw (le-leb _ _ c, lt-leb _ _ h)

  pub rule-other-length : counts.choices ≤ 64 → counts.choosers ≤ 200 → (length maxs ≡ counts.choices → ⊥)
      → domains ≡ counts_rule entry counts maxs free lacks wants rooms domains
  unfolding counts_rule tables_fit
  rule-other-length c h n = rw (le-leb _ _ c, le-leb _ _ h, ne_eqb _ _ n)

  pub rule-many-slots : counts.choices ≤ 64 → counts.choosers ≤ 200 → length maxs ≡ counts.choices → 24 < counts.slots
      → domains ≡ counts_rule entry counts maxs free lacks wants rooms domains
  unfolding counts_rule tables_fit
  rule-many-slots c h n s = rw (le-leb _ _ c, le-leb _ _ h, eq-eqb _ _ n, lt-leb _ _ s)

  pub rule_fits : (from : ℕ) (roomy after : List ℕ) → counts.choices ≤ 64 → counts.choosers ≤ 200 → length maxs ≡ counts.choices → counts.slots ≤ 24
      → from ≡ first_in counts.choices free → roomy ≡ rooms_below entry counts.choices maxs free from lacks rooms counts.slots domains
      → after ≡ each_below counts.choices (want_rule counts.slots wants free) roomy → after ≡ counts_rule entry counts maxs free lacks wants rooms domains
  unfolding counts_rule tables_fit
  rule_fits from roomy after c h n s f r a =
      rw (le-leb _ _ c, le-leb _ _ h, eq-eqb _ _ n, le-leb _ _ s)
      (a ∙ ap (λ (x : List ℕ). each_below counts.choices (want_rule counts.slots wants free) x)
      (r ∙ ap (λ (x : ℕ). rooms_below entry counts.choices maxs free x lacks rooms counts.slots domains) f))
