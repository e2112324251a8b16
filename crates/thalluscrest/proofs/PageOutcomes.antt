-- Where turns don't run out a page in other languages is settled: its number, its figures and its buffer,
-- under any budget.
use mathlib.Core.Path.{◌≡◌, refl, sym, ◌∙◌, ap}
use mathlib.Core.Bool.{Bool, true}
use mathlib.Core.List.{List}
use Prim.Native.Nat.{ℕ, ◌≤◌}
use Rattle.thalluscrest_figures.specs.Crossing.{told_figures, Crossed}
use Rattle.thalluscrest_figures.specs.Layouts.{paged_figures}
use Rattle.day_rows.specs.Told.{Told, done, refused}
use Rattle.day_rows.proofs.ToldLaws.{refused_as, refused-not-done}
use Rattle.plan_check.specs.Day.{Day}
use Rattle.list_nodes.specs.Placements.{nodes}
use Rattle.list_nodes.specs.Page.{PageTold, in_time}
use Rattle.list_nodes.proofs.OnePage.{one-page, enough_turns}
use Rattle.list_page.specs.Page.{Fits, refuses, gives}
use Rattle.thalluscrest.specs.Pages.{PageCrosses}

-- a page's answer, as it crosses, isn't that turns ran out
abbrev pub crossed_in_time : Told PageTold → Bool
crossed_in_time (done page) = in_time page
crossed_in_time (refused number carried) = true

module _ (day : Day) (first room : ℕ) (buffer : List ℕ) where
  -- two answers of the library that fit, both in time, are one
  one-fit : {budget budget' : ℕ} {known other : Told PageTold} {after rest : List ℕ} → Fits day first room budget buffer known after
      → Fits day first room budget' buffer other rest → crossed_in_time known ≡ true → crossed_in_time other ≡ true → (known ≡ other) × (after ≡ rest)
  one-fit (refuses n c j) (refuses n' c' j') t t' = (refused_as (sym j ∙ j'), refl)
  one-fit (refuses n c j) (gives j' page after g) t t' = absurd (refused-not-done (sym j ∙ j'))
  one-fit (gives j page after g) (refuses n c j') t t' = absurd (refused-not-done (sym j' ∙ j))
  one-fit (gives j page after g) (gives j' page' after' g') t t' =
      let e = one-page day first room buffer g g' t t' in
      (ap done e.0, e.1)

  -- two answers that cross, both in time, are one
  pub one-page_call : {budget budget' : ℕ} {left other : Crossed (List ℕ)} (p : PageCrosses day first room budget buffer left)
      (q : PageCrosses day first room budget' buffer other) → crossed_in_time p.known ≡ true → crossed_in_time q.known ≡ true
      → (left.answer ≡ other.answer) × (left.buffers ≡ other.buffers)
  one-page_call p q t t' =
      let e = one-fit p.fits q.fits t t' in
      (p.tells ∙ ap (told_figures paged_figures) e.0 ∙ sym q.tells, e.1)

  -- with a budget that list_plans has enough of an answer that fits is in time
  enough : {budget : ℕ} {known : Told PageTold} {after : List ℕ} → nodes day ≤ budget → Fits day first room budget buffer known after → crossed_in_time known ≡ true
  enough h (refuses n c j) = refl
  enough h (gives j page after g) = enough_turns day first room buffer h g

  -- with such a budget an answer that crosses is in time
  pub enough_budget : {budget : ℕ} {left : Crossed (List ℕ)} → nodes day ≤ budget → (p : PageCrosses day first room budget buffer left) → crossed_in_time p.known ≡ true
  enough_budget h p = enough h p.fits
