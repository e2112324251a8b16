-- A page of plans in other languages. What it may be is a relation: where turns run out isn't settled.
use Rattle.std.specs.Prelude.{◌≡◌, List, ℕ}
use Rattle.thalluscrest_figures.specs.Crossing.{told_figures, Crossed}
use Rattle.thalluscrest_figures.specs.Layouts.{paged_figures}
use Rattle.day_rows.specs.Told.{Told}
use Rattle.plan_check.specs.Day.{Day}
use Rattle.list_nodes.specs.Page.{PageTold}
use Rattle.list_page.specs.Page.{Fits}

-- what crosses of a page is an answer of the library that fits the day, with the buffer that it leaves
pub record PageCrosses
    (day : Day) (first room budget : ℕ) (buffer : List ℕ) (left : Crossed (List ℕ)) : Type 0 where
  pub known : Told PageTold
  pub fits : Fits day first room budget buffer known left.buffers
  pub tells : left.answer ≡ told_figures paged_figures known
