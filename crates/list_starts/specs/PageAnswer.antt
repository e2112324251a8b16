-- What an answer of `list_page` tells, case by case.
use Rattle.std.specs.Prelude.{Result, Ok, Err}
use Rattle.day_rows.specs.Told.{Told, done, refusal_tells}
use Rattle.day_rows.specs.declared.refusal.Refusal.{Refusal}
use Rattle.list_nodes.specs.Page.{PageTold, ended_told, goes_on_told, turns_told}
use Rattle.list_starts.specs.declared.page_end.Paged.{Paged}
use Rattle.list_starts.specs.declared.page_end.Paged.TheVariants as paged

-- the plans written, with the total where the list ends with the page, else with the plans met
abbrev pub page_tells : Paged → PageTold
page_tells (paged.Ended written total) = ended_told written total
page_tells (paged.GoesOn written met) = goes_on_told written met
page_tells (paged.Turns written met) = turns_told written met

-- what the page tells, or why it is refused
abbrev pub paged_tells : Result Paged Refusal → Told PageTold
paged_tells (Ok page) = done (page_tells page)
paged_tells (Err why) = refusal_tells why
