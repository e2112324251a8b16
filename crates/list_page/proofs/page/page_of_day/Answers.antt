-- The tables and the first domains are the day's, its rows are in order, and the walk ends in a page of it.
use Rattle.list_page.proofs.PageTells.{walked-all, page-answers}
use Rattle.list_page.proofs.page.page_of_day.Goals as goal

pub returns : goal.returns
returns c =
    let w = walked-all _ _ _ c.args.budget _ c.requires c.first_rows-rows.result.now _ _ c.ranges.budget.fits c.walk_all-going.ensures in
    page-answers _ _ _ c.args.budget _ c.requires _ c.fill_tables.ensures c.fill_lightest.ensures c.first_domains-domains.ensures c.rows_in_order-ordered.ensures c.first_rows-rows.ensures w c.page_told.ensures
