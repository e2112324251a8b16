use Rattle.std.proofs.Common.{◌≡◌, ◌∙◌, sym, ℕ, ◌&&◌, leb, rules}
use Rattle.std.proofs.iter.runs.Made.{chains}
use Rattle.std.specs.List.{count_by}
use Rattle.reduce_turn.specs.Turn.{kind_of}
use Rattle.text_day.proofs.SearchLaws.{searched-counted}
use Rattle.text_day.proofs.search_list.search_count.Goals as goal

pub returns : goal.returns
returns c =
    let e : c.count.result ≡ count_by (λ (number : ℕ). leb 1 (kind_of number) && leb (kind_of number) 6) c.args.rows.now = search (rules, chains) in
    e ∙ sym (searched-counted _)
