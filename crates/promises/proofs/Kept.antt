-- The page, proved: each statement by the law that it cites.
use Rattle.reduce.proofs.Lists.{result_lists}
use Rattle.promises.specs.Promises.{Promised}
use Rattle.promises.proofs.Plans.{check-is, list-is-all}
use Rattle.promises.proofs.Rules.{rule_asks, clash-is, rules-made, rules-rise, given-kept, grouped}
use Rattle.promises.proofs.Search.{search-settles, day-settles}
use Rattle.promises.proofs.Sheet.{sheet-is_true}
use Rattle.promises.proofs.Pages.{listed-is_true, page-is_true, list-text-is_true}
use Rattle.promises.proofs.Files.{written-is-read, read-is-written}
use Rattle.promises.proofs.Calls.{calls_are_settled}

pub promises : Promised
promises =
    record {
      rule = rule_asks;
      check = check-is;
      sheet = sheet-is_true;
      settles = search-settles;
      plans-day = day-settles;
      list = list-is-all;
      listed = listed-is_true;
      page = page-is_true;
      text = list-text-is_true;
      rules = λ counts given.
          record {
            every = rules-made counts given;
            in_order = rules-rise counts given;
            clash = clash-is given;
            grouped = grouped counts given;
            lists = result_lists counts given;
            kept = given-kept counts given;
          };
      written = written-is-read;
      read = read-is-written;
      calls = calls_are_settled;
    }
