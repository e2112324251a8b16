-- A file that is too long or refused, or its day. What `read_day` leaves in the pools is read off what it ensures.
use mathlib.Core.Path.{◌∙◌}
use native.Mathlib.Omega.{arith}
use borrow.Author.Rules.{rules}
use Rattle.day_file.specs.FileDay.{lengths_full}
use Rattle.text_day.proofs.FileLaws.{read-filled, read-refused, reading_long, reading_refused, reading_day, read_passed, few-choices, few-levels, few-preferences, few-rows, day-read}
use Rattle.text_day.proofs.pools.read_file.Goals as goal

pub returns-then-file-gt-LONGEST_FILE : goal.returns-then-file-gt-LONGEST_FILE
returns-then-file-gt-LONGEST_FILE c = reading_long c.args.file.now c.if-file-gt-LONGEST_FILE.true

pub returns-in_err-counts : goal.returns-in_err-counts
unfolding lengths_full
returns-in_err-counts c =
    let refused = read-refused c.args.file.now _ (search rules) c.in_err-counts.ensures in
    read_passed _ _ c.from_residual.ensures.1 ∙ reading_refused c.args.file.now c.if-file-gt-LONGEST_FILE.false refused

pub shared_ref_as_front-result : goal.shared_ref_as_front-result
unfolding lengths_full
shared_ref_as_front-result c = few-choices _ (read-filled c.args.file.now _ (search rules) c.in_ok-counts.ensures)

pub shared_ref_as_front-result-4 : goal.shared_ref_as_front-result-4
unfolding lengths_full
shared_ref_as_front-result-4 c = few-levels _ (read-filled c.args.file.now _ (search rules) c.in_ok-counts.ensures)

pub overflow_mul-result : goal.overflow_mul-result
unfolding lengths_full
overflow_mul-result c = let few = few-preferences _ (read-filled c.args.file.now _ (search rules) c.in_ok-counts.ensures) in omega (arith, few)

pub shared_ref_as_front-result-5 : goal.shared_ref_as_front-result-5
unfolding lengths_full
shared_ref_as_front-result-5 c = few-preferences _ (read-filled c.args.file.now _ (search rules) c.in_ok-counts.ensures)

pub shared_ref_as_front-result-6 : goal.shared_ref_as_front-result-6
unfolding lengths_full
shared_ref_as_front-result-6 c = few-rows _ (read-filled c.args.file.now _ (search rules) c.in_ok-counts.ensures)

pub returns : goal.returns
unfolding lengths_full
returns c =
    let filled = read-filled c.args.file.now _ (search rules) c.in_ok-counts.ensures in
    reading_day c.args.file.now (day-read _ filled c.if-file-gt-LONGEST_FILE.false)
