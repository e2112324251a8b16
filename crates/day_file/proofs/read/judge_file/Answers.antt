-- The head's refusal, or the body's answer.
use mathlib.Core.Path.{refl, ◌∙◌}
use Rattle.day_rows.proofs.ToldLaws.{passed_on}
use Rattle.day_file.proofs.ReadLaws.{file-refused, file-head, file_body, counts-keep, counts_end}
use Rattle.day_file.proofs.read.judge_file.Goals as goal

pub returns-in_err-judge_head : goal.returns-in_err-judge_head
returns-in_err-judge_head c =
    passed_on _ _ c.from_residual.ensures.1 ∙ file-refused _ c.in_err-judge_head.ensures refl

pub counts_in-requires : goal.counts_in-requires
counts_in-requires c =
    (file-head _ c.in_ok-judge_head.ensures refl).long

pub judge_body-requires : goal.judge_body-requires
judge_body-requires c =
    let h = file-head _ c.in_ok-judge_head.ensures refl in
    record { ranges = counts-keep _ h c.counts_in.ensures; end = counts_end _ h c.counts_in.ensures }

pub returns : goal.returns
returns c =
    file_body _ c.in_ok-judge_head.ensures refl c.counts_in.ensures c.judge_body.ensures
