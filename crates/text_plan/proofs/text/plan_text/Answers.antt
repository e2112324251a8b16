-- A pool of another length, or the text of the file in a cleared pool.
use Rattle.text_plan.proofs.CallLaws.{text-length, text-made}
use Rattle.text_plan.proofs.text.plan_text.Goals as goal

pub returns-then-text-ne-LONGEST_TEXT : goal.returns-then-text-ne-LONGEST_TEXT
returns-then-text-ne-LONGEST_TEXT c = text-length _ _ c.if-text-ne-LONGEST_TEXT.true

pub returns : goal.returns
returns c = text-made _ _ c.if-text-ne-LONGEST_TEXT.false (c.fill.ensures.after (λ _ e. e)) c.put_plan_of_file.ensures
