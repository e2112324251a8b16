-- Each refusal leaves no lacks, and else they are made.
use mathlib.Core.Path.{refl, sym, ◌∙◌}
use Rattle.list_rule_tables.proofs.FigureLaws.{lacks-many-choices, lacks-other-length, lacks-many-slots, lacks-in}
use Rattle.list_rule_tables.proofs.figures.lacks_of.Goals as goal

pub returns-then-counts-gt64 : goal.returns-then-counts-gt64
returns-then-counts-gt64 c = lacks-many-choices _ _ _ _ refl c.if-counts-gt64.true

pub returns-then-day-counts : goal.returns-then-day-counts
returns-then-day-counts c = lacks-other-length _ _ _ _ refl c.if-counts-gt64.false c.if-day-counts.true

pub returns-then-counts-gt24 : goal.returns-then-counts-gt24
returns-then-counts-gt24 c = lacks-many-slots _ _ _ _ refl c.if-counts-gt64.false c.if-day-counts.false c.if-counts-gt24.true

pub returns : goal.returns
returns c = c.each_lack.ensures ∙ sym (lacks-in _ _ _ c.if-counts-gt64.false c.if-day-counts.false c.if-counts-gt24.false)
