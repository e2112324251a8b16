use mathlib.Core.Path.{sym, ◌∙◌}
use Rattle.reduce_added.proofs.Fitting.{end_falls, end-past, end-next, ends-done}
use Rattle.reduce_added.proofs.groups.ends_fit.Goals as goal

pub returns-then-end-start : goal.returns-then-end-start
returns-then-end-start c =
    let l = c.loop-byte in
    sym (end_falls _ _ l.start l.byte-index c.loop-byte-test.true c.from-end.ensures c.if-end-start.true) ∙ l.invariant

pub returns-then-size-end : goal.returns-then-size-end
returns-then-size-end c =
    let l = c.loop-byte in
    sym (end-past _ _ l.start l.byte-index c.loop-byte-test.true c.from-end.ensures c.if-end-start.false c.if-size-end.true) ∙ l.invariant

pub loop-byte-preserved : goal.loop-byte-preserved
loop-byte-preserved c =
    let l = c.loop-byte in
    sym (end-next _ _ l.start l.byte-index c.loop-byte-test.true c.from-end.ensures c.if-end-start.false c.if-size-end.false) ∙ l.invariant

pub returns : goal.returns
returns c =
    let l = c.loop-byte in
    sym (ends-done _ _ l.start l.byte-index c.loop-byte-test.false) ∙ l.invariant
