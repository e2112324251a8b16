-- One law for each way through.
use Rattle.std.proofs.Common.{refl}
use Rattle.test_cases.proofs.TallyLaws.{agreed, first-differs, differs}
use Rattle.test_cases.proofs.Tally.with.Goals as goal

pub returns-then-agrees : goal.returns-then-agrees
returns-then-agrees c =
    let self = c.args.self in
    agreed self.cases self.differ self.first _ _ c.if-agrees.true refl

pub returns-then-self-eq0 : goal.returns-then-self-eq0
returns-then-self-eq0 c =
    let self = c.args.self in
    first-differs self.cases self.differ self.first _ _ c.if-agrees.false c.if-self-eq0.true refl

pub returns : goal.returns
returns c =
    let self = c.args.self in
    differs self.cases self.differ self.first _ _ _ c.if-agrees.false c.if-self-eq0.false refl refl
