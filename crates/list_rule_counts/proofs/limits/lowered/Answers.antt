-- Each op's arm has the key that it matched; past them all, none of the three.
use Prim.Native.Nat.{min}
use borrow.Author.Rules.{rules}
use mathlib.Core.Path.{◌≡◌, ◌∙◌}
use Rattle.list_rule_counts.proofs.LimitLaws.{lowered_eq, lowered_leq, lowered_lt, lowered_not}
use Rattle.list_rule_counts.proofs.limits.lowered.Goals as goal

pub returns-in-32769 : goal.returns-in-32769
returns-in-32769 c =
    let m : c.min.result ≡ min c.args.under c.past.result = search rules in
    m ∙ lowered_eq _ _ _ _ c.past.ensures c.in-32769.is

pub returns-in-32766 : goal.returns-in-32766
returns-in-32766 c =
    let m : c.min-in-32766.result ≡ min c.args.under c.past-in-32766.result = search rules in
    m ∙ lowered_leq _ _ _ _ c.past-in-32766.ensures c.in-32766.is

pub returns-in-32765 : goal.returns-in-32765
returns-in-32765 c =
    let m : c.min-in-32765.result ≡ min c.args.under c.args.limit = search rules in
    m ∙ lowered_lt _ _ _ c.in-32765.is

pub returns-in_default : goal.returns-in_default
returns-in_default c =
    let r = c.in_default.in_default-own.rest in lowered_not _ _ _ r.0.0.1 r.0.1 r.1
