-- Each op's arm has the key that it matched; past them all, none of the four.
use Prim.Native.Nat.{max}
use borrow.Author.Rules.{rules}
use mathlib.Core.Path.{◌≡◌, ◌∙◌}
use Rattle.list_rule_counts.proofs.LimitLaws.{raised_eq, raised_geq, raised_gt, raised_neq, raised_not}
use Rattle.list_rule_counts.proofs.limits.raised.Goals as goal

pub returns-in-32769 : goal.returns-in-32769
returns-in-32769 c =
    let m : c.max.result ≡ max c.args.count c.args.limit = search rules in
    m ∙ raised_eq _ _ _ c.in-32769.is

pub returns-in-32771 : goal.returns-in-32771
returns-in-32771 c =
    let m : c.max-in-32771.result ≡ max c.args.count c.args.limit = search rules in
    m ∙ raised_geq _ _ _ c.in-32771.is

pub returns-in-32770 : goal.returns-in-32770
returns-in-32770 c =
    let m : c.max-in-32770.result ≡ max c.args.count c.past.result = search rules in
    m ∙ raised_gt _ _ _ _ c.past.ensures c.in-32770.is

pub returns-in-32767 : goal.returns-in-32767
returns-in-32767 c =
    c.other_than.ensures ∙ raised_neq _ _ _ c.in-32767.is

pub returns-in_default : goal.returns-in_default
returns-in_default c =
    let r = c.in_default.in_default-own.rest in
    raised_not _ _ _ r.0.0.0.1 r.0.0.1 r.0.1 r.1
