-- The second run from the empty start; the plan is the first C of 64 places.
use mathlib.Core.Path.{refl}
use native.Mathlib.Omega.{arith}
use lib.ListN.{take, replicate}
use lib.Seq.{length-take-le}
use Rattle.list_all.proofs.CallLaws.{list_requires, list-answers}
use Rattle.list_all.proofs.list_plans.list_all.Goals as goal

pub list_choice-requires : goal.list_choice-requires
list_choice-requires c =
    let s = c in
    let p = length-take-le s.args.day.now.counts.choices (replicate 64 0) (omega (arith, s.requires.0.few-choices)) in
    list_requires _ _ _ s.requires.0 (take s.args.day.now.counts.choices (replicate 64 0)) (replicate 24 0) p refl s.requires.1

pub returns : goal.returns
returns c =
    let s = c in
    let p = length-take-le s.args.day.now.counts.choices (replicate 64 0) (omega (arith, s.requires.0.few-choices)) in
    list-answers _ _ _ s.requires.0 (take s.args.day.now.counts.choices (replicate 64 0)) (replicate 24 0) p refl c.list_choice.ensures
