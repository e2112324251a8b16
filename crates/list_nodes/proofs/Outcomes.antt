-- No two outcomes fit what this crate's functions promise.
use mathlib.Core.Path.{◌≡◌}
use Prim.Native.Nat.{ℕ}
use Rattle.std.specs.Prelude.{Option, Result}
use Rattle.base_lists.proofs.Outcome.{no_two}
use Rattle.day_rows.specs.Told.{tells}
use Rattle.day_rows.specs.declared.refusal.Refusal.{Refusal}
use Rattle.day_rows.proofs.ToldLaws.{one_told}
use Rattle.plan_check.specs.Day.{Day}
use Rattle.list_nodes.specs.Judge.{judge_of}
use Rattle.list_nodes.specs.steps.Nodes.{nodes_within}

pub one_judging : (day : Day) (room size : ℕ) {a b : Result Unit Refusal} → tells a ≡ judge_of day room size → tells b ≡ judge_of day room size → a ≡ b
one_judging day room size = one_told

pub one_counting : (day : Day) (budget : ℕ) {a b : Option ℕ} → a ≡ nodes_within day budget → b ≡ nodes_within day budget → a ≡ b
one_counting day budget = no_two
