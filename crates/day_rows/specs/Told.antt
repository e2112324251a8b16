-- What the answers of all calls tell in 01's terms, and what a call leaves.
use Rattle.std.specs.Prelude.{Bool, cond, List, [], ℕ, Result, Ok, Err}
use Rattle.day_rows.specs.Refusal.{number_of, carried_by}
use Rattle.day_rows.specs.declared.refusal.Refusal.{Refusal}

-- done, with the values that the call hands back; or refused, with a number of 'The numbers we hand back' and
-- what it carries
pub data Told (A : Type 0) : Type 0 where
  done : A → Told A
  refused : (number : ℕ) (carried : List ℕ) → Told A

-- a call that hands back no value: it is good, or it refuses
abbrev pub Verdict : Type 0
Verdict = Told (Unit {0})

abbrev pub good : Verdict
good = done tt

-- a refusal that carries nothing: every number but 5
abbrev pub refuse : {A : Type 0} → ℕ → Told A
refuse number = refused number []

-- what a refusal tells, whatever the call
abbrev pub refusal_tells : {A : Type 0} → Refusal → Told A
refusal_tells why = refused (number_of why) (carried_by why)

-- what a call's answer tells: the value that it hands back, or why it refuses
abbrev pub tells : {A : Type 0} → Result A Refusal → Told A
tells (Ok value) = done value
tells (Err why) = refusal_tells why

-- refused with the number unless the test holds; else the rest
abbrev pub unless : {A : Type 0} → Bool → ℕ → Told A → Told A
unless test number rest = cond test rest (refuse number)

-- the first of two that refuses; the rest if the first is good
abbrev pub and_then : {A B : Type 0} → Told A → Told B → Told B
and_then (done value) rest = rest
and_then (refused number carried) rest = refused number carried

-- what a call hands back and leaves: what its answer tells, and its lent buffers at exit
pub record Outcome (A B : Type 0) : Type 0 where
  pub answer : Told A
  pub buffers : B

abbrev pub outcome : {A B : Type 0} → Told A → B → Outcome A B
outcome answer buffers = record { answer = answer; buffers = buffers }

-- a refusal leaves the buffers untouched; what isn't refused goes on
abbrev pub judged : {A B C : Type 0} → Told C → B → Outcome A B → Outcome A B
judged (done value) buffers next = next
judged (refused number carried) buffers next = outcome (refused number carried) buffers
