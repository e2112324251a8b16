-- No two outcomes fit: each public promise of this crate settles the answer, and the pools, for every input.
use mathlib.Core.Path.{◌≡◌}
use mathlib.Core.Bool.{Bool}
use mathlib.Core.List.{List}
use Prim.Native.Nat.{ℕ}
use Rattle.base_lists.proofs.Outcome.{no_two}
use Rattle.std.specs.Borrow.{Bor}
use Rattle.std.specs.Prelude.{Result}
use Rattle.day_rows.specs.Told.{tells, outcome}
use Rattle.day_rows.specs.declared.refusal.Refusal.{Refusal}
use Rattle.day_rows.specs.declared.check.Counts.{Counts}
use Rattle.day_rows.proofs.ToldLaws.{one_told, one_told-outcome}
use Rattle.search_map.specs.Map.{Map, looked_up, map_keeps}
use Rattle.search_map.specs.Calls.{own_map_of, lookup_of, looked}
use Rattle.search_map.specs.declared.map.MapCounts.{MapCounts}

-- the own map has one answer, and one content of the pools
pub one-own-map : (counts : Counts) (rows : List ℕ) (pools : Map) {a b : Result ℕ Refusal} {p q : Map}
    → outcome (tells a) p ≡ own_map_of counts rows pools → outcome (tells b) q ≡ own_map_of counts rows pools → (a ≡ b) × (p ≡ q)
one-own-map counts rows pools = one_told-outcome

-- the lookup hands back one part, or one refusal
pub one_lookup : (counts : MapCounts) (choice : ℕ) (map : Map) (whole : List ℕ) (a b : Result (Bor (List ℕ)) Refusal)
    → tells (looked a) ≡ lookup_of counts choice map whole → tells (looked b) ≡ lookup_of counts choice map whole → looked a ≡ looked b
one_lookup counts choice map whole a b = one_told

-- the workers that other crates call: the lookup in any map, and the test of 14
pub one-part : (map : Map) (whole : List ℕ) (choice : ℕ) {p q : List ℕ} → p ≡ looked_up map whole choice → q ≡ looked_up map whole choice → p ≡ q
one-part map whole choice = no_two

pub one_judgement : (choices rows count : ℕ) (map : Map) (whole : List ℕ) {a b : Bool} → a ≡ map_keeps choices rows count map whole → b ≡ map_keeps choices rows count map whole → a ≡ b
one_judgement choices rows count map whole = no_two
