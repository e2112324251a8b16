-- A walk against a budget of turns and a page: where it stands after so many of its events.
use Rattle.std.specs.Prelude.{Bool, true, false, ◌||◌, cond, List, [], ◌∷◌, ℕ, ◌+◌, ◌-◌, eqb, leb}
use Rattle.list_nodes.specs.steps.Walk.{put_plan}
use Rattle.list_nodes.specs.steps.Alive.{Event, visit, plan}

-- where a walk stands: whether it goes on, the turns left, the plans met so far, and the page's buffer
pub record Standing : Type 0 where
  pub going : Bool
  pub turns : ℕ
  pub met : ℕ
  pub buffer : List ℕ

abbrev pub standing : Bool → ℕ → ℕ → List ℕ → Standing
standing going turns met buffer = record { going = going; turns = turns; met = met; buffer = buffer }

-- the plan after the page ends the walk; room 0 asks for the total alone
unfoldable pub goes_on : ℕ → ℕ → ℕ → Bool
goes_on first room met = eqb room 0 || leb met first || leb (met - first) room

-- a start takes a turn, if one is left
unfoldable pub visited : Standing → Standing
visited s =
    cond (eqb s.turns 0) (standing false 0 s.met s.buffer)
    (standing true (s.turns - 1) s.met s.buffer)

-- a plan gets its number, and stands on the page if it belongs there
unfoldable pub counted : ℕ → ℕ → Standing → List ℕ → Standing
counted first room s p =
    standing (goes_on first room (s.met + 1)) s.turns (s.met + 1)
    (put_plan first room s.buffer s.met p)

module _ (first room : ℕ) where
  -- where a walk stands after one event; a walk that has ended stands still
  unfoldable pub step : Standing → Event → Standing
  step s visit = cond s.going (visited s) s
  step s (plan p) = cond s.going (counted first room s p) s

  -- where a walk stands after these events, one after the other
  unfoldable pub run : Standing → List Event → Standing
  run s [] = s
  run s (e ∷ es) = run (step s e) es
