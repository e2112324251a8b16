-- What follows a pass of a call: its answer, or the pass at the next level.
use Rattle.std.specs.Prelude.{Bool, cond, ℕ, ◌-◌, leb}
use Rattle.search_pass.specs.steps.Call.{Ended, found, without, wanting}
use Rattle.search_meaning.specs.Calls.{Settled, plan, no_plan, out_of_turns, figures, settled}
use Rattle.search_levels.specs.declared.step.Begun.{Begun}
use Rattle.search_levels.specs.declared.step.Step.{Step}
use Rattle.search_levels.specs.declared.step.Step.TheVariants as step

-- the answer, or the turns left and the place of the next draw
pub data Follows : Type 0 where
  answers : Settled → Follows
  goes_on : (left draw : ℕ) → Follows

-- what the code's answer tells
abbrev pub step_tells : Step → Follows
step_tells (step.Answer answer) = answers (settled answer)
step_tells (step.On left draw) = goes_on left draw

-- a pass from its parts: whether it is the last level's; the turns left before it, those that it has and all
-- of the call; its number, from 1; and its limit
abbrev pub begun_of : Bool → ℕ → ℕ → ℕ → ℕ → ℕ → Begun
begun_of last left turns total passes limit =
    record {
      last = last;
      left = left;
      turns = turns;
      total = total;
      passes = passes;
      limit = limit;
    }

-- what follows a pass is told by what it began with, and by what it spared of its turns, or the place of the
-- next draw

-- after a pass that found a plan: the answer
abbrev pub after_found : Begun → ℕ → Follows
after_found begun spared =
    answers (plan (figures (begun.total - (begun.left - (begun.turns - spared))) begun.passes begun.limit))

-- after a pass without a plan: at the last level the answer, else the next level
abbrev pub after_without : Begun → ℕ → ℕ → Follows
after_without begun spared draw =
    let left = begun.left - (begun.turns - spared) in
    cond begun.last (answers (no_plan (figures (begun.total - left) begun.passes begun.limit)))
    (goes_on left draw)

-- after a pass that needed a turn that wasn't there: the answer where all turns are used, else the next level
abbrev pub after_wanting : Begun → ℕ → Follows
after_wanting begun draw =
    cond (leb begun.left begun.turns) (answers (out_of_turns (figures begun.total begun.passes begun.limit)))
    (goes_on (begun.left - begun.turns) draw)

-- what follows a pass by how it ended
abbrev pub step_of : Begun → Ended → Follows
step_of begun (found spared draw) = after_found begun spared
step_of begun (without spared draw) = after_without begun spared draw
step_of begun (wanting draw) = after_wanting begun draw
