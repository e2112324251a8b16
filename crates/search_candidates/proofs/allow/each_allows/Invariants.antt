-- The loop's invariant: the numbers that are left decide.
use Rattle.search_candidates.specs.Bucket.{asked_lent}
use Rattle.search_candidates.specs.Loads.{size_of}
use Rattle.search_candidates.proofs.LoopLaws.{EachFrom}
use Rattle.search_candidates.proofs.allow.each_allows.Given as goal

abbrev pub invariant-loop-number : goal.invariant-loop-number
invariant-loop-number l =
    let asked = asked_lent l.asked in
    EachFrom asked.rows asked.numbers asked.loads.decisions (size_of asked.loads) asked.depth.choice l.place l.number-index
