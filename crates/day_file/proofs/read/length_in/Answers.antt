-- Two words make a number of 32 bits.
use native.Mathlib.Omega.{arith}
use Rattle.day_file.specs.File.{length_in}
use Rattle.day_file.proofs.read.length_in.Goals as goal

pub returns : goal.returns
unfolding length_in
returns c =
    omega arith
