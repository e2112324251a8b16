-- Below 32,768 the sum is under 65,536; from there on it wraps once.
use native.Mathlib.Omega.{arith}
use Rattle.day_file.specs.File.{sign_bit_flipped}
use Rattle.day_file.proofs.word.flip_sign_bit.Goals as goal

pub returns-then-v-lt32768 : goal.returns-then-v-lt32768
unfolding sign_bit_flipped
returns-then-v-lt32768 c =
    omega arith

pub returns : goal.returns
unfolding sign_bit_flipped
returns c =
    omega arith
