-- The extra column: it is kept 32,768 higher than the signed number that it stands for. The six ops of kind
-- 6.
use Rattle.std.specs.Prelude.{Bool, ◌||◌, ℕ, suc, ◌+◌, ◌-◌, eqb, ℤ, pos, negsuc, neg_ℤ}
use Rattle.std.proofs.Math.IntN.{sub_ℕ}

-- the signed number that an extra column stands for
unfoldable pub signed_of : ℕ → ℤ
signed_of extra = sub_ℕ extra 32768

-- the extra column that stands for a signed number
abbrev pub extra_of : ℤ → ℕ
extra_of (pos n) = 32768 + n
extra_of (negsuc n) = 32768 - suc n

-- 'Ops: Eq 1, Gt 2, Geq 3, Neq -1, Leq -2, Lt -3'
abbrev pub eq_op : ℕ
eq_op = extra_of (pos 1)

abbrev pub gt_op : ℕ
gt_op = extra_of (pos 2)

abbrev pub geq_op : ℕ
geq_op = extra_of (pos 3)

abbrev pub neq_op : ℕ
neq_op = extra_of (neg_ℤ (pos 1))

abbrev pub leq_op : ℕ
leq_op = extra_of (neg_ℤ (pos 2))

abbrev pub lt_op : ℕ
lt_op = extra_of (neg_ℤ (pos 3))

-- an extra column names one of the six ops
unfoldable pub is_op : ℕ → Bool
is_op extra =
    eqb extra eq_op || eqb extra gt_op || eqb extra geq_op
    || eqb extra neq_op || eqb extra leq_op || eqb extra lt_op
