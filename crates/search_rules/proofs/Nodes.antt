-- The starts that a pass can come to, counted depth by depth, and what a candidate costs in turns.
use mathlib.Core.Path.{◌≡◌, refl}
use Prim.Native.Nat.{ℕ, zero, suc, ◌+◌, ◌*◌, ◌^◌, ◌≤◌}
use native.Mathlib.Omega.{arith}
use native.Mathlib.Nat.{mul-suc, mul-add, mul-zero, mul_left_comm, pow-succ', mul-le-mul_right, mul-one, pow-zero}
use native.Mathlib.Numerals.{add-one}
use Rattle.base_lists.specs.Below.{sum_below}
use Rattle.search_rules.specs.Turns.{sum_of_powers}

-- the starts with b candidates at each of k depths
unfoldable pub nodes : ℕ → ℕ → ℕ
nodes b zero = 0
nodes b (suc k) = b * suc (nodes b k)

-- the sum of powers with the next power added
powers_more : (b k : ℕ) → sum_of_powers b (suc k) ≡ sum_of_powers b k + b ^ suc k
unfolding sum_of_powers sum_below
powers_more b k = rw (add-one k)

-- the sum of no power
powers_none : (b : ℕ) → sum_of_powers b 0 ≡ 0
unfolding sum_of_powers sum_below
powers_none b = refl

-- the sum of powers by one factor b
powers_times : (b k : ℕ) → sum_of_powers b (suc k) ≡ b + b * sum_of_powers b k
powers_times b zero = rw (powers_more b 0, powers_none b, mul-zero b, pow-succ' b 0, pow-zero b, mul-one b) (omega arith)
powers_times b (suc k) =
    let e : b * sum_of_powers b (suc k) ≡ b * sum_of_powers b k + b * b ^ suc k = rw (powers_more b k) (mul-add b (sum_of_powers b k) (b ^ suc k)) in
    omega (arith, powers_more b (suc k), pow-succ' b (suc k), powers_times b k)

-- the starts are b + b^2 + .. + b^k
pub nodes_powers : (b k : ℕ) → nodes b k ≡ sum_of_powers b k
unfolding nodes
nodes_powers b zero = rw (powers_none b)
nodes_powers b (suc k) = rw (mul-suc b (nodes b k), nodes_powers b k) (omega (arith, powers_times b k))

-- the turns that one candidate at k depths from the end takes: down, all that goes on from it, and back
unfoldable pub cost : ℕ → ℕ → ℕ
cost b zero = 0
cost b (suc k) = 2 * suc (nodes b k)

-- the turns that b candidates take
cost-nodes : (b k : ℕ) → b * cost b k ≡ 2 * nodes b k
unfolding cost nodes
cost-nodes b zero = rw (mul-zero b)
cost-nodes b (suc k) = mul_left_comm b 2 (suc (nodes b k))

-- fewer candidates take no more turns
pub cost-fewer : (b k n : ℕ) → n ≤ b → n * cost b k ≤ 2 * nodes b k
cost-fewer b k n h = omega (arith, cost-nodes b k, mul-le-mul_right (cost b k) h)
