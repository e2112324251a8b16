-- At most 65,536 entries of 255 bytes.
use Rattle.std.proofs.Common.{mul-le-mul_right, arith}
use Rattle.test_cases.proofs.parts.after.Goals as goal

pub overflow_mul-n : goal.overflow_mul-n
overflow_mul-n c = omega (arith, mul-le-mul_right c.args.wide c.if-n-gt65536.false, c.if-wide-gt255.false)
