use Rattle.std.proofs.Common.{◌≤◌, ◌^◌, arith, lit<}
use Rattle.std.proofs.Math.Nat.{pow-le-pow_right}
use Rattle.debug_lines.proofs.number.number.Goals as goal

pub overflow_mul-value : goal.overflow_mul-value
overflow_mul-value c =
    let h : 16 ^ c.loop-byte.byte-index ≤ 16 ^ 8 = pow-le-pow_right {n = 16} (lit< tt) {i = c.loop-byte.byte-index} {j = 8} (omega arith) in omega arith

pub overflow_add-value : goal.overflow_add-value
overflow_add-value c =
    let h : 16 ^ c.loop-byte.byte-index ≤ 16 ^ 8 =
    pow-le-pow_right {n = 16} (lit< tt) {i = c.loop-byte.byte-index} {j = 8} (omega arith) in omega (arith, c.in_ok-digit.ensures.small)

pub overflow_cast-result : goal.overflow_cast-result
overflow_cast-result c =
    let h : 16 ^ c.loop-byte.byte-index ≤ 16 ^ 8 = pow-le-pow_right {n = 16} (lit< tt) {i = c.loop-byte.byte-index} {j = 8} (omega arith) in omega arith
