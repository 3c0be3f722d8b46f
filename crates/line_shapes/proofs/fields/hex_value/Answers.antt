use Rattle.std.proofs.Common.{arith}
use Rattle.line_shapes.proofs.Digits.{room}
use Rattle.line_shapes.proofs.fields.hex_value.Goals as goal

pub overflow_mul-value : goal.overflow_mul-value
overflow_mul-value c = omega (arith, room c.loop-b.value c.loop-b.b-index 0 c.loop-b.invariant.1 (omega arith) (omega arith))

pub overflow_add-value : goal.overflow_add-value
overflow_add-value c =
    omega (arith, room c.loop-b.value c.loop-b.b-index c.hex_digit_value.result c.loop-b.invariant.1 (omega arith) c.hex_digit_value.ensures.small)
