use Rattle.std.proofs.Common.{arith}
use Rattle.line_shapes.proofs.Digits.{decimal_room}
use Rattle.line_shapes.proofs.numbers.value_of_digits.Goals as goal

pub overflow_mul-value : goal.overflow_mul-value
overflow_mul-value c =
    omega (arith, decimal_room c.loop-b.value c.loop-b.b-index 0 c.loop-b.invariant.1 (omega arith) (omega arith))

pub overflow_add-value : goal.overflow_add-value
overflow_add-value c =
    omega (arith, decimal_room c.loop-b.value c.loop-b.b-index c.digit_value.result c.loop-b.invariant.1 (omega arith) c.digit_value.ensures.small)
