use Rattle.std.proofs.Common.{◌≡◌, ◌<◌, ◌^◌, drop}
use Rattle.line_shapes.specs.Numbers.{decimal_value_after}
use Rattle.line_shapes.proofs.numbers.value_of_digits.Given as goal

abbrev pub invariant-loop-b : goal.invariant-loop-b
invariant-loop-b l =
    (decimal_value_after l.value (drop l.b-index l.fn.digits) ≡ decimal_value_after 0 l.fn.digits)
    × (l.value < 10 ^ l.b-index)
