use Rattle.std.proofs.Common.{◌≡◌, ◌<◌, ◌^◌, drop}
use Rattle.line_shapes.specs.Fields.{hex_value_after}
use Rattle.line_shapes.proofs.fields.hex_value.Given as goal

abbrev pub invariant-loop-b : goal.invariant-loop-b
invariant-loop-b l =
    (hex_value_after l.value (drop l.b-index l.fn.digits) ≡ hex_value_after 0 l.fn.digits) × (l.value < 16 ^ l.b-index)
