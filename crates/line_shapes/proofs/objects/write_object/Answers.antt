use Rattle.std.proofs.Common.{arith, sym}
use Rattle.line_shapes.proofs.ObjectTokens.{object_by_shape}
use Rattle.line_shapes.proofs.objects.write_object.Goals as goal

pub returns-then-has_parts-clause-tokens : goal.returns-then-has_parts-clause-tokens
returns-then-has_parts-clause-tokens c =
    let written = rw c.loop-shape.invariant.0 at c.write_shape.ensures.tokens in
    object_by_shape c.args.shapes.now c.loop-shape.shape-index _ c.args.line.now c.write_shape.result _ _ (omega arith) c.loop-shape.invariant.1
    (sym c.if-has_parts.ensures) written
