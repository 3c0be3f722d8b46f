use Rattle.std.proofs.Common.{◌≡◌, drop}
use Rattle.line_shapes.specs.Shapes.{object_of}
use Rattle.line_shapes.proofs.objects.write_object.Given as goal

abbrev pub invariant-loop-shape : goal.invariant-loop-shape
invariant-loop-shape l =
    (l.writer ≡ l.initial.writer) × (object_of (drop l.shape-index l.fn.shapes) l.fn.line ≡ object_of l.fn.shapes l.fn.line)
