use Rattle.std.proofs.Common.{◌≡◌, ◌++◌}
use Rattle.std.specs.Prelude.{string_bytes}
use Rattle.observed_results.specs.Lines.{class_lines}
use Rattle.observed_results.proofs.classes.push_classes.Given as goal

abbrev pub invariant-loop-class : goal.invariant-loop-class
invariant-loop-class l = string_bytes l.text ≡ string_bytes l.initial.text ++ class_lines l.classes l.class
