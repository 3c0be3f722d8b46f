use Rattle.std.proofs.Common.{◌≡◌, ◌++◌}
use Rattle.std.specs.Prelude.{string_bytes}
use Rattle.run_counts.specs.Lines.{first_lines}
use Rattle.study_rows.specs.Canvas.{processors_of}
use Rattle.study_rows.proofs.canvas.push_all_processors.Given as goal

abbrev pub invariant-loop-k : goal.invariant-loop-k
invariant-loop-k l = string_bytes l.text ≡ string_bytes l.initial.text ++ first_lines processors_of l.k
