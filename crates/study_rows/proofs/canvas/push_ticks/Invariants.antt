use Rattle.std.proofs.Common.{◌≡◌, ◌++◌}
use Rattle.std.specs.Prelude.{string_bytes}
use Rattle.run_counts.specs.Lines.{first_lines}
use Rattle.study_rows.specs.Canvas.{tick_text}
use Rattle.study_rows.proofs.canvas.push_ticks.Given as goal

abbrev pub invariant-loop-i : goal.invariant-loop-i
invariant-loop-i l = string_bytes l.text ≡ string_bytes l.initial.text ++ first_lines (tick_text l.content l.step) l.i
