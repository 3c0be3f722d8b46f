use Rattle.std.proofs.Common.{◌≡◌, ◌++◌}
use Rattle.std.specs.Prelude.{string_bytes}
use Rattle.run_counts.specs.Lines.{first_lines}
use Rattle.study_rows.specs.Plots.{series_at}
use Rattle.study_rows.proofs.plot.push_all_series.Given as goal

abbrev pub invariant-loop-number : goal.invariant-loop-number
invariant-loop-number l =
    string_bytes l.text ≡ string_bytes l.initial.text ++ first_lines (series_at l.axis.column l.axis.step l.rows) l.number
