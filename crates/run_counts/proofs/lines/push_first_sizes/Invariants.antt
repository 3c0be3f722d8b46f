use Rattle.std.proofs.Common.{◌≡◌, ◌++◌}
use Rattle.std.specs.Prelude.{string_bytes}
use Rattle.run_counts.specs.Lines.{sizes_text}
use Rattle.run_counts.proofs.lines.push_first_sizes.Given as goal

abbrev pub invariant-loop-size : goal.invariant-loop-size
invariant-loop-size l = string_bytes l.text ≡ string_bytes l.initial.text ++ sizes_text l.counts.groups l.at l.size
