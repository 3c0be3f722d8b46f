use Rattle.std.proofs.Common.{◌≡◌, ◌++◌}
use Rattle.std.specs.Prelude.{string_bytes}
use Rattle.run_counts.specs.LatencyLines.{powers_text}
use Rattle.run_counts.proofs.latency_lines.push_powers.Given as goal

abbrev pub invariant-loop-power : goal.invariant-loop-power
invariant-loop-power l = string_bytes l.text ≡ string_bytes l.initial.text ++ powers_text l.sample l.power
