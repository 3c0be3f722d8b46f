use Rattle.std.proofs.Common.{◌≡◌, ◌++◌, drop}
use Rattle.std.specs.Prelude.{string_bytes}
use Rattle.explore_command.specs.Lassos.{movers_text}
use Rattle.explore_command.proofs.fairness.push_movers.Given as goal

abbrev pub invariant-loop-k : goal.invariant-loop-k
invariant-loop-k l = string_bytes l.text ++ movers_text (drop l.k-index l.movers) ≡ string_bytes l.initial.text ++ movers_text l.movers
