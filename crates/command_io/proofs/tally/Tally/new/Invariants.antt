use Rattle.std.proofs.Common.{◌≡◌}
use Rattle.std.specs.Prelude.{replicate}
use Rattle.command_io.specs.Tallies.{nothing_shown}
use Rattle.command_io.proofs.tally.Tally.new.Given as goal

abbrev pub invariant-loop : goal.invariant-loop
invariant-loop l = l.shown.items ≡ replicate l.counter nothing_shown
