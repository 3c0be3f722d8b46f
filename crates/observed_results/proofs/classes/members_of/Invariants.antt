use Rattle.std.proofs.Common.{◌≡◌, ◌≤◌}
use Rattle.observed_results.specs.Lines.{members_of}
use Rattle.observed_results.proofs.classes.members_of.Given as goal

abbrev pub invariant-loop-p : goal.invariant-loop-p
invariant-loop-p l = record { counted : l.members ≡ members_of l.classes l.class l.p; few : l.members ≤ l.p }
