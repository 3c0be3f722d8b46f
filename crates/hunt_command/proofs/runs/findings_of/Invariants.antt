use Rattle.std.proofs.Common.{◌≡◌, ◌≤◌, All}
use Rattle.hunt_command.specs.Hunts.{AreFound, marks_of}
use Rattle.hunt_command.specs.Taken.{IsTaken}
use Rattle.hunt_command.proofs.runs.findings_of.Given as goal

abbrev pub invariant-loop-place : goal.invariant-loop-place
invariant-loop-place g l = record {
  found : AreFound (marks_of l.hunt) l.config l.image l.hunt.policy l.hunt.start l.place l.findings.found l.findings.unfinished l.greatest;
  noted : l.findings.noted ≡ l.place;
  low : l.greatest ≤ 1;
  ahead : All (IsTaken l.hunt l.config l.image) l.ahead.taken.items;
}
