use Rattle.std.proofs.Common.{◌≡◌, ◌+◌, ◌-◌, ◌*◌, ◌^◌, ◌≤◌}
use Rattle.schedules.specs.Skips.{AreQuiet}
use Rattle.schedules.proofs.round.Round.next.Given as goal

abbrev pub invariant-loop-self : goal.invariant-loop-self
invariant-loop-self l = record {
  size : l.self-inside.k ≡ l.initial.self-inside.k;
  row : l.self-inside.row ≤ 2 * l.self-inside.k + 2;
  wire : l.self-inside.wire ≤ 2 ^ l.self-inside.k;
  reached : l.fn.self.place ≤ l.self-inside.row * 2 ^ l.self-inside.k + l.self-inside.wire;
  quiet : AreQuiet l.machine l.fn.self.place (l.self-inside.row * 2 ^ l.self-inside.k + l.self-inside.wire);
}

abbrev pub decreases-loop-self : goal.decreases-loop-self
decreases-loop-self l = 2 * l.self-inside.k + 2 - l.self-inside.row
