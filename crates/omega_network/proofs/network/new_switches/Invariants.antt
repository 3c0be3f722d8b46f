use Rattle.std.proofs.Common.{◌<◌, ◌*◌, ◌+◌}
use Rattle.omega_network.specs.Networks.{half}
use Rattle.omega_network.proofs.New.{SoFar}
use Rattle.omega_network.proofs.network.new_switches.Given as goal

abbrev pub invariant-loop-number : goal.invariant-loop-number
invariant-loop-number l = record {
  stage : l.stage < l.k;
  so_far : SoFar l.k l.c l.b l.r (l.stage * half l.k + l.number) l.switches.items;
}

abbrev pub invariant-loop-stage : goal.invariant-loop-stage
invariant-loop-stage l = SoFar l.k l.c l.b l.r (l.stage * half l.k) l.switches.items
