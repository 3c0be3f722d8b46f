use Rattle.std.proofs.Common.{◌≡◌, None}
use Rattle.omega_network.specs.Networks.{net_of, sizes_of}
use Rattle.machine_theory.specs.serialization.Draining.{least}
use Rattle.machine_steps.proofs.Draining.{down_at}
use Rattle.machine_steps.proofs.searching.next_down.Given as goal

abbrev pub invariant-loop-stage : goal.invariant-loop-stage
invariant-loop-stage l = least (down_at (sizes_of l.network) (net_of l.network)) l.stage ≡ None
