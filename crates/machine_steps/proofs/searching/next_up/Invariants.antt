use Rattle.std.proofs.Common.{◌≡◌, ◌-◌}
use Rattle.omega_network.specs.Networks.{net_of, sizes_of}
use Rattle.machine_theory.specs.serialization.Draining.{greatest}
use Rattle.machine_steps.proofs.Draining.{up_at}
use Rattle.machine_steps.proofs.searching.next_up.Given as goal

abbrev pub invariant-loop-passed : goal.invariant-loop-passed
invariant-loop-passed l =
    greatest (up_at (sizes_of l.network) (net_of l.network)) l.network.k ≡ greatest (up_at (sizes_of l.network) (net_of l.network)) (l.k - l.passed)
