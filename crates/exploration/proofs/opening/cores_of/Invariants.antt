use Rattle.std.proofs.Common.{◌≡◌, map}
use Rattle.std.specs.List.{range_with_len}
use Rattle.machine_steps.specs.machine_theory.Processors.{port_at}
use Rattle.exploration.proofs.opening.cores_of.Given as goal

abbrev pub invariant-loop-p : goal.invariant-loop-p
invariant-loop-p l = l.cores.items ≡ map (λ q. (port_at l.machine.ports q).core) (range_with_len 0 l.p)
