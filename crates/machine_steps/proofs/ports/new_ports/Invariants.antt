use Rattle.std.proofs.Common.{◌≡◌, ◌^◌, ◌≤◌, vec_len}
use Rattle.machine_steps.specs.Parts.{opening_ports}
use Rattle.machine_steps.proofs.ports.new_ports.Given as goal

abbrev pub invariant-loop-number : goal.invariant-loop-number
invariant-loop-number l = record {
  ports : l.ports.items ≡ opening_ports l.config l.layout l.number;
  within : l.number ≤ 2 ^ l.config.k;
}
