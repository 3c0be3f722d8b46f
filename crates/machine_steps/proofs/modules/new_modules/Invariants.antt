use Rattle.std.proofs.Common.{◌≡◌, ◌^◌, ◌≤◌}
use Rattle.machine_steps.specs.Parts.{opening_modules}
use Rattle.machine_steps.proofs.modules.new_modules.Given as goal

abbrev pub invariant-loop-number : goal.invariant-loop-number
invariant-loop-number l = record {
  modules : l.modules.items ≡ opening_modules l.config l.shared l.number;
  within : l.number ≤ 2 ^ l.config.k;
}
