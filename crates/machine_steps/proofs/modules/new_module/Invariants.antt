use Rattle.std.proofs.Common.{◌≡◌, ◌≤◌}
use Rattle.machine_steps.specs.Parts.{opening_module, places_of}
use Rattle.machine_steps.proofs.modules.new_module.Given as goal

abbrev pub invariant-loop-place : goal.invariant-loop-place
invariant-loop-place l = record {
  words : l.words.items ≡ opening_module l.config l.shared l.place l.number;
  within : l.place ≤ places_of l.config;
}
