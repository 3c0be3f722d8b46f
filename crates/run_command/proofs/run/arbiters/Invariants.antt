use Rattle.std.proofs.Common.{◌≡◌, vec_len, map}
use Rattle.std.specs.List.{range_with_len}
use Rattle.schedules.specs.Choices.{first_state}
use Rattle.run_command.proofs.run.arbiters.Given as goal

abbrev pub invariant-loop-p : goal.invariant-loop-p
invariant-loop-p l = record {
  states : l.arbiters.items ≡ map (first_state l.fn.start) (range_with_len 0 l.p);
  many : vec_len l.arbiters ≡ l.p;
}
