use Rattle.std.proofs.Common.{◌≡◌, ◌++◌, take, map}
use Rattle.std.specs.Vec.{vec_capacity}
use Rattle.flat_machine.specs.declared.poke.Entry.TheVariants as entry
use Rattle.machine_steps.proofs.entering.SerialOrder.serve.Given as goal

abbrev pub invariant-loop-p : goal.invariant-loop-p
invariant-loop-p l = record {
  groups : l.self.groups ≡ l.initial.self.groups;
  entries : l.self.entries.items ≡ l.fn.self.entries.items ++ map entry.Processor (take l.p-index l.p-items);
  capacity : vec_capacity l.self.entries ≡ vec_capacity l.fn.self.entries;
}
