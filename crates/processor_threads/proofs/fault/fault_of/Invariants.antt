use Rattle.std.proofs.Common.{◌≡◌, take}
use Rattle.processor_threads.specs.Faults.{fault_of}
use Rattle.processor_threads.proofs.fault.fault_of.Given as goal

abbrev pub invariant-loop-end : goal.invariant-loop-end
invariant-loop-end l = l.reported ≡ fault_of (take l.end-index l.ends)
