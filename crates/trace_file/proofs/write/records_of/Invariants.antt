use Rattle.std.proofs.Common.{◌≡◌, ◌*◌, take}
use Rattle.arrayvec.specs.ArrayVec.{array_vec_len}
use Rattle.trace_file.specs.Traces.{records_bytes}
use Rattle.trace_file.proofs.write.records_of.Given as goal

-- The bytes so far are the records of the steps so far.
abbrev pub invariant-loop-step : goal.invariant-loop-step
invariant-loop-step l = (l.records.items ≡ records_bytes (take l.step-index l.steps)) × (array_vec_len l.records ≡ 12 * l.step-index)
