use Rattle.std.proofs.Common.{◌≡◌, ◌≤◌, vec_len}
use Rattle.std.specs.Prelude.{vec_capacity}
use Rattle.machine_lock.specs.Passes.{rows_of, new_passes}
use Rattle.machine_lock.proofs.shared.Shared.new.Given as goal

abbrev pub invariant-loop-p : goal.invariant-loop-p
invariant-loop-p g l =
    (l.authority ≡ rows_of (new_passes l.p)) × (l.passes.items ≡ new_passes l.p) × (vec_len l.passes ≡ l.p) × (l.count ≤ vec_capacity l.passes)
