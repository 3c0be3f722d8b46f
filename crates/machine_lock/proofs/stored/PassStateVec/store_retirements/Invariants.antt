use Rattle.std.proofs.Common.{◌≡◌, ◌+◌, ◌≤◌, drop, vec_len}
use Rattle.std.specs.Prelude.{vec_capacity}
use Rattle.machine_lock.specs.Rows.{with_retirements}
use Rattle.machine_lock.specs.Passes.{row_of}
use Rattle.machine_lock.proofs.stored.PassStateVec.store_retirements.Given as goal

abbrev pub invariant-loop-retired : goal.invariant-loop-retired
invariant-loop-retired l =
    (with_retirements l.processor (row_of l.self) l.place (drop l.retired-index l.retired)
    ≡ with_retirements l.processor (row_of l.initial.self) l.initial.place l.retired)
    × (l.place ≡ l.initial.place + l.retired-index)
    × (vec_capacity l.self.pass_events ≡ vec_capacity l.initial.self.pass_events)
    × (vec_len l.self.pass_events ≤ vec_len l.initial.self.pass_events + l.retired-index)
    × (l.self.steps ≤ l.initial.self.steps + l.retired-index)
