-- What a runner does is what `cont` does.
use Rattle.std.proofs.Common.{◌≡◌, ◌↔◌, Bool, List, Result, Ok, Err, refl}
use Rattle.std.specs.Prelude.{OnErr, OnOk}
use Rattle.flat_machine.specs.Flat.{flat_run}
use Rattle.machine_steps.specs.Machines.{IsIdle}
use Rattle.machine_steps.specs.Runs.{flat_state, passed}
use Rattle.machine_log.specs.Logs.{IsWellFormed, Log}
use Rattle.machine_log.specs.declared.refusal.LockRefusal.{LockRefusal}
use Rattle.machine_log.specs.declared.refusal.LockRefusal.TheVariants as refusal
use Rattle.debug_session.specs.Runs.{HasDriven, RunSpec}
use Rattle.debug_session.specs.Answers.{Continues, ending_of}

-- The law of runs, for these two logs.
abbrev IsInOrder : (old new : Log) → Type 0
IsInOrder old new =
    IsWellFormed old → IsWellFormed new → IsIdle old.machine → (run : HasDriven old new) →
    flat_state new.machine ≡ flat_run (flat_state old.machine) (passed old.machine run.more).order

done_is_not_full : {T : Type 0} (answer : Result T LockRefusal) (nothing : T) → answer ≡ Ok nothing → answer ≡ Err refusal.Full → ⊥
done_is_not_full answer nothing is e = cc

memory_is_not_full : {T : Type 0} (answer : Result T LockRefusal) → answer ≡ Err refusal.Memory → answer ≡ Err refusal.Full → ⊥
memory_is_not_full answer is e = cc

-- What a runner does is what `cont` does; if the runner refuses, `cont` is refused, and the log is as it was.
pub gone_on : {T : Type 0} (run : RunSpec) (breaks : List Bool) (old new : Log) (answer : Result T LockRefusal) → IsInOrder old new → IsWellFormed old →
    IsWellFormed new
    → IsIdle old.machine → OnOk answer (HasDriven old new) → OnOk answer (run.runs breaks old new) → (answer ≡ Err refusal.Full) ↔ run.lacks_room old
    → (answer ≡ Err refusal.Unnamed → ⊥) → (answer ≡ Err refusal.NotFree → ⊥) → OnErr answer (new ≡ old)
    → Continues run breaks old (ending_of answer) new
gone_on run breaks old new (Ok nothing) law kept kept' idle ran runs full named free refused = (
  λ lacks. done_is_not_full (Ok nothing) nothing refl (full.1 lacks),
  runs,
  record { run = ran; flat = law kept kept' idle ran },
)
gone_on run breaks old new (Err refusal.Memory) law kept kept' idle ran runs full named free refused =
    (λ lacks. memory_is_not_full (Err refusal.Memory) refl (full.1 lacks), refused)
gone_on run breaks old new (Err refusal.Full) law kept kept' idle ran runs full named free refused = (full.0 refl, refused)
gone_on run breaks old new (Err refusal.Unnamed) law kept kept' idle ran runs full named free refused = absurd (named refl)
gone_on run breaks old new (Err refusal.NotFree) law kept kept' idle ran runs full named free refused = absurd (free refl)
