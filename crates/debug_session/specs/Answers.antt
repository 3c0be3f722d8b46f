-- What a command does to a session's log and breaks, and the reply to it.
use Rattle.std.specs.Prelude.{◌≡◌, ◌≤◌, ◌+◌, ◌*◌, ℕ, zero, suc, Bool, true, false, nat_le, ◌^◌, List, []}
use Rattle.std.specs.Prelude.{◌∷◌, ◌++◌, length, Option, Some, None, Result, Ok, Err, if◌then◌else◌}
use Rattle.flat_machine.specs.declared.poke.Poke.{Poke}
use Rattle.flat_machine.specs.declared.poke.Poke.TheVariants as poke
use Rattle.flat_machine.specs.Flat.{flat_run}
use Rattle.flat_machine.specs.State.{FlatState}
use Rattle.steps.specs.declared.step.Outcome.{Outcome}
use Rattle.machine_steps.specs.Runs.{flat_state, passed}
use Rattle.machine_steps.specs.Whole.{one_steps, IsOne}
use Rattle.machine_log.specs.Logs.{Log, HasPoked}
use Rattle.machine_log.specs.declared.refusal.LockRefusal.{LockRefusal}
use Rattle.machine_log.specs.declared.refusal.LockRefusal.TheVariants as refusal
use Rattle.debug_lines.specs.declared.command.Command.{Command}
use Rattle.debug_lines.specs.declared.command.Command.TheVariants.{State, Registers, Register, Set, Memory, Write}
use Rattle.debug_lines.specs.declared.command.Command.TheVariants.{Break, Clear, Step, Continue, Quit, Malformed}
use Rattle.debug_replies.specs.declared.error.Error.{Error}
use Rattle.debug_replies.specs.declared.error.Error.TheVariants as error
use Rattle.debug_replies.specs.Breaking.{with_flag}
use Rattle.debug_replies.specs.Errors.{error_of, error_text}
use Rattle.debug_replies.specs.Stops.{is_faulted_at, is_running_at, named_stop, stop_text}
use Rattle.debug_replies.specs.Texts.{shown_text}
use Rattle.debug_session.specs.Runs.{HasDriven, RunSpec}

-- The state of a session: the log with its machine, and the breaks.
pub record Session : Type 0 where
  pub log : Log
  pub breaks : List Bool

abbrev pub session : Log → (breaks : List Bool) → Session
session log breaks = record { log = log; breaks = breaks }

-- how a command ended: it was executed, or refused with an error
abbrev pub Ending : Type 0
Ending = Result (Unit {0}) Error

-- how a command ended, from the result of the log
abbrev pub ending_of : {T : Type 0} → Result T LockRefusal → Ending
ending_of (Ok answer) = Ok tt
ending_of (Err refusal.Memory) = Err error.Memory
ending_of (Err refusal.Full) = Err error.Room
ending_of (Err refusal.Unnamed) = Err error.Processor
ending_of (Err refusal.NotFree) = Err error.Processor

-- ---- commands that take steps

-- The log has room for this many more steps.
abbrev pub HasRoom : Log → (count : ℕ) → Type 0
HasRoom l count = length l.steps + count ≤ 4194304

-- A command asks for room for this many steps before it takes one. It is refused for lack of room exactly if the log
-- has no room for them. It may also be refused if out of memory; else it is done. A refusal changes nothing.
abbrev pub IsTried : (count : ℕ) → (done : Type 0) → (old new : Log) → Ending → Type 0
IsTried count done old new (Ok nothing) = HasRoom old count × done
IsTried count done old new (Err error.Room) = (HasRoom old count → ⊥) × (new ≡ old)
IsTried count done old new (Err error.Memory) = HasRoom old count × (new ≡ old)
IsTried count done old new (Err error.Form) = ⊥
IsTried count done old new (Err error.Address) = ⊥
IsTried count done old new (Err error.Processor) = ⊥
IsTried count done old new (Err error.Register) = ⊥

-- `set`: one poke. Register 0 is never written.
abbrev pub Sets : (old : Log) → (p register value : ℕ) → Ending → (new : Log) → Type 0
Sets old p zero value ending new = (ending ≡ Ok tt) × (new ≡ old)
Sets old p (suc r) value ending new = IsTried 1 (HasPoked old (poke.Register p (suc r) value ∷ []) new) old new ending

-- the write of a byte at an address of processor p; from 2^31 on, the byte is in shared memory
abbrev pub poke_of : (p address byte : ℕ) → Poke
poke_of p address byte = if nat_le (2 ^ 31) address then poke.Shared address byte else poke.Local p address byte

-- the writes of bytes, from an address on
abbrev pub pokes_of : (p address : ℕ) → (bytes : List ℕ) → List Poke
pokes_of p address [] = []
pokes_of p address (byte ∷ bytes) = poke_of p address byte ∷ pokes_of p (address + 1) bytes

-- `write`: a poke for each byte
abbrev pub Writes : (old : Log) → (p address : ℕ) → (bytes : List ℕ) → Ending → (new : Log) → Type 0
Writes old p address bytes ending new =
    IsTried (length bytes) (HasPoked old (pokes_of p address bytes) new) old new ending

-- Processor p takes one whole instruction, and the log appends its steps.
pub record HasStepped (old : Log) (p : ℕ) (new : Log) : Type 0 where
  pub opening : new.opening ≡ old.opening
  pub steps : new.steps ≡ old.steps ++ one_steps old.machine p
  pub outcome : Outcome
  pub one : IsOne old.machine p outcome new.machine

abbrev pub StepsWhere : (runs : Bool) → (old : Log) → (p : ℕ) → Ending → (new : Log) → Type 0
StepsWhere false old p ending new = (ending ≡ Ok tt) × (new ≡ old)
StepsWhere true old p ending new = IsTried (2 * old.machine.config.k + 3) (HasStepped old p new) old new ending

-- `step`: one whole instruction if the processor runs; else nothing, and no room is asked for.
abbrev pub StepsOnce : (old : Log) → (p : ℕ) → Ending → (new : Log) → Type 0
StepsOnce old p ending new = StepsWhere (is_running_at (flat_state old.machine) p) old p ending new

-- The runner has taken steps, and the flat machine has taken the serial order of these steps.
pub record HasGoneOn (old new : Log) : Type 0 where
  pub run : HasDriven old new
  pub flat : flat_state new.machine ≡ flat_run (flat_state old.machine) (passed old.machine run.more).order

-- `cont`: what the runner does with the session's breaks. It is refused for lack of room exactly if the log lacks room
-- for it. It may also be refused if out of memory. A refusal changes nothing.
abbrev pub Continues : RunSpec → (breaks : List Bool) → (old : Log) → Ending → (new : Log) → Type 0
Continues run breaks old (Ok nothing) new = (run.lacks_room old → ⊥) × run.runs breaks old new × HasGoneOn old new
Continues run breaks old (Err error.Room) new = run.lacks_room old × (new ≡ old)
Continues run breaks old (Err error.Memory) new = (run.lacks_room old → ⊥) × (new ≡ old)
Continues run breaks old (Err error.Form) new = ⊥
Continues run breaks old (Err error.Address) new = ⊥
Continues run breaks old (Err error.Processor) new = ⊥
Continues run breaks old (Err error.Register) new = ⊥

-- ---- all commands

-- Nothing changes.
abbrev pub IsShown : (old : Session) → Ending → (new : Session) → Type 0
IsShown old ending new = (ending ≡ Ok tt) × (new ≡ old)

-- What a command does that has no error on the machine, given what the runner of `cont` does.
abbrev pub Acts : RunSpec → (old : Session) → Command → Ending → (new : Session) → Type 0
Acts run old (State p) ending new = IsShown old ending new
Acts run old (Registers p) ending new = IsShown old ending new
Acts run old (Register p r) ending new = IsShown old ending new
Acts run old (Set p r value) ending new = Sets old.log p r value ending new.log × (new.breaks ≡ old.breaks)
Acts run old (Memory p address n) ending new = IsShown old ending new
Acts run old (Write p address bytes) ending new = Writes old.log p address bytes ending new.log
    × (new.breaks ≡ old.breaks)
Acts run old (Break address) ending new = (ending ≡ Ok tt)
    × (new ≡ record old { breaks = with_flag old.breaks address true })
Acts run old (Clear address) ending new = (ending ≡ Ok tt)
    × (new ≡ record old { breaks = with_flag old.breaks address false })
Acts run old (Step p) ending new = StepsOnce old.log p ending new.log × (new.breaks ≡ old.breaks)
Acts run old Continue ending new = Continues run old.breaks old.log ending new.log × (new.breaks ≡ old.breaks)
Acts run old Quit ending new = IsShown old ending new
Acts run old Malformed ending new = IsShown old ending new

abbrev pub ActsUnless : RunSpec → Option Error → (old : Session) → Command → Ending → (new : Session) → Type 0
ActsUnless run None old c ending new = Acts run old c ending new
ActsUnless run (Some e) old c ending new = (ending ≡ Err e) × (new ≡ old)

-- the reply to an executed command, from the flat machine after it and the processors that faults had stopped before
abbrev pub done_text : (faulted : ℕ → Bool) → FlatState → (breaks : List Bool) → Command → List ℕ
done_text faulted m breaks (Step p) = stop_text m (Some p)
done_text faulted m breaks Continue = stop_text m (named_stop faulted m breaks)
done_text faulted m breaks c = shown_text m c

-- the reply to a command
abbrev pub reply_text : (old new : Session) → Command → Ending → List ℕ
reply_text old new c (Ok nothing) =
    done_text (is_faulted_at (flat_state old.log.machine)) (flat_state new.log.machine) new.breaks c
reply_text old new c (Err e) = error_text e

-- The command leaves the new session, and this is the reply. An error of the command on the machine comes before all
-- others, and changes nothing.
pub record Answers (run : RunSpec) (old : Session) (c : Command) (text : List ℕ) (new : Session) : Type 0 where
  pub ending : Ending
  pub acts : ActsUnless run (error_of (flat_state old.log.machine) c) old c ending new
  pub text_is : text ≡ reply_text old new c ending
