-- The traces of a hunt: which trace is written under which number.
use Rattle.std.specs.Prelude.{◌≡◌, ◌⊎◌, ℕ, Bool, true, false, All, List, [], ◌∷◌, Option, Some, None, slice_get, take}
use Rattle.std.specs.Io.KnownBytes.{Appends}
use Rattle.link.specs.Transfer.{AppendsPart}
use Rattle.flat_machine.specs.declared.config.Config.{Config}
use Rattle.elf_image.specs.Images.{ImageContents}
use Rattle.trace_file.specs.declared.error.TraceError.TheVariants as of_trace
use Rattle.trace_file.specs.Traces.{trace_bytes, trace_of}
use Rattle.machine_log.specs.Logs.{Log}
use Rattle.schedules.specs.declared.sweeping.SweepEnd.{SweepEnd}
use Rattle.command_io.specs.declared.fault.Fault.{Fault}
use Rattle.command_io.specs.declared.fault.Fault.TheVariants as fault
use Rattle.hunt_command.specs.declared.policy.Policy.{Policy}
use Rattle.hunt_command.specs.declared.refused.Refused.{Refused}
use Rattle.hunt_command.specs.declared.refused.Refused.TheVariants as refused
use Rattle.hunt_command.specs.Runs.{IsRandomRun}

-- ---- one trace

-- The trace of the run with this number is appended.
pub record IsRunSaved (c : Config) (image : ImageContents) (policy : Policy) (number : ℕ)
    (old new : Option (List ℕ)) : Type 0 where
  pub end : SweepEnd
  pub log : Log
  pub ran : IsRandomRun c image number policy end log
  pub saved : Appends old new (trace_bytes (trace_of c log.steps))

-- A beginning of the trace of the run with this number, and not all of it, is appended.
pub record IsRunBegun (c : Config) (image : ImageContents) (policy : Policy) (number : ℕ)
    (old new : Option (List ℕ)) : Type 0 where
  pub end : SweepEnd
  pub log : Log
  pub ran : IsRandomRun c image number policy end log
  pub part : AppendsPart old new (trace_bytes (trace_of c log.steps))

-- ---- traces, each under its number

-- A store of traces: how a writer opens for a number and closes, whether it has failed, and the bytes that it is known
-- to have.
module _ {T W : Type 0} (opens : T → (number : ℕ) → W → T → Type 0) (closes : T → W → T → Type 0) (has_failed : W →
    Bool)
    (contents : W → Option (List ℕ)) where
  -- The writer for this number is opened, used as `what` says, and closed; nothing else is done.
  pub record IsWritten (number : ℕ) (what : (before after : W) → Type 0) (old new : T) : Type 0 where
    pub middle : T
    pub before : W
    pub opened : opens old number before middle
    pub after : W
    pub gets : what before after
    pub closed : closes middle after new

  module _ (c : Config) (image : ImageContents) (policy : Policy) where
    -- The trace of the run with this number is written under the number.
    abbrev pub IsWhole : (number : ℕ) → (old new : T) → Type 0
    IsWhole n = IsWritten n (λ before after. IsRunSaved c image policy n (contents before) (contents after))

    -- The writer failed after a beginning of that trace.
    abbrev pub IsPart : (number : ℕ) → (old new : T) → Type 0
    IsPart n = IsWritten n (λ before after. (has_failed after ≡ true)
        × IsRunBegun c image policy n (contents before) (contents after))

    -- The traces of the runs with these numbers are written, one after another, each under its number, and nothing else
    -- is.
    abbrev pub AreWritten : (numbers : List ℕ) → (old new : T) → Type 0
    AreWritten [] old new = new ≡ old
    AreWritten (n ∷ ns) old new = (middle : T) × IsWhole n old middle × AreWritten ns middle new

    -- The traces of the first `count` numbers are written, and nothing else is.
    pub record AreBegun (numbers : List ℕ) (old new : T) : Type 0 where
      pub count : ℕ
      pub whole : AreWritten (take count numbers) old new

    -- The traces of the first `count` numbers are written, then a beginning of the next, and nothing else is.
    pub record AreCut (numbers : List ℕ) (old new : T) : Type 0 where
      pub count : ℕ
      pub middle : T
      pub whole : AreWritten (take count numbers) old middle
      pub number : ℕ
      pub next : slice_get numbers count ≡ Some number
      pub part : IsPart number middle new

    -- Why a trace is not written: its writer has failed, or there was no memory, and then nothing is done.
    abbrev pub IsNotWhole : (number : ℕ) → (old new : T) → Fault → Type 0
    IsNotWhole number old new (fault.Trace e) = (e ≡ of_trace.Link) × IsPart number old new
    IsNotWhole number old new fault.Memory = new ≡ old
    IsNotWhole number old new other = ⊥

    -- Why not all traces are written: a writer has failed, or there was no memory.
    abbrev pub AreNotWritten : (numbers : List ℕ) → (old new : T) → Fault → Type 0
    AreNotWritten numbers old new (fault.Trace e) = (e ≡ of_trace.Link) × AreCut numbers old new
    AreNotWritten numbers old new fault.Memory = AreBegun numbers old new
    AreNotWritten numbers old new other = ⊥

-- ---- traces that are asked for or not

-- If traces are asked for, their store changes in this way.
abbrev pub WhereAsked : {T : Type 0} → (becomes : T → T → Type 0) → (old new : Option T) → Type 0
WhereAsked becomes None None = Unit {0}
WhereAsked becomes (Some old) (Some new) = becomes old new
WhereAsked becomes None (Some new) = ⊥
WhereAsked becomes (Some old) None = ⊥

-- Traces are asked for, and their store changes in this way.
abbrev pub AreAsked : {T : Type 0} → (becomes : T → T → Type 0) → (old new : Option T) → Type 0
AreAsked becomes (Some old) (Some new) = becomes old new
AreAsked becomes (Some old) None = ⊥
AreAsked becomes None new = ⊥

-- The store has no trace under any of these numbers.
abbrev pub AreFree : {T : Type 0} → (finds : T → (number : ℕ) → (is_there : Bool) → Type 0) → (numbers : List ℕ) → T →
    Type 0
AreFree finds numbers t = All (λ n. finds t n false) numbers

-- The store has a trace under this one of the numbers.
pub record IsThereAt {T : Type 0} (finds : T → (number : ℕ) → (is_there : Bool) →
    Type 0) (numbers : List ℕ) (number : ℕ) (t : T) : Type 0 where
  pub place : ℕ
  pub one : slice_get numbers place ≡ Some number
  pub found : finds t number true

module _ {T W : Type 0} (finds : T → (number : ℕ) → (is_there : Bool) → Type 0) (opens : T → (number : ℕ) → W → T →
    Type 0)
    (closes : T → W → T → Type 0) (has_failed : W → Bool) (contents : W →
    Option (List ℕ)) (c : Config) (image : ImageContents) (policy : Policy) where
  -- No trace existed under these numbers, and the traces of their runs are written.
  abbrev pub AreSaved : (numbers : List ℕ) → (old new : T) → Type 0
  AreSaved numbers old new = AreFree finds numbers old
      × AreWritten opens closes has_failed contents c image policy numbers old new

  -- Why not all traces are written: one exists already, and none is written; there is no memory to look, and none is
  -- written; or none existed, and they cannot all be written.
  abbrev pub AreNotSaved : (numbers : List ℕ) → (old new : Option T) → Refused → Type 0
  AreNotSaved numbers old new (refused.There n) = AreAsked (λ t t'. IsThereAt finds numbers n t × (t' ≡ t)) old new
  AreNotSaved numbers old new (refused.Fault f) =
      AreAsked (λ t t'. ((t' ≡ t) × (f ≡ fault.Memory))
      ⊎ (AreFree finds numbers t
      × AreNotWritten opens closes has_failed contents c image policy numbers t t' f)) old new
