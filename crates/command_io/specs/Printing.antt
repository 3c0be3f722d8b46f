-- What a command leaves on its output, and what its exit status says.
use Rattle.std.specs.Prelude.{◌≡◌, ◌⊎◌, ◌↔◌, ℕ, Bool, true, false, List, Option}
use Rattle.std.specs.Io.KnownBytes.{Appends}
use Rattle.link.specs.Transfer.{AppendsPart}
use Rattle.command_io.specs.declared.fault.Fault.{Fault}
use Rattle.command_io.specs.Faults.{status_of_fault}

-- A text that is to be printed is appended to the output.
pub record Prints (is_to_be_printed : List ℕ → Type 0) (old new : Option (List ℕ)) : Type 0 where
  pub text : List ℕ
  pub meant : is_to_be_printed text
  pub printed : Appends old new text

-- A beginning of a text that is to be printed, and not all of it, is appended to the output.
pub record PrintsPrefix (is_to_be_printed : List ℕ → Type 0) (old new : Option (List ℕ)) : Type 0 where
  pub text : List ℕ
  pub meant : is_to_be_printed text
  pub part : AppendsPart old new text

-- The command fails with a refusal that has a cause and is reported, and the exit status is that of the refusal.
pub record ReportsRefusal {F : Type 0} (status_of : F → ℕ) (is_cause is_reported : F → Type 0) (status : ℕ) : Type 0
  where
    pub refusal : F
    pub tells : status ≡ status_of refusal
    pub cause : is_cause refusal
    pub reported : is_reported refusal

-- the same, of a command that fails by a fault
abbrev pub ReportsCause : (is_cause is_reported : Fault → Type 0) → (status : ℕ) → Type 0
ReportsCause = ReportsRefusal status_of_fault

-- The command fails with a fault that has a cause and is reported, and the exit status is that of the fault. A failed
-- write to the output is reported as the fault of the output, which may also have another source. If no write failed,
-- the output is as it was.
pub record ReportsFault {W : Type 0} (has_failed : W →
    Bool) (of_output : Fault) (elsewhere : Type 0) (is_cause is_reported : Fault →
    Type 0) (old new : W) (status : ℕ) : Type 0 where
  pub fault : Fault
  pub tells : status ≡ status_of_fault fault
  pub cause : is_cause fault
  pub reported : is_reported fault
  pub failed : has_failed new ≡ true → fault ≡ of_output
  pub source : fault ≡ of_output → elsewhere ⊎ (has_failed new ≡ true)
  pub silent : has_failed new ≡ false → new ≡ old

-- The fault has a cause, and it is `unread` exactly if a read of the input has failed.
abbrev pub IsCauseOrUnread : {F : Type 0} → (is_cause : F → Type 0) → (unread : F) → (failed : Bool) → F → Type 0
IsCauseOrUnread is_cause unread failed f = is_cause f × ((f ≡ unread) ↔ (failed ≡ true))

-- The fault has a cause, and if a read of the input has failed, it is `unread`. That fault may also be the output's.
abbrev pub IsCauseAndUnread : {F : Type 0} → (is_cause : F → Type 0) → (unread : F) → (failed : Bool) → F → Type 0
IsCauseAndUnread is_cause unread failed f = is_cause f × (failed ≡ true → f ≡ unread)
