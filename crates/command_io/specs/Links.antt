-- The links of a command: the files that it reads, and its output.
use Rattle.std.specs.Prelude.{◌≡◌, ◌↔◌, Bool, true, false, List, ℕ, Option, Some, None, Result, Ok, Err, is_err}

-- A file that a command reads: its bytes, if they are known, and whether a read of it has failed.
pub record Input : Type 0 where
  pub bytes : Option (List ℕ)
  pub has_failed : Bool

-- the file of a reader, `old` before the command and `new` after it
abbrev pub input : {R : Type 0} → (remaining : R → Option (List ℕ)) → (has_failed : R → Bool) → (old new : R) → Input
input remaining has_failed old new = record { bytes = remaining old; has_failed = has_failed new }

-- a file whose bytes are all known, and which is read without a failure
abbrev pub known_input : List ℕ → Input
known_input bytes = record { bytes = Some bytes; has_failed = false }

-- what is known of the bytes of a file; nothing, if it could not be opened
abbrev pub known_of : {R E : Type 0} → (R → Option (List ℕ)) → Result R E → Option (List ℕ)
known_of remaining (Ok file) = remaining file
known_of remaining (Err error) = None

-- whether a read of a file has failed; none has, if the file could not be opened
abbrev pub failed_of : {R E : Type 0} → (R → Bool) → Result R E → Bool
failed_of has_failed (Ok file) = has_failed file
failed_of has_failed (Err error) = false

-- A file that a command reads, and whether it could not be opened.
pub record OpenedInput : Type 0 where
  pub bytes : Option (List ℕ)
  pub has_failed : Bool
  pub is_unopened : Bool

-- the file of a reader, if it could be opened, `old` before the command and `new` after it
abbrev pub opened_input : {R E : Type 0} → (remaining : R → Option (List ℕ)) → (has_failed : R → Bool) →
    (old new : Result R E) → OpenedInput
opened_input remaining has_failed old new = record {
  bytes = known_of remaining old;
  has_failed = failed_of has_failed new;
  is_unopened = is_err old;
}

-- What a command does to an output: its bytes before and after, if they are known, and whether a write has failed.
pub record Output : Type 0 where
  pub old : Option (List ℕ)
  pub new : Option (List ℕ)
  pub has_failed : Bool

-- the output of a writer, `old` before the command and `new` after it
abbrev pub output : {W : Type 0} → (contents : W → Option (List ℕ)) → (has_failed : W → Bool) → (old new : W) → Output
output contents has_failed old new = record { old = contents old; new = contents new; has_failed = has_failed new }

-- The fault is that of the link exactly if a call on the link has failed.
abbrev pub IsOfLink : {F : Type 0} → (of_link : F) → (has_failed : Bool) → F → Type 0
IsOfLink of_link has_failed f = (f ≡ of_link) ↔ (has_failed ≡ true)
