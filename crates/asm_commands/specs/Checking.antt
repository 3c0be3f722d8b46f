-- What `ultra check` does: from the bytes of a text to the list of its faults.
use Rattle.std.specs.Prelude.{◌≡◌, ◌⊎◌, ℕ, List, [], ◌∷◌, Option}
use Rattle.std.specs.Str.{IsUtf8}
use Rattle.command_io.specs.declared.fault.Fault.{Fault}
use Rattle.command_io.specs.declared.fault.Fault.TheVariants as fault
use Rattle.command_io.specs.Files.{IsWhole}
use Rattle.command_io.specs.Printing.{PrintsPrefix}
use Rattle.fault_lists.specs.declared.text_fault.TextFault.{TextFault}
use Rattle.fault_lists.specs.Faults.{AreTheFaults}
use Rattle.fault_lists.specs.Lines.{IsList}

-- the exit status if the list is printed
abbrev pub status_of : List TextFault → ℕ
status_of [] = 0
status_of (t ∷ ts) = 1

-- The printed bytes list all faults of a text, and the status says whether there is one.
pub record IsCheckOf (text : List ℕ) (status : ℕ) (printed : List ℕ) : Type 0 where
  pub faults : List TextFault
  pub all : AreTheFaults text faults
  pub list : IsList faults printed
  pub fact : status ≡ status_of faults

-- The same, of the text that a file has.
pub record IsCheck (known : Option (List ℕ)) (status : ℕ) (printed : List ℕ) : Type 0 where
  pub text : List ℕ
  pub whole : IsWhole known text
  pub check : IsCheckOf text status printed

-- The printed bytes list all faults of the text.
pub record IsSomeCheckOf (text printed : List ℕ) : Type 0 where
  pub status : ℕ
  pub check : IsCheckOf text status printed

-- The faults of a text are not printed, or not all of them, because the list cannot be written. Out of memory says
-- nothing.
abbrev pub CheckOfTextFails : (text : List ℕ) → (old new : Option (List ℕ)) → Fault → Type 0
CheckOfTextFails text old new fault.Link = PrintsPrefix (IsSomeCheckOf text) old new
CheckOfTextFails text old new fault.Memory = Unit {0}
CheckOfTextFails text old new other = ⊥

-- The same, of a file, which may also not be UTF-8, or fail to be read.
abbrev pub CheckFails : (known old new : Option (List ℕ)) → Fault → Type 0
CheckFails known old new fault.Link = (new ≡ old)
    ⊎ ((text : List ℕ) × IsWhole known text × CheckOfTextFails text old new fault.Link)
CheckFails known old new fault.NotUtf8 = (text : List ℕ) × IsWhole known text × (¬ (IsUtf8 text))
CheckFails known old new fault.Memory = Unit {0}
CheckFails known old new other = ⊥
