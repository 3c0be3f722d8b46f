-- What `ultra words` does: from the bytes of a file to the bytes of a report.
use Rattle.std.specs.Prelude.{◌≡◌, ◌⊎◌, ℕ, ◌≤◌, false, List, [], ◌∷◌, Option, Some, None, Ok, Err}
use Rattle.flat_machine.specs.declared.event.Status.{Status}
use Rattle.flat_machine.specs.declared.event.Status.TheVariants.{Running, Halted, Faulted}
use Rattle.flat_machine.specs.State.{Processor, FlatState, is_running}
use Rattle.command_io.specs.declared.fault.Fault.{Fault}
use Rattle.command_io.specs.declared.fault.Fault.TheVariants as fault
use Rattle.command_io.specs.Printing.{PrintsPrefix}
use Rattle.words_command.specs.HexText.{words_of_text}
use Rattle.words_command.specs.Loading.{flat_of_words}
use Rattle.words_command.specs.Report.{report_of}
use Rattle.words_command.specs.Running.{HasRunAlone}

-- If the file's bytes are known, the text spells what the file does. (The text is their beginning: not all bytes need
-- be read.)
abbrev pub IsRead : Option (List ℕ) → List ℕ → Type 0
IsRead None text = Unit {0}
IsRead (Some bytes) text = words_of_text text ≡ words_of_text bytes

-- The flat machine has one processor, which is this one.
abbrev pub HasProcessor : FlatState → Processor → Type 0
HasProcessor m p = m.processors ≡ p ∷ []

abbrev pub exit_status_of : Status → ℕ
exit_status_of Running = 0
exit_status_of (Halted byte) = 0
exit_status_of (Faulted fault) = 1

-- The program that a text spells has run on the flat machine until its processor stopped. This is the report of that
-- processor, and this is the exit status.
pub record IsProcessorReport (text : List ℕ) (status : ℕ) (report : List ℕ) : Type 0 where
  pub words : List ℕ
  pub spelled : words_of_text text ≡ Ok words
  pub last : FlatState
  pub retired : ℕ
  pub few : retired ≤ 1000000
  pub run : HasRunAlone (flat_of_words words) last retired
  pub processor : Processor
  pub alone : HasProcessor last processor
  pub stopped : is_running processor.status ≡ false
  pub exit : status ≡ exit_status_of processor.status
  pub is : report ≡ report_of processor

-- This is the report of the program that a file spells, and this is the exit status.
pub record IsWordsReport (known : Option (List ℕ)) (status : ℕ) (report : List ℕ) : Type 0 where
  pub text : List ℕ
  pub read : IsRead known text
  pub is : IsProcessorReport text status report

-- This is the report of the program that a text spells, with some exit status.
abbrev pub IsSomeReport : (text report : List ℕ) → Type 0
IsSomeReport text report = (status : ℕ) × IsProcessorReport text status report

-- The program that a text spells has retired a million instructions on the flat machine.
pub record IsOverBudget (text : List ℕ) : Type 0 where
  pub words : List ℕ
  pub spelled : words_of_text text ≡ Ok words
  pub last : FlatState
  pub run : HasRunAlone (flat_of_words words) last 1000000

-- A text's program is not reported, or not all of it, because of this fault. Each fault says something of the text, and
-- of what is printed.
abbrev pub ReportOfFails : Fault → List ℕ → (old new : Option (List ℕ)) → Type 0
ReportOfFails (fault.Line number) text old new = words_of_text text ≡ Err number
ReportOfFails fault.Budget text old new = IsOverBudget text
ReportOfFails fault.Link text old new = PrintsPrefix (IsSomeReport text) old new
ReportOfFails fault.Memory text old new = Unit {0}
ReportOfFails other text old new = ⊥

-- A file's program is not reported, or not all of it, because of this fault. A failed read says nothing of the bytes,
-- and then nothing is printed. Out of memory says nothing at all.
abbrev pub WordsReportFails : Option (List ℕ) → (old new : Option (List ℕ)) → Fault → Type 0
WordsReportFails bytes old new (fault.Line number) = (text : List ℕ) × IsRead bytes text
    × ReportOfFails (fault.Line number) text old new
WordsReportFails bytes old new fault.Budget = (text : List ℕ) × IsRead bytes text
    × ReportOfFails fault.Budget text old new
WordsReportFails bytes old new fault.Link = (new ≡ old)
    ⊎ ((text : List ℕ) × IsRead bytes text × ReportOfFails fault.Link text old new)
WordsReportFails bytes old new fault.Memory = Unit {0}
WordsReportFails bytes old new other = ⊥
