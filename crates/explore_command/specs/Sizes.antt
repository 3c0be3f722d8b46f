-- What is printed for every size of a machine.
use Rattle.std.specs.Prelude.{if◌then◌else◌, nat_lt, ◌≡◌, ◌⊎◌, ℕ, ◌+◌, ◌≤◌, ◌^◌, max}
use Rattle.std.specs.Prelude.{List, [], ◌∷◌, ◌++◌, Option, Some, None, Contains, codes, length}
use Rattle.std.specs.Prelude.{option_to_list, slice_get}
use Rattle.std.specs.Io.KnownBytes.{Appends}
use Rattle.std.specs.List.{flat_map}
use Rattle.std.specs.Fmt.{decimal}
use Rattle.flat_machine.specs.declared.event.Status.{Status}
use Rattle.flat_machine.specs.declared.event.Status.TheVariants.{Running, Halted, Faulted}
use Rattle.flat_machine.specs.State.{number_of_fault}
use Rattle.flat_machine.specs.Limits.{IsWithinLimits}
use Rattle.elf_image.specs.declared.error.ImageError.TheVariants as of_image
use Rattle.elf_image.specs.Files.{IsImageOf, IsImageRefusal}
use Rattle.elf_image.specs.Images.{ImageContents}
use Rattle.command_io.specs.declared.fault.Fault.{Fault}
use Rattle.command_io.specs.declared.fault.Fault.TheVariants as fault
use Rattle.command_io.specs.Digits.{line_feed, status_text}
use Rattle.command_io.specs.Faults.{status_of_fault}
use Rattle.command_io.specs.ErrorOutputs.{ErrorOutput, errors_to}
use Rattle.command_io.specs.FaultTexts.{IsReported}
use Rattle.command_io.specs.Links.{IsOfLink, Output}
use Rattle.link.specs.Transfer.{AppendsPart}
use Rattle.exploration.specs.local_reduction.Results.{FinalResult, ProcessorResult}
use Rattle.exploration.specs.state_graph.declared.termination.Termination.{Termination}
use Rattle.explore_command.specs.Causes.{HasTooMany, Opens}
use Rattle.explore_command.specs.Explorations.{Exploration, IsExitOf, IsFound, Problem, SearchResult, marks_of}
use Rattle.explore_command.specs.Explorations.{problem_of}
use Rattle.observed_results.specs.Lines.{counted, schedules_text}
use Rattle.observed_results.specs.Parts.{count_of}

-- ---- the greatest status

-- the rank of a status: halts are ordered by their bytes, and faults come after them, ordered by their numbers
abbrev pub rank_of_status : Status → ℕ
rank_of_status Running = 0
rank_of_status (Halted byte) = byte + 1
rank_of_status (Faulted f) = number_of_fault f + 257

-- the greater of two statuses, or the second if there is no first
abbrev pub greater : Option Status → Status → Status
greater None s = s
greater (Some o) s = if nat_lt (rank_of_status s) (rank_of_status o) then o else s

-- One of the processors has this status, or it is the start.
abbrev pub HasStatusWith : Option Status → List ProcessorResult → Status → Type 0
HasStatusWith start processors s = (start ≡ Some s) ⊎ ((p : ProcessorResult) × Contains processors p × (p.status ≡ s))

-- The greatest of the start, if there is one, and the statuses of the processors is this; or there is none.
abbrev pub IsGreatestWith : Option Status → List ProcessorResult → Option Status → Type 0
IsGreatestWith start processors None = (s : Status) → HasStatusWith start processors s → ⊥
IsGreatestWith start processors (Some greatest) =
    HasStatusWith start processors greatest
    × ((s : Status) → HasStatusWith start processors s → rank_of_status s ≤ rank_of_status greatest)

-- A processor of one of the results has the status.
abbrev pub HasStatus : List FinalResult → Status → Type 0
HasStatus results s =
    (r : FinalResult) × (p : ProcessorResult) × Contains results r × Contains r.processors p × (p.status ≡ s)

-- This is the greatest status of a processor in the results; or there is none.
abbrev pub IsGreatestStatus : List FinalResult → Option Status → Type 0
IsGreatestStatus results None = (s : Status) → HasStatus results s → ⊥
IsGreatestStatus results (Some greatest) =
    HasStatus results greatest × ((s : Status) → HasStatus results s → rank_of_status s ≤ rank_of_status greatest)

-- ---- a line

-- `k K: N processors, `
abbrev pub size_text : (k : ℕ) → List ℕ
size_text k = codes "k " ++ decimal k ++ codes ": " ++ counted (2 ^ k) (codes "processor") ++ codes ", "

-- the greatest status, or `-` if there is none
abbrev pub greatest_text : Option Status → List ℕ
greatest_text None = codes "-"
greatest_text (Some s) = status_text s

-- `k K: N processors, R results, S states, every schedule ends, halt 00`
abbrev pub size_line : (k results states : ℕ) → Termination → Option Status → List ℕ
size_line k results states termination greatest =
    size_text k ++ counted results (codes "result") ++ codes ", " ++ counted states (codes "state") ++ codes ", "
    ++ schedules_text termination ++ codes ", " ++ greatest_text greatest ++ line_feed

-- the word for why a size is not explored
abbrev pub refusal_text : Fault → List ℕ
refusal_text fault.Size = codes "K1"
refusal_text fault.States = codes "states"
refusal_text fault.Budget = codes "budget"
refusal_text fault.Alone = codes "alone"
refusal_text other = codes "memory"

-- `k K: N processors, not explored: states`
abbrev pub refused_line : (k : ℕ) → Fault → List ℕ
refused_line k f = size_text k ++ codes "not explored: " ++ refusal_text f ++ line_feed

-- ---- a size

-- Why a size is not explored: it is out of limits; there are too many states; or a processor runs alone for too long,
-- or the observer stops the search, of which only the machine's opening is known. Nothing is said about a lack of
-- memory.
abbrev pub IsSizeRefused : Problem → Fault → Type 0
IsSizeRefused p fault.Size = IsWithinLimits p.config → ⊥
IsSizeRefused p fault.States = HasTooMany p
IsSizeRefused p fault.Budget = Opens p
IsSizeRefused p fault.Alone = Opens p
IsSizeRefused p fault.Memory = Unit {0}
IsSizeRefused p other = ⊥

-- What is reported of a size: its line, its exit status, and the fault that prevents its exploration, if there is one.
pub record SizeReport : Type 0 where
  pub line : List ℕ
  pub status : ℕ
  pub fault : Option Fault

-- The size is explored: the line says what is found, and this is the exit status.
pub record IsSizeExplored (p : Problem) (r : SizeReport) : Type 0 where
  pub found : SearchResult
  pub is : IsFound p found
  pub greatest : Option Status
  pub greatest_is : IsGreatestStatus found.results greatest
  pub line_is : r.line
      ≡ size_line p.config.k (count_of (marks_of p.asked) found.results) found.states found.termination greatest
  pub exit : IsExitOf found.results found.termination r.status
  pub faultless : r.fault ≡ None

-- The size is not explored: the line says why, and the exit status is that of the fault. A size out of limits is always
-- reported as such.
pub record IsSizeNotExplored (p : Problem) (r : SizeReport) : Type 0 where
  pub why : Fault
  pub cause : IsSizeRefused p why
  pub size : (IsWithinLimits p.config → ⊥) → why ≡ fault.Size
  pub line_is : r.line ≡ refused_line p.config.k why
  pub exit : r.status ≡ status_of_fault why
  pub reported : r.fault ≡ Some why

abbrev pub IsSizeReport : Problem → SizeReport → Type 0
IsSizeReport p r = IsSizeExplored p r ⊎ IsSizeNotExplored p r

-- ---- sizes

-- how many sizes there are
abbrev pub sizes : ℕ
sizes = 7

-- the lines of these reports
abbrev pub lines_of : List SizeReport → List ℕ
lines_of rs = flat_map (λ (r : SizeReport). r.line) rs

-- the faults of the sizes that are not explored
abbrev pub faults_of : List SizeReport → List Fault
faults_of rs = flat_map (λ (r : SizeReport). option_to_list r.fault) rs

-- the greatest exit status of these reports
abbrev pub greatest_exit : List SizeReport → ℕ
greatest_exit [] = 0
greatest_exit (r ∷ rs) = max r.status (greatest_exit rs)

-- the same problem on a machine with this many stages of switches
abbrev pub with_stages : Problem → (k : ℕ) → Problem
with_stages p k = record p { config = record p.config { k = k } }

-- These are the reports of the first sizes, from k = 0 on, whatever the k of the problem.
abbrev pub AreSizeReports : Problem → List SizeReport → Type 0
AreSizeReports p rs = (k : ℕ) (r : SizeReport) → slice_get rs k ≡ Some r → IsSizeReport (with_stages p k) r

-- ---- what is printed and reported

-- Standard error got the lines that report these faults, one after another, and nothing else. Of each line there may be
-- only a beginning, if a write failed.
abbrev pub AreReported : {E : Type 0} → List Fault → ErrorOutput E → Type 0
AreReported [] err = err.new ≡ err.old
AreReported {E} (f ∷ fs) err = (middle : E) × IsReported (err.contents err.old) (err.contents middle) f
    × AreReported fs (errors_to err.contents middle err.new)

-- These are the line and the exit status of the size, and its fault is reported if it is not explored.
pub record IsSizeLine {E : Type 0} (p : Problem) (err : ErrorOutput E) (line : List ℕ) (status : ℕ) : Type 0 where
  pub fault : Option Fault
  pub is : IsSizeReport p (record { line = line; status = status; fault = fault })
  pub reported : AreReported (option_to_list fault) err

-- The line of the size is printed, and this is its exit status.
pub record PrintsSize {E : Type 0} (p : Problem) (out : Output) (err : ErrorOutput E) (status : ℕ) : Type 0 where
  pub line : List ℕ
  pub is : IsSizeLine p err line status
  pub printed : Appends out.old out.new line

-- A beginning of the size's line is printed, and not all of it.
pub record BeginsSize {E : Type 0} (p : Problem) (out : Output) (err : ErrorOutput E) : Type 0 where
  pub line : List ℕ
  pub status : ℕ
  pub is : IsSizeLine p err line status
  pub part : AppendsPart out.old out.new line

-- Why the line of a size is not printed: it cannot be written, and only a beginning of it is; or there is no memory for
-- it, and nothing is printed or reported.
abbrev pub FailsSize : {E : Type 0} → (p : Problem) → (out : Output) → (err : ErrorOutput E) → Fault → Type 0
FailsSize p out err fault.Link = BeginsSize p out err
FailsSize p out err fault.Memory = (out.new ≡ out.old) × (err.new ≡ err.old)
FailsSize p out err other = ⊥

-- These are the reports of the first sizes. Their lines have this property, and the faults of the sizes that are not
-- explored are reported.
pub record AreSizesReported {E : Type 0} (p : Problem) (rs : List SizeReport) (is_said : List ℕ → Type 0)
    (err : ErrorOutput E) : Type 0 where
  pub are : AreSizeReports p rs
  pub lines : is_said (lines_of rs)
  pub reported : AreReported (faults_of rs) err

-- The lines of this many sizes are printed, and this is the greatest of their exit statuses.
pub record PrintsFirst {E : Type 0} (p : Problem) (count : ℕ) (out : Output) (err : ErrorOutput E)
    (status : ℕ) : Type 0 where
  pub reports : List SizeReport
  pub all : length reports ≡ count
  pub exit : status ≡ greatest_exit reports
  pub are : AreSizesReported p reports (Appends out.old out.new) err

-- Only a beginning of the lines of the first sizes is printed.
pub record BeginsSizes {E : Type 0} (p : Problem) (out : Output) (err : ErrorOutput E) : Type 0 where
  pub reports : List SizeReport
  pub few : length reports ≤ sizes
  pub are : AreSizesReported p reports (AppendsPart out.old out.new) err

-- The lines of the first sizes are printed, and no others.
pub record StopsAtSizes {E : Type 0} (p : Problem) (out : Output) (err : ErrorOutput E) : Type 0 where
  pub reports : List SizeReport
  pub few : length reports ≤ sizes
  pub are : AreSizesReported p reports (Appends out.old out.new) err

-- Why the lines are not all printed: one cannot be written, and a beginning of the lines up to it is printed; or there
-- is no memory for one, and those before it are printed.
abbrev pub FailsSizes : {E : Type 0} → (p : Problem) → (out : Output) → (err : ErrorOutput E) → Fault → Type 0
FailsSizes p out err fault.Link = BeginsSizes p out err
FailsSizes p out err fault.Memory = StopsAtSizes p out err
FailsSizes p out err other = ⊥

-- ---- the image in a file

-- The lines of every size are printed for the image in the file.
pub record PrintsEverySize {E : Type 0} (e : Exploration) (out : Output) (err : ErrorOutput E)
    (status : ℕ) : Type 0 where
  pub image : ImageContents
  pub meant : IsImageOf e.config.shared_words e.file.bytes image
  pub printed : PrintsFirst (problem_of e.config image e.asked) sizes out err status

-- The lines for the image in the file are not all printed.
pub record FailsImage {E : Type 0} (e : Exploration) (out : Output) (err : ErrorOutput E) (f : Fault) : Type 0 where
  pub image : ImageContents
  pub meant : IsImageOf e.config.shared_words e.file.bytes image
  pub fails : FailsSizes (problem_of e.config image e.asked) out err f

-- Nothing is printed or reported.
abbrev pub IsSilent : {E : Type 0} → (out : Output) → (err : ErrorOutput E) → Type 0
IsSilent out err = (out.new ≡ out.old) × (err.new ≡ err.old)

-- Why the command fails, before the fault is reported: the image is refused, or there is no memory for it, and nothing
-- is printed; or its lines are not all printed.
abbrev pub FailsBefore : {E : Type 0} → (e : Exploration) → (out : Output) → (err : ErrorOutput E) → Fault → Type 0
FailsBefore e out err (fault.Image r) = IsSilent out err × IsImageRefusal e.config.shared_words e.file.bytes r
FailsBefore e out err fault.Memory = IsSilent out err ⊎ FailsImage e out err fault.Memory
FailsBefore e out err other = FailsImage e out err other

-- The command fails with a fault that has a cause and is reported after the faults of the sizes; the exit status is
-- that of the fault. It is the fault of the output or of the file exactly if a write or a read has failed.
pub record FailsEverySize {E : Type 0} (e : Exploration) (out : Output) (err : ErrorOutput E)
    (status : ℕ) : Type 0 where
  pub why : Fault
  pub tells : status ≡ status_of_fault why
  pub before : E
  pub cause : FailsBefore e out (errors_to err.contents err.old before) why
  pub reported : IsReported (err.contents before) (err.contents err.new) why
  pub unwritten : IsOfLink fault.Link out.has_failed why
  pub unread : IsOfLink (fault.Image of_image.Link) e.file.has_failed why

-- The lines of all sizes are printed, and the exit status is the greatest of theirs; or the command fails, and the exit
-- status is that of the fault.
abbrev pub ReportsEverySize : {E : Type 0} → (e : Exploration) → (out : Output) → (err : ErrorOutput E) →
    (status : ℕ) → Type 0
ReportsEverySize e out err status = PrintsEverySize e out err status ⊎ FailsEverySize e out err status
