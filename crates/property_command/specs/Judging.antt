-- What the command prints: from the bytes of a file to the verdict on a property of its program.
use Rattle.std.specs.Prelude.{◌≡◌, ℕ, zero, suc, List, [], ◌++◌, codes, length, slice_index}
use Rattle.std.specs.Fmt.{decimal}
use Rattle.flat_machine.specs.State.{FlatState}
use Rattle.flat_machine.specs.Limits.{IsWithinLimits}
use Rattle.flat_machine.specs.declared.config.Config.{Config}
use Rattle.elf_image.specs.declared.error.ImageError.TheVariants as of_image
use Rattle.elf_image.specs.Files.{IsImageOf, IsImageRefusal}
use Rattle.elf_image.specs.Images.{ImageContents}
use Rattle.trace_file.specs.declared.error.TraceError.TheVariants as of_trace
use Rattle.machine_steps.specs.Machines.{MachineLists}
use Rattle.machine_steps.specs.Openings.{flat_state}
use Rattle.machine_steps.specs.Runs.{IsOpening}
use Rattle.command_io.specs.declared.fault.Fault.{Fault}
use Rattle.command_io.specs.declared.fault.Fault.TheVariants as fault
use Rattle.command_io.specs.Digits.{line_feed}
use Rattle.command_io.specs.Links.{Input, IsOfLink, Output}
use Rattle.command_io.specs.Printing.{PrintsPrefix}
use Rattle.exploration.specs.States.{HasManyStates}
use Rattle.property_search.specs.Verdicts.{IsVerdict}
use Rattle.property_search.specs.declared.judging.Verdict.{Verdict}
use Rattle.property_search.specs.declared.judging.Verdict.TheVariants as verdict
use Rattle.exploration.specs.declared.refusal.Refusal.{Refusal}
use Rattle.exploration.specs.declared.refusal.Refusal.TheVariants as search
use Rattle.state_conditions.specs.declared.property.Kind.{Kind}
use Rattle.state_conditions.specs.declared.property.Kind.TheVariants as kind
use Rattle.run_reports.specs.RunReports.{TraceOutput}
use Rattle.witness_traces.specs.declared.refused.Refused.{Refused}
use Rattle.witness_traces.specs.declared.refused.Refused.TheVariants as refused
use Rattle.property_command.specs.declared.command.Asked.{Asked}
use Rattle.property_command.specs.Counterexamples.{IsCounterexamplePartSaved, IsCounterexampleSaved}

-- ---- the lines

abbrev pub kind_text : Kind → List ℕ
kind_text kind.Never = codes "never "
kind_text kind.Always = codes "always "
kind_text kind.Finally = codes "finally "

-- the first of these numbers, each after a blank
abbrev pub numbers_text : List ℕ → (count : ℕ) → List ℕ
numbers_text numbers zero = []
numbers_text numbers (suc i) = numbers_text numbers i ++ codes " " ++ decimal (slice_index numbers i)

-- `way 0 1 0`: the processors that refer, in order
abbrev pub way_line : (way : List ℕ) → List ℕ
way_line way = codes "way" ++ numbers_text way (length way) ++ line_feed

-- what is said of a verdict
abbrev pub verdict_text : Verdict → (way : List ℕ) → List ℕ
verdict_text verdict.Holds way = codes ": holds\n"
verdict_text verdict.Broken way = codes ": broken\n" ++ way_line way
verdict_text verdict.Unknown way = codes ": not known\n"

-- `never CONDITION: holds`, or `never CONDITION: broken` and a way to a state that breaks the property
abbrev pub verdict_lines : Kind → (condition : List ℕ) → Verdict → (way : List ℕ) → List ℕ
verdict_lines k condition v way = kind_text k ++ condition ++ verdict_text v way

-- ---- what is judged

-- A property of the program in a file, on a machine of this size.
pub record Judging : Type 0 where
  pub config : Config
  pub asked : Asked
  pub file : Input

abbrev pub judging_of : Config → Asked → Input → Judging
judging_of c asked file = record { config = c; asked = asked; file = file }

-- 0 if the property holds, 1 if it is broken; the third is never printed
abbrev pub status_of_verdict : Verdict → ℕ
status_of_verdict verdict.Holds = 0
status_of_verdict verdict.Broken = 1
status_of_verdict verdict.Unknown = 4

-- These are the lines of the verdict on the machine that opens on the image, and this is the exit status. If the
-- property is broken, the trace of a counterexample with the way is written, if one is asked for. If none is, nothing
-- is said about the way.
pub record AreJudged {T : Type 0} (c : Config) (asked : Asked) (image : ImageContents) (trace : TraceOutput T)
    (text : List ℕ) (status : ℕ) : Type 0 where
  pub opening : MachineLists
  pub opens : IsOpening c image opening
  pub verdict : Verdict
  pub is : IsVerdict (flat_state opening) asked.property.now.kind asked.property.now.condition verdict
  pub way : List ℕ
  pub lines : text ≡ verdict_lines asked.property.now.kind asked.condition.now verdict way
  pub exit : status ≡ status_of_verdict verdict
  pub saved : IsCounterexampleSaved c image asked.property.now verdict way trace

-- These are the lines of the verdict on the image in the file, and this is the exit status. The trace of a
-- counterexample is written, if one is asked for.
pub record PrintsVerdict {T : Type 0} (j : Judging) (trace : TraceOutput T) (status : ℕ) (text : List ℕ) : Type 0
  where
    pub image : ImageContents
    pub meant : IsImageOf j.config.shared_words j.file.bytes image
    pub judged : AreJudged j.config j.asked image trace text status

-- ---- why nothing is printed

abbrev pub fault_of_search : Refusal → Fault
fault_of_search search.Memory = fault.Memory
fault_of_search search.States = fault.States
fault_of_search search.Stopped = fault.Budget
fault_of_search search.Alone = fault.Alone

-- Why a search gives up: there are as many states as the limit, or more; the observer has stopped it; or a processor
-- ran alone for too long.
abbrev pub IsNotSearched : FlatState → (limit : ℕ) → Fault → Type 0
IsNotSearched m limit fault.States = HasManyStates m limit
IsNotSearched m limit fault.Budget = Unit {0}
IsNotSearched m limit fault.Alone = Unit {0}
IsNotSearched m limit fault.Memory = Unit {0}
IsNotSearched m limit other = ⊥

-- A machine of this size opens on the image.
abbrev pub Opens : Config → ImageContents → Type 0
Opens c image = (opening : MachineLists) × IsOpening c image opening

-- It has as many states as the limit, or more.
abbrev pub HasTooMany : Config → Asked → ImageContents → Type 0
HasTooMany c asked image = (opening : MachineLists) × IsOpening c image opening
    × HasManyStates (flat_state opening) asked.limit

-- A state of the machine breaks the property.
abbrev pub IsBroken : Config → Asked → ImageContents → Type 0
IsBroken c asked image = (opening : MachineLists) × IsOpening c image opening
    × IsVerdict (flat_state opening) asked.property.now.kind asked.property.now.condition verdict.Broken

-- Why there is no verdict on an image, or no trace of a counterexample: the size is out of limits; or the machine
-- opens, but the search gives up, or a processor spins; or the property is broken, but the trace cannot be written, or
-- the way to the broken state is too long or leads elsewhere; or there is no memory.
abbrev pub IsNotJudged : {T : Type 0} → Config → Asked → ImageContents → TraceOutput T → Refused → Type 0
IsNotJudged c asked image trace refused.Unknown = ⊥
IsNotJudged c asked image trace refused.Missed = (trace.new ≡ trace.old) × IsBroken c asked image
IsNotJudged c asked image trace (refused.Fault fault.Size) = (trace.new ≡ trace.old) × (IsWithinLimits c → ⊥)
IsNotJudged c asked image trace (refused.Fault fault.States) = (trace.new ≡ trace.old) × HasTooMany c asked image
IsNotJudged c asked image trace (refused.Fault fault.Budget) = (trace.new ≡ trace.old) × Opens c image
IsNotJudged c asked image trace (refused.Fault fault.Alone) = (trace.new ≡ trace.old) × Opens c image
IsNotJudged c asked image trace (refused.Fault fault.Full) = (trace.new ≡ trace.old) × IsBroken c asked image
IsNotJudged c asked image trace (refused.Fault (fault.Trace e)) =
    (e ≡ of_trace.Link) × IsCounterexamplePartSaved c image asked.property.now trace × IsBroken c asked image
IsNotJudged c asked image trace (refused.Fault fault.Memory) = trace.new ≡ trace.old
IsNotJudged c asked image trace (refused.Fault other) = ⊥

-- Why no lines are printed, or not all of them: the image is refused, there is no verdict or no trace, or the lines
-- cannot be written.
abbrev pub IsRefused : {T : Type 0} → Judging → TraceOutput T → Output → Refused → Type 0
IsRefused j trace out (refused.Fault (fault.Image e)) =
    (trace.new ≡ trace.old) × IsImageRefusal j.config.shared_words j.file.bytes e
IsRefused j trace out (refused.Fault fault.Link) =
    PrintsPrefix (λ text. (status : ℕ) × PrintsVerdict j trace status text) out.old out.new
IsRefused j trace out (refused.Fault fault.Memory) = trace.new ≡ trace.old
IsRefused j trace out other = (image : ImageContents) × IsImageOf j.config.shared_words j.file.bytes image
    × IsNotJudged j.config j.asked image trace other

-- Why the command fails: the refusal has a cause, and it is that of a link exactly if the link has failed.
pub record JudgingFails {T : Type 0} (j : Judging) (trace : TraceOutput T) (out : Output) (r : Refused) : Type 0 where
  pub cause : IsRefused j trace out r
  pub unread : IsOfLink (refused.Fault (fault.Image of_image.Link)) j.file.has_failed r
  pub unprinted : IsOfLink (refused.Fault fault.Link) out.has_failed r
