-- What a hunt prints: from the bytes of an image's file to the different results of its runs.
use Rattle.std.specs.Prelude.{◌≡◌, ◌⊎◌, ℕ, zero, suc, ◌+◌, ◌%◌, ◌^◌, ◌≤◌, nat_lt, Bool, if◌then◌else◌, List, []}
use Rattle.std.specs.Prelude.{◌∷◌, ◌++◌, true, false, Option, Some, length, option_map, slice_get}
use Rattle.flat_machine.specs.declared.config.Config.{Config}
use Rattle.flat_machine.specs.Limits.{IsWithinLimits}
use Rattle.elf_image.specs.declared.error.ImageError.TheVariants as of_image
use Rattle.elf_image.specs.Files.{IsImageOf, IsImageRefusal}
use Rattle.elf_image.specs.Images.{ImageContents}
use Rattle.trace_file.specs.Traces.{IsTrace, trace_of}
use Rattle.steps.specs.declared.step.Step.{Step}
use Rattle.machine_steps.specs.Draining.{drain_steps}
use Rattle.machine_steps.specs.Machines.{MachineLists, IsIdle}
use Rattle.machine_steps.specs.Runs.{IsOpening}
use Rattle.machine_log.specs.Logs.{Log}
use Rattle.schedules.specs.declared.sweeping.SweepEnd.{SweepEnd}
use Rattle.hunt_command.specs.declared.policy.Policy.{Policy}
use Rattle.hunt_command.specs.Runs.{IsRandomRun}
use Rattle.command_io.specs.declared.fault.Fault.TheVariants as fault
use Rattle.command_io.specs.Faults.{status_of_fault}
use Rattle.command_io.specs.FaultTexts.{IsReported}
use Rattle.command_io.specs.Links.{Input, IsOfLink, Output}
use Rattle.command_io.specs.Printing.{PrintsPrefix}
use Rattle.command_io.specs.Tallies.{TallyState}
use Rattle.run_reports.specs.Reports.{IsExitOf}
use Rattle.run_reports.specs.CountedReplays.{IsReplayCounted}
use Rattle.hunt_command.specs.declared.command.Hunt.{Hunt}
use Rattle.hunt_command.specs.declared.refused.Refused.{Refused}
use Rattle.hunt_command.specs.declared.refused.Refused.TheVariants as refused
use Rattle.hunt_command.specs.Findings.{FindingState, firsts, hunt_lines, if_unfinished, noted}
use Rattle.hunt_command.specs.Lines.{result_of}
use Rattle.hunt_command.specs.Traces.{AreNotSaved, AreSaved, WhereAsked}

-- ---- one run

-- The result of a run: its text, how it is printed, how the run ended, and the exit status of the machine.
pub record ResultState : Type 0 where
  pub text : List ℕ
  pub printed : List ℕ
  pub end : SweepEnd
  pub status : ℕ

-- This is the result of the run with this number, of at most this many steps and turns, on a machine that opens on the
-- image, by the observed words.
pub record IsResultOf (observed : Option (List Bool)) (c : Config) (image : ImageContents) (policy : Policy)
    (number : ℕ) (r : ResultState) : Type 0 where
  pub log : Log
  pub ran : IsRandomRun c image number policy r.end log
  pub opening : MachineLists
  pub opens : IsOpening c image opening
  pub machine : MachineLists
  pub tally : TallyState
  pub replay_counted : IsReplayCounted opening log.steps machine tally
  pub is : r.text ≡ result_of observed false r.end machine tally.shown
  pub printed_is : r.printed ≡ result_of observed true r.end machine tally.shown
  pub exit : IsExitOf machine r.status

-- The machine has taken these steps, and its drain leads to this result.
pub record IsDrainedTo (observed : Option (List Bool)) (opening : MachineLists) (steps : List Step)
    (old : MachineLists) (end : SweepEnd) (text printed : List ℕ) (status : ℕ) : Type 0 where
  pub machine : MachineLists
  pub idle : IsIdle machine
  pub tally : TallyState
  pub replay_counted : IsReplayCounted opening (steps ++ drain_steps old) machine tally
  pub is : text ≡ result_of observed false end machine tally.shown
  pub printed_is : printed ≡ result_of observed true end machine tally.shown
  pub exit : IsExitOf machine status

-- The log is that of the run with this number, and a trace file can spell its steps.
pub record IsLogOf (c : Config) (image : ImageContents) (policy : Policy) (number : ℕ) (end : SweepEnd)
    (log : Log) : Type 0 where
  pub ran : IsRandomRun c image number policy end log
  pub trace : IsTrace (trace_of c log.steps)

-- ---- many runs

-- the number of the run at a place
abbrev pub number_at : (start place : ℕ) → ℕ
number_at start place = (start + place) % 2 ^ 32

-- These are the results of consecutive runs, the first of which has this number.
abbrev pub AreResults : (observed : Option (List Bool)) → Config → ImageContents → (policy : Policy) (start : ℕ) →
    List ResultState → Type 0
AreResults observed c image policy start results =
    (place : ℕ) (r : ResultState) → slice_get results place ≡ Some r →
    IsResultOf observed c image policy (number_at start place) r

-- the results found after these are noted too, the first of them as that of the run at this place
abbrev pub found_from : (start place : ℕ) → List FindingState → List ResultState → List FindingState
found_from start place fs [] = fs
found_from start place fs (r ∷ rs) =
    found_from start (place + 1) (noted fs r.text r.printed (number_at start place)) rs

-- the numbers of the runs with these results that are unfinished, the first of them the run at this place
abbrev pub unfinished_from : (start place : ℕ) → List ResultState → List ℕ
unfinished_from start place [] = []
unfinished_from start place (r ∷ rs) =
    if_unfinished r.end (number_at start place) ++ unfinished_from start (place + 1) rs

-- the greater of two exit statuses
abbrev pub greater : (one other : ℕ) → ℕ
greater one other = if nat_lt one other then other else one

-- the greatest of a status and the statuses of these results
abbrev pub greatest_from : ℕ → List ResultState → ℕ
greatest_from status [] = status
greatest_from status (r ∷ rs) = greatest_from (greater r.status status) rs

-- These are the results found in this many runs, starting with this number, these are the numbers of the runs that are
-- unfinished, and this is the greatest exit status of a machine: 1 if a fault has stopped a processor in some run.
pub record AreFound (observed : Option (List Bool)) (c : Config) (image : ImageContents) (policy : Policy)
    (start runs : ℕ) (found : List FindingState) (unfinished : List ℕ) (greatest : ℕ) : Type 0 where
  pub results : List ResultState
  pub all : length results ≡ runs
  pub each : AreResults observed c image policy start results
  pub are : found ≡ found_from start 0 [] results
  pub those : unfinished ≡ unfinished_from start 0 results
  pub exit : greatest ≡ greatest_from 0 results

-- Whether one result is expected, and more than one was found.
abbrev pub is_unexpected : (expect_one : Bool) → List FindingState → Bool
is_unexpected expect_one found = if expect_one then nat_lt 1 (length found) else false

-- the exit status of a hunt, given the greatest exit status of a machine: 1 if a fault has stopped a processor in some
-- run; else 5 if some run is unfinished; else 6 if the results are not as expected; else 0
abbrev pub hunt_status : (greatest : ℕ) → (unfinished : List ℕ) → (unexpected : Bool) → ℕ
hunt_status zero [] false = 0
hunt_status zero [] true = 6
hunt_status zero (n ∷ ns) unexpected = 5
hunt_status (suc faulted) unfinished unexpected = 1

-- ---- a hunt

-- A hunt, as it is asked for: the machine's size, the runs, and the image's file.
pub record AskedHunt : Type 0 where
  pub config : Config
  pub hunt : Hunt
  pub file : Input

abbrev pub asked_hunt : Config → Hunt → Input → AskedHunt
asked_hunt c hunt file = record { config = c; hunt = hunt; file = file }

-- the observed words, if some are chosen: a mark for each word; None for all words
abbrev pub marks_of : Hunt → Option (List Bool)
marks_of hunt = option_map (λ words. words.now) hunt.observed

-- A store of traces, each under its number: whether it has a trace under a number, how a writer opens and closes,
-- whether a writer has failed, and the bytes that it is known to have.
pub record TraceStore (T W : Type 0) : Type 1 where
  pub finds : T → (number : ℕ) → (is_there : Bool) → Type 0
  pub opens : T → (number : ℕ) → W → T → Type 0
  pub closes : T → W → T → Type 0
  pub has_failed : W → Bool
  pub contents : W → Option (List ℕ)

abbrev pub trace_store : {T W : Type 0} → (finds : T → (number : ℕ) → (is_there : Bool) → Type 0) →
    (opens : T → (number : ℕ) → W → T → Type 0) → (closes : T → W → T → Type 0) → (has_failed : W → Bool) →
    (contents : W → Option (List ℕ)) → TraceStore T W
trace_store finds opens closes has_failed contents =
    record { finds = finds; opens = opens; closes = closes; has_failed = has_failed; contents = contents }

-- The store of traces, if they are asked for, before and after a hunt.
pub record HuntTraces (T W : Type 0) : Type 1 where
  pub store : TraceStore T W
  pub old : Option T
  pub new : Option T

abbrev pub hunt_traces : {T W : Type 0} → TraceStore T W → (old new : Option T) → HuntTraces T W
hunt_traces store old new = record { store = store; old = old; new = new }

-- These are the results found by the hunt on the image in the file, these are the numbers of its unfinished runs, and
-- this is the greatest exit status of a machine.
pub record HasFound (h : AskedHunt) (image : ImageContents) (found : List FindingState) (unfinished : List ℕ)
    (greatest : ℕ) : Type 0 where
  pub meant : IsImageOf h.config.shared_words h.file.bytes image
  pub are : AreFound (marks_of h.hunt) h.config image h.hunt.policy h.hunt.start h.hunt.runs found unfinished
      greatest

-- If traces are asked for, those of the first runs with each result are written, and no others.
abbrev pub HasSaved : {T W : Type 0} → AskedHunt → HuntTraces T W → ImageContents → List FindingState → Type 0
HasSaved h t image found =
    WhereAsked (AreSaved t.store.finds t.store.opens t.store.closes t.store.has_failed t.store.contents h.config image
    h.hunt.policy (firsts found)) t.old t.new

-- This is the text of the hunt on the image in the file, and this is its exit status. The traces are written, if they
-- are asked for.
pub record IsHunt {T W : Type 0} (h : AskedHunt) (t : HuntTraces T W) (status : ℕ) (text : List ℕ) : Type 0 where
  pub image : ImageContents
  pub found : List FindingState
  pub unfinished : List ℕ
  pub greatest : ℕ
  pub has_found : HasFound h image found unfinished greatest
  pub saved : HasSaved h t image found
  pub lines : text ≡ hunt_lines found unfinished
  pub exit : status ≡ hunt_status greatest unfinished (is_unexpected h.hunt.expect_one found)

-- This is the text of the hunt, with some exit status.
abbrev pub IsSomeHunt : {T W : Type 0} → AskedHunt → HuntTraces T W → (text : List ℕ) → Type 0
IsSomeHunt h t text = (status : ℕ) × IsHunt h t status text

-- The traces of the results found are written in part or not at all, for this reason.
pub record HasNotSaved {T W : Type 0} (h : AskedHunt) (t : HuntTraces T W) (r : Refused) : Type 0 where
  pub image : ImageContents
  pub found : List FindingState
  pub unfinished : List ℕ
  pub greatest : ℕ
  pub has_found : HasFound h image found unfinished greatest
  pub unsaved : AreNotSaved t.store.finds t.store.opens t.store.closes t.store.has_failed t.store.contents h.config
      image h.hunt.policy (firsts found) t.old t.new r

-- Why nothing is printed: the image is refused; the machine's size is out of limits; a trace exists already or cannot
-- be written; or the text cannot be printed. If there is no memory, no trace or only the first ones are written.
abbrev pub IsRefused : {T W : Type 0} → AskedHunt → HuntTraces T W → Output → Refused → Type 0
IsRefused h t out (refused.There n) = HasNotSaved h t (refused.There n)
IsRefused h t out (refused.Fault (fault.Image e)) =
    (t.new ≡ t.old) × IsImageRefusal h.config.shared_words h.file.bytes e
IsRefused h t out (refused.Fault fault.Size) =
    (t.new ≡ t.old) × ((image : ImageContents) × IsImageOf h.config.shared_words h.file.bytes image)
    × (IsWithinLimits h.config → ⊥)
IsRefused h t out (refused.Fault (fault.Trace e)) = HasNotSaved h t (refused.Fault (fault.Trace e))
IsRefused h t out (refused.Fault fault.Link) = PrintsPrefix (IsSomeHunt h t) out.old out.new
IsRefused h t out (refused.Fault fault.Memory) = (t.new ≡ t.old) ⊎ HasNotSaved h t (refused.Fault fault.Memory)
IsRefused h t out (refused.Fault other) = ⊥

-- Why the command fails: the refusal has a cause, and it is that of a link exactly if the link has failed.
pub record HuntFails {T W : Type 0} (h : AskedHunt) (t : HuntTraces T W) (out : Output) (r : Refused) : Type 0 where
  pub cause : IsRefused h t out r
  pub unread : IsOfLink (refused.Fault (fault.Image of_image.Link)) h.file.has_failed r
  pub unprinted : IsOfLink (refused.Fault fault.Link) out.has_failed r

-- ---- the exit status

-- The exit status is one of a hunt whose results are printed.
abbrev pub IsOfResults : (status : ℕ) → Type 0
IsOfResults status = (status ≤ 1) ⊎ (5 ≤ status)

-- The exit status is one of a hunt that is refused.
abbrev pub IsOfRefusal : (status : ℕ) → Type 0
IsOfRefusal status = (2 ≤ status) × (status ≤ 4)

-- the exit status for a refusal
abbrev pub status_of : Refused → ℕ
status_of (refused.Fault f) = status_of_fault f
status_of (refused.There n) = 2

-- Standard error got the line that reports a fault, or, if a write failed, a beginning of it. Nothing is said about the
-- report of a trace that exists already.
abbrev pub IsRefusalReported : (bytes bytes' : Option (List ℕ)) → Refused → Type 0
IsRefusalReported bytes bytes' (refused.Fault f) = IsReported bytes bytes' f
IsRefusalReported bytes bytes' (refused.There n) = Unit {0}
