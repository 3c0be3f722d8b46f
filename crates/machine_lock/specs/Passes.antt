-- What contracts see of a pass and of the locked state.
use Rattle.std.specs.Prelude.{◌≡◌, ℕ, zero, suc, ◌≤◌, ◌^◌, ◌↔◌, Bool, true, false, List, [], ◌∷◌, ◌++◌, length}
use Rattle.std.specs.Prelude.{◌+◌, drop, map, count_by, slice_get, Option, Some, None, Result, Ok, Err, if◌then◌else◌}
use Rattle.flat_machine.specs.declared.config.Config.{Config}
use Rattle.flat_machine.specs.declared.event.Retired.{Retired}
use Rattle.hart.specs.State.{CoreState}
use Rattle.steps.specs.declared.step.Step.{Step}
use Rattle.steps.specs.declared.step.Step.TheVariants.{Turn}
use Rattle.steps.specs.declared.step.Outcome.{Outcome}
use Rattle.steps.specs.declared.step.Outcome.TheVariants.{Stalled}
use Rattle.steps.specs.declared.step.Outcome.TheVariants as outcome
use Rattle.steps.specs.Answers.{is_stalled}
pub use Rattle.machine_steps.specs.Machines.{MachineLists}
use Rattle.machine_steps.specs.Runs.{answer_after}
use Rattle.machine_steps.specs.machine_theory.Loans.{turns_of}
use Rattle.machine_log.specs.Logs.{Log, entered}
use Rattle.machine_log.specs.declared.refusal.LockRefusal.{LockRefusal}
use Rattle.machine_log.specs.declared.refusal.LockRefusal.TheVariants.{NotFree, Unnamed}
use Rattle.hart.specs.LocalRuns.{HasRunLocally, RetirementList, TakesLocal}
use Rattle.hart.specs.declared.run.LocalEnd.{LocalEnd}
use Rattle.machine_log.specs.Lendings.{AreAnswered, lent_at}
use Rattle.machine_log.specs.declared.lent.Lent.{Lent}
use Rattle.machine_lock.specs.declared.locked_state.Round.{Round}
use Rattle.machine_lock.specs.declared.locked_state.Rounds.{Rounds}
use Rattle.machine_lock.specs.declared.row.PassEvent.{PassEvent}
use Rattle.machine_lock.specs.declared.row.PassState.{PassState}
use Rattle.machine_lock.specs.declared.stored.PassStateVec.{PassStateVec}
use Rattle.machine_lock.specs.Lists.{is_net, is_stop}
use Rattle.machine_lock.specs.Rows.{row, new_row, with_answer, with_retirements, with_loan, Follows, all_since, Fits}

-- a placeholder for a machine
abbrev pub no_machine : MachineLists
no_machine = record {
  config = record { k = 0; c = 0; b = 0; r = 0; shared_words = 0 };
  image = record { layout = record { entry = 0; code = []; local = []; shared = [] }; shared_words = 0 };
  network = record {
    k = 0;
    c = 0;
    b = 0;
    r = 0;
    pool = record { cells = 0; requests = []; replies = [] };
    switches = [];
  };
  ports = [];
  modules = [];
  code = [];
}

-- ---- a pass

-- the row that a pass stores
abbrev pub row_of : PassStateVec → PassState
row_of s = row s.pass_events.items s.steps s.last s.lent

pub record Held : Type 0 where
  pub processor : ℕ
  pub row : PassState

abbrev pub held : (processor : ℕ) → PassState → Held
held processor row = record { processor = processor; row = row }

-- the steps of the log, and what a pass stores, at one moment
pub record Moment : Type 0 where
  pub log : List Step
  pub pass : Held

abbrev pub moment : List Step → Held → Moment
moment log pass = record { log = log; pass = pass }

-- This is what a call does to a pass, from the moment when it gets the lock to the moment when it releases it. The log
-- began with these steps.
pub record UnderLock (first : List Step) (old new : Held) (Does : Moment → Moment → Type 0) : Type 0 where
  pub log : List Step
  pub log_after : List Step
  pub begins : log ≡ first ++ drop (length first) log
  pub does : Does (moment log old) (moment log_after new)

-- A step was asked for, and answered as the machine of this opening answers it after the steps of the log. It was
-- entered unless it stalled, and the pass stores the answer with its place.
pub record HasAnswered (opening : MachineLists) (old : Moment) (s : Step) (o : Outcome) (new : Moment) : Type 0 where
  pub answer : o ≡ answer_after opening old.log s
  pub log : new.log ≡ entered old.log s o
  pub follows : Follows old.pass.row.last (length old.log)
  pub pass : new.pass ≡ held old.pass.processor (with_answer old.pass.processor old.pass.row s o (length old.log))

-- A turn of the pass's processor was asked for, and had this outcome. While the core is lent, it stalls and changes
-- nothing.
abbrev pub IsTurned : (lent : Option ℕ) → (opening : MachineLists) → (old : Moment) → Outcome → (new : Moment) → Type 0
IsTurned None opening old o new = HasAnswered opening old (Turn old.pass.processor) o new
IsTurned (Some most) opening old o new = (o ≡ Stalled) × (new ≡ old)

-- After a turn with this outcome, a step of the network was asked for, unless the turn had stopped the processor. The
-- step was answered, or it was refused and nothing changed.
abbrev pub IsAsked : (opening : MachineLists) → (turn : Outcome) → Moment → Step →
    Option (Result Outcome LockRefusal) → Moment → Type 0
IsAsked opening turn old s None new = (is_stop turn ≡ true) × (new ≡ old)
IsAsked opening turn old s (Some (Ok o)) new = (is_stop turn ≡ false) × (is_net opening.config s ≡ true)
    × HasAnswered opening old s o new
IsAsked opening turn old s (Some (Err e)) new =
    (is_stop turn ≡ false) × ((e ≡ Unnamed) ↔ (is_net opening.config s ≡ false)) × (e ≡ NotFree → ⊥) × (new ≡ old)

-- A turn was asked for, and then a step of the network.
pub record TurnAndStep (opening : MachineLists) (old : Moment) (turn : Outcome) (s : Step)
    (net : Option (Result Outcome LockRefusal)) (new : Moment) :
    Type 0 where
  pub between : Moment
  pub turn_is : IsTurned old.pass.row.lent opening old turn between
  pub net_is : IsAsked opening turn between s net new

-- ---- rounds

-- A turn was asked for, and then a step of the network; or the turn was refused.
abbrev pub GoesOnWith : (opening : MachineLists) → (old : Moment) → (answer : Result Round LockRefusal) → Step →
    (new : Moment) → Type 0
GoesOnWith opening old (Ok r) s new = TurnAndStep opening old r.turn s r.net new
GoesOnWith opening old (Err refusal) s new = new ≡ old

-- whether a processor waits after its turn: the turn has begun a reference, or stalled
abbrev pub is_waiting : Outcome → Bool
is_waiting outcome.Issued = true
is_waiting outcome.Stalled = true
is_waiting (outcome.Retired retired) = false
is_waiting (outcome.Stopped cause) = false
is_waiting outcome.Moved = false
is_waiting (outcome.Combined first second) = false
is_waiting (outcome.Served leader) = false
is_waiting (outcome.Answered to) = false
is_waiting outcome.Poked = false

abbrev pub is_answered : Option (Result Outcome LockRefusal) → Bool
is_answered None = false
is_answered (Some (Ok o)) = true
is_answered (Some (Err refusal)) = false

-- whether the processor waits after a round, and nothing was refused in it
abbrev pub leaves_waiting : Result Round LockRefusal → Bool
leaves_waiting (Ok r) = if is_waiting r.turn then is_answered r.net else false
leaves_waiting (Err refusal) = false

-- whether a step of the network was answered, and stalled
abbrev pub has_stalled : Option (Result Outcome LockRefusal) → Bool
has_stalled None = false
has_stalled (Some (Ok o)) = is_stalled o
has_stalled (Some (Err refusal)) = false

-- 1 for an idle round, whose turn and step of the network stalled, and 0 for any other
abbrev pub idle_of : Result Round LockRefusal → ℕ
idle_of (Ok r) = if is_stalled r.turn then (if has_stalled r.net then 1 else 0) else 0
idle_of (Err refusal) = 0

-- Rounds were taken with these steps, one after another. Each left the processor waiting, and this many were idle.
abbrev pub HaveWaited : (opening : MachineLists) → (old : Moment) → List Step → (idle : ℕ) → (new : Moment) → Type 0
HaveWaited opening old [] idle new = (idle ≡ 0) × (new ≡ old)
HaveWaited opening old (s ∷ later) idle new = (answer : Result Round LockRefusal) × (between : Moment) × (rest : ℕ)
    × (leaves_waiting answer ≡ true)
    × (idle ≡ idle_of answer + rest) × GoesOnWith opening old answer s between
    × HaveWaited opening between later rest new

-- Rounds were taken with the first of these steps, as many as `rounds` says. All but the last left the processor
-- waiting. The last has the answer in `rounds`, and left the processor waiting only if it took the last step.
pub record HaveGone (opening : MachineLists) (old : Moment) (steps : List Step) (rounds : Rounds)
    (new : Moment) : Type 0 where
  pub earlier : List Step
  pub last : Step
  pub later : List Step
  pub steps_are : steps ≡ earlier ++ last ∷ later
  pub count : rounds.gone ≡ suc (length earlier)
  pub between : Moment
  pub idle_earlier : ℕ
  pub waited : HaveWaited opening old earlier idle_earlier between
  pub round : GoesOnWith opening between rounds.answer last new
  pub idle : rounds.idle ≡ idle_earlier + idle_of rounds.answer
  pub over : leaves_waiting rounds.answer ≡ true → later ≡ []

-- ---- a loan

-- what a loan has: its processor, how the core was lent, the core as it is now, and what it has retired since
pub record LoanState : Type 0 where
  pub processor : ℕ
  pub record_is : Lent
  pub core : CoreState
  pub retired : List Retired

-- The core has taken these local instructions since it was lent, and no more than it may.
pub record IsLoan (code : List ℕ) (l : Lent) (core : CoreState) (retired : RetirementList) : Type 0 where
  pub turns : TakesLocal l.core.setting code l.core.state retired.items core.state
  pub setting : core.setting ≡ l.core.setting
  pub few : length retired.items ≤ l.most

-- The core has taken more of them, and the run ended in this way.
pub record HasGoneOn (code : List ℕ) (old new : LoanState) (end : LocalEnd) : Type 0 where
  pub processor : new.processor ≡ old.processor
  pub record_is : new.record_is ≡ old.record_is
  pub run : HasRunLocally code old.core new.core (record { most = old.record_is.most; items = old.retired })
      (record { most = new.record_is.most; items = new.retired }) end

-- The core is lent on this pass, for this many instructions at most, and has taken none.
pub record IsLentOn (old : Held) (most : ℕ) (loan : LoanState) (new : Held) : Type 0 where
  pub processor : loan.processor ≡ old.processor
  pub most_is : loan.record_is.most ≡ most
  pub core : loan.core ≡ loan.record_is.core
  pub none : loan.retired ≡ []
  pub pass : new ≡ held old.processor (with_loan old.row (Some most))

-- The core of this loan was lent on the pass, and is not back.
pub record IsLoanOf (pass : Held) (loan : LoanState) : Type 0 where
  pub processor : loan.processor ≡ pass.processor
  pub lent : pass.row.lent ≡ Some loan.record_is.most

-- The loan is back: the turns that retire its instructions were entered, and the pass stores them.
pub record IsReturned (opening : MachineLists) (old : Moment) (retired : List Retired) (new : Moment) : Type 0 where
  pub answered : AreAnswered opening old.log old.pass.processor retired
  pub log : new.log ≡ old.log ++ turns_of old.pass.processor (length retired)
  pub follows : Follows old.pass.row.last (length old.log)
  pub pass : new.pass
      ≡ held old.pass.processor (with_loan (with_retirements old.pass.processor old.pass.row
      (length old.log) retired) None)

-- The loan came back, and then rounds were taken.
pub record HasEnded (opening : MachineLists) (old : Moment) (retired : List Retired) (steps : List Step)
    (rounds : Rounds) (new : Moment) : Type 0 where
  pub between : Moment
  pub back : IsReturned opening old retired between
  pub rounds_are : HaveGone opening between steps rounds new

-- ---- the passes of all processors

abbrev pub rows_of : List Held → List PassState
rows_of hs = map (λ h. h.row) hs

-- These are the passes of all processors, in order.
pub record IsWhole (count : ℕ) (hs : List Held) : Type 0 where
  pub many : length hs ≡ count
  pub own : (k : ℕ) (h : Held) → slice_get hs k ≡ Some h → h.processor ≡ k

-- new passes
abbrev pub new_passes : ℕ → List Held
new_passes zero = []
new_passes (suc n) = new_passes n ++ held n new_row ∷ []

-- what the lists of passes hold, each event with its processor
abbrev pub all_stored : List Held → List (ℕ × PassEvent)
all_stored [] = []
all_stored (h ∷ hs) = map (λ n. (h.processor, n)) h.row.pass_events ++ all_stored hs

-- Whatever property events are counted by, the passes' lists hold as many as the steps after the first ones gave.
abbrev pub TotalsAgree : MachineLists → (first : List Step) → List Step → List Held → Type 0
TotalsAgree opening first steps hs = (test : ℕ × PassEvent → Bool) →
    count_by test (all_stored hs) ≡ count_by test (all_since opening first steps)

-- ---- the locked state

-- the log as if all cores were back as they were lent, what every pass stores, and what is known of the cores that are
-- away
pub record LockedStateModel : Type 0 where
  pub log : Log
  pub rows : List PassState
  pub lent : List (Option Lent)

-- for how many instructions a core is lent, if it is lent
abbrev pub most_of : Option Lent → Option ℕ
most_of None = None
most_of (Some l) = Some l.most

-- The log has answered a step at this place, and the row of p has the answer.
pub record IsAnswered (old : Log) (p : ℕ) (r : PassState) (s : Step) (place : ℕ) (new : Log)
    (r' : PassState) : Type 0 where
  pub outcome : Outcome
  pub answer : outcome ≡ answer_after old.opening old.steps s
  pub opening : new.opening ≡ old.opening
  pub config : new.machine.config ≡ old.machine.config
  pub steps : new.steps ≡ entered old.steps s outcome
  pub row : r' ≡ with_answer p r s outcome place

-- What always holds under the lock: the log is of this opening, which has this many processors, and the rows fit its
-- steps.
pub record IsAgreed (opens : MachineLists) (first : List Step) (many : ℕ) (s : LockedStateModel) : Type 0 where
  pub opening : s.log.opening ≡ opens
  pub config : s.log.machine.config ≡ opens.config
  pub count : many ≡ 2 ^ opens.config.k
  pub fits : Fits opens first many s.log.steps s.rows
  -- a core is away exactly if its pass says so
  pub loans : (p : ℕ) (r : PassState) → slice_get s.rows p ≡ Some r → r.lent ≡ most_of (lent_at s.lent p)
