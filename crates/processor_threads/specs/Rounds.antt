-- The rounds of a processor's thread: what it does in them, which steps it uses, and how they are counted.
use Rattle.std.specs.Prelude.{◌≡◌, ℕ, ◌+◌, ◌-◌, ◌≤◌, ◌<◌, ◌↔◌, ◌⊎◌, max, min, nat_lt, Bool, true, false, List, [], ◌∷◌}
use Rattle.std.specs.Prelude.{◌++◌, length, take, drop}
use Rattle.std.specs.Prelude.{Option, Some, None, Result, Ok, Err, IfOk, slice_get}
use Rattle.flat_machine.specs.declared.event.Retired.{Retired}
use Rattle.steps.specs.declared.step.Step.{Step}
use Rattle.steps.specs.declared.step.Outcome.{Outcome}
use Rattle.hart.specs.declared.run.LocalEnd.{LocalEnd}
use Rattle.hart.specs.declared.run.LocalEnd.TheVariants.{Out, Most, Other}
use Rattle.machine_log.specs.declared.refusal.LockRefusal.{LockRefusal}
use Rattle.machine_log.specs.declared.refusal.LockRefusal.TheVariants as refused
use Rattle.machine_lock.specs.declared.locked_state.Round.{Round}
use Rattle.machine_lock.specs.declared.locked_state.Rounds.{Rounds}
use Rattle.machine_lock.specs.Lists.{is_net, is_stop}
use Rattle.machine_lock.specs.Passes.{MachineLists, Held, LoanState, UnderLock, is_waiting}
use Rattle.machine_lock.specs.Passes.{HasEnded, HasGoneOn, HaveGone, IsLentOn, IsReturned, HasAnswered}
use Rattle.console_monitor.specs.Ends.{ComesBack, put_of}
use Rattle.console_monitor.specs.declared.monitor.End.{End}
use Rattle.processor_threads.specs.declared.fault.RunFault.{RunFault}
use Rattle.processor_threads.specs.declared.fault.RunFault.TheVariants as run_fault
use Rattle.processor_threads.specs.declared.handle.RoundsDone.{RoundsDone}
use Rattle.processor_threads.specs.declared.tally.Tally.{Tally}
use Rattle.processor_threads.specs.Consoles.{byte_of, end_queue}

-- ---- the steps that are named ahead

-- If no step is left, the arbiter names as many as it is asked for, at least one and at most 512. Else the steps are as
-- they were.
abbrev pub IsFilled : (count : ℕ) → (old new : List Step) → Type 0
IsFilled count [] new = length new ≡ max 1 (min count 512)
IsFilled count (s ∷ later) new = new ≡ s ∷ later

-- This many steps are used. If none was left, more were named first.
abbrev pub HasUsed : ℕ → (old new : List Step) → Type 0
HasUsed count [] new = count + length new ≤ 512
HasUsed count (s ∷ later) new = count + length new ≡ length (s ∷ later)

-- ---- what answers lead to

-- The fault with which a thread ends after a turn, or a step of the network, was refused. If the machine does not have
-- what was named, the thread goes on.
abbrev pub fault_of_refusal : LockRefusal → Option RunFault
fault_of_refusal refused.Memory = Some run_fault.Memory
fault_of_refusal refused.Full = Some run_fault.Full
fault_of_refusal refused.Unnamed = None
fault_of_refusal refused.NotFree = None

-- the same after a loan was refused: a full log does not end the thread either, since there may be room for a turn
abbrev pub fault_of_no_loan : LockRefusal → Option RunFault
fault_of_no_loan refused.Memory = Some run_fault.Memory
fault_of_no_loan refused.Full = None
fault_of_no_loan refused.Unnamed = None
fault_of_no_loan refused.NotFree = None

abbrev pub fault_of_net : Option (Result Outcome LockRefusal) → Option RunFault
fault_of_net None = None
fault_of_net (Some (Ok o)) = None
fault_of_net (Some (Err refusal)) = fault_of_refusal refusal

abbrev pub fault_of_round : Result Round LockRefusal → Option RunFault
fault_of_round (Ok round) = fault_of_net round.net
fault_of_round (Err refusal) = fault_of_refusal refusal

-- whether a round's turn stopped the processor
abbrev pub stops : Result Round LockRefusal → Bool
stops (Ok round) = is_stop round.turn
stops (Err refusal) = false

-- what a call returns: the rounds that were done, or the thread's fault
abbrev pub unless_fault : Option RunFault → RoundsDone → Result RoundsDone RunFault
unless_fault None done = Ok done
unless_fault (Some fault) done = Err fault

-- what a call returns after one round without a turn, or with a loan that gives a byte
abbrev pub one_round : Option RunFault → Result RoundsDone RunFault
one_round fault = unless_fault fault (record { rounds = 1; idle = 0; stopped = false })

abbrev pub result_of : Rounds → Result RoundsDone RunFault
result_of r = unless_fault (fault_of_round r.answer) (record {
  rounds = r.gone;
  idle = r.idle;
  stopped = stops r.answer;
})

-- the end of a console's queue after a round: it holds the byte that the turn gives
abbrev pub end_after : Result Round LockRefusal → End → End
end_after (Ok round) end = record end { held = byte_of round.turn }
end_after (Err refusal) end = end

-- whether the processor waits after a round
abbrev pub waits_after : Result Round LockRefusal → Bool → Bool
waits_after (Ok round) waits = is_waiting round.turn
waits_after (Err refusal) waits = waits

-- ---- how rounds are counted

-- At least one round was done, and at most this many. Some of them may have been idle.
pub record AreWithin (done : RoundsDone) (most : ℕ) : Type 0 where
  pub some : 1 ≤ done.rounds
  pub few : done.rounds ≤ most
  pub idle : done.idle ≤ done.rounds

abbrev pub new_tally : Tally
new_tally = record { counted = 0; idle = false }

-- how many idle rounds count: the first, and no other until the thread lets others run
abbrev pub idle_counts : (before : Bool) → (idle : ℕ) → ℕ
idle_counts true idle = 0
idle_counts false idle = min 1 idle

abbrev pub is_idle_after : (lets_run before : Bool) → (idle : ℕ) → Bool
is_idle_after true before idle = false
is_idle_after false true idle = true
is_idle_after false false idle = nat_lt 0 idle

abbrev pub tally_after : Tally → RoundsDone → (lets_run : Bool) → Tally
tally_after t done lets_run = record {
  counted = t.counted + (done.rounds - done.idle + idle_counts t.idle done.idle);
  idle = is_idle_after lets_run t.idle done.idle;
}

-- whether none of the named steps is left, so that the thread lets others run
abbrev pub is_used_up : (left : List Step) → Bool
is_used_up [] = true
is_used_up (s ∷ later) = false

-- ---- what a thread does in a call

-- what a thread holds
pub record Thread : Type 0 where
  pub pass : Held
  pub end : End
  pub waits : Bool

abbrev pub thread : Held → End → Bool → Thread
thread pass end waits = record { pass = pass; end = end; waits = waits }

-- the state of a thread between two calls
pub record ThreadState : Type 0 where
  pub holds : Thread
  pub left : List Step
  pub tally : Tally

abbrev pub begin : Thread → ThreadState
begin holds = record { holds = holds; left = []; tally = new_tally }

-- The answer to rounds is applied to what the thread holds besides the pass.
pub record IsApplied (r : Rounds) (end : End) (waits : Bool) (result : Result RoundsDone RunFault) (new_end : End)
    (now_waits : Bool) : Type 0 where
  pub end_is : new_end ≡ end_after r.answer end
  pub waits_is : now_waits ≡ waits_after r.answer waits
  pub result_is : result ≡ result_of r

-- what an answer to a step of the network says of the pass
abbrev pub NetAnswered : Result Outcome LockRefusal → (opening : MachineLists) → (first : List Step) → (old : Held) →
    Step → (new : Held) → Type 0
NetAnswered (Ok o) opening first old s new = UnderLock first old new (λ from to. HasAnswered opening from s o to)
NetAnswered (Err refusal) opening first old s new = new ≡ old

-- A step of the network is asked for, and nothing else.
pub record AsksNet (opening : MachineLists) (first : List Step) (old : Held) (s : Step) (fault : Option RunFault)
    (new : Held) : Type 0 where
  pub answer : Result Outcome LockRefusal
  pub unnamed : (answer ≡ Err refused.Unnamed) ↔ (is_net opening.config s ≡ false)
  pub has_answered : NetAnswered answer opening first old s new
  pub fault_is : fault ≡ fault_of_net (Some answer)

-- A held byte is put into the queue, or stays held, which it does only if the queue can be full.
abbrev pub IsTried : (byte : ℕ) → (old new : End) → Type 0
IsTried byte old new = (end_queue new ≡ end_queue old)
    × (((new.held ≡ None) × (put_of new.sender ≡ put_of old.sender ++ byte ∷ []))
    ⊎ ((new.held ≡ Some byte) × ComesBack (put_of old.sender) (put_of new.sender)))

module _ (opening : MachineLists) (first : List Step) where
  -- Rounds are taken with the first of these steps, one for each.
  pub record TakesTurns (old : Thread) (steps : List Step) (result : Result RoundsDone RunFault)
      (new : Thread) : Type 0 where
    pub rounds : Rounds
    pub gone : UnderLock first old.pass new.pass (λ from to. HaveGone opening from steps rounds to)
    pub applied : IsApplied rounds old.end old.waits result new.end new.waits

  -- A loan is handed back, and the thread ends.
  abbrev pub IsHandedBack : Thread → Result RoundsDone RunFault → Thread → Type 0
  IsHandedBack old result new = (result ≡ Err run_fault.Loan) × (new ≡ old)

  -- A loan that gave the console a byte ends: the byte is held, and the first step of the network is asked for.
  pub record HoldsByte (byte : ℕ) (retired : List Retired) (old : Thread) (steps : List Step)
      (result : Result RoundsDone RunFault) (new : Thread) :
      Type 0 where
    pub s : Step
    pub first_is : slice_get steps 0 ≡ Some s
    pub between : Held
    pub back : UnderLock first old.pass between (λ from to. IsReturned opening from retired to)
    pub fault : Option RunFault
    pub net : AsksNet opening first between s fault new.pass
    pub end : new.end ≡ record old.end { held = Some byte }
    pub waits : new.waits ≡ old.waits
    pub result_is : result ≡ one_round fault

  -- A loan that gave no byte ends, and rounds follow.
  pub record GoesOnAlone (retired : List Retired) (old : Thread) (steps : List Step)
      (result : Result RoundsDone RunFault) (new : Thread) : Type 0 where
    pub rounds : Rounds
    pub gone : UnderLock first old.pass new.pass (λ from to. HasEnded opening from retired steps rounds to)
    pub applied : IsApplied rounds old.end old.waits result new.end new.waits

  abbrev pub EndsLoan : LocalEnd → (retired : List Retired) → (old : Thread) → (steps : List Step) →
      Result RoundsDone RunFault → (new : Thread) → Type 0
  EndsLoan (Out byte) retired old steps result new = HoldsByte byte retired old steps result new
  EndsLoan Most retired old steps result new = GoesOnAlone retired old steps result new
  EndsLoan Other retired old steps result new = GoesOnAlone retired old steps result new

  -- The core runs on loan, and is taken back.
  pub record RunsAlone (loan : LoanState) (old : Thread) (steps : List Step) (result : Result RoundsDone RunFault)
      (new : Thread) : Type 0 where
    pub run : LoanState
    pub ended : LocalEnd
    pub runs : HasGoneOn opening.code loan run ended
    pub ends : IsHandedBack old result new ⊎ EndsLoan ended run.retired old steps result new

  -- Without a loan, the thread ends with a fault, or takes turns.
  abbrev pub HasNoLoan : Option RunFault → (old : Thread) → (steps : List Step) → Result RoundsDone RunFault →
      (new : Thread) → Type 0
  HasNoLoan (Some fault) old steps result new = (result ≡ Err fault) × (new ≡ old)
  HasNoLoan None old steps result new = TakesTurns old steps result new

  -- The thread asked for a loan of the core for 64 instructions, and got this answer.
  abbrev pub IsLent : Result LoanState LockRefusal → (old : Thread) → (steps : List Step) →
      Result RoundsDone RunFault → (new : Thread) → Type 0
  IsLent (Ok loan) old steps result new = (lent : Held) × IsLentOn old.pass 64 loan lent
      × RunsAlone loan (record old { pass = lent }) steps result new
  IsLent (Err refusal) old steps result new = HasNoLoan (fault_of_no_loan refusal) old steps result new

  -- A loan is asked for, unless the processor waits.
  abbrev pub GoesThrough : (waits : Bool) → (old : Thread) → (steps : List Step) → Result RoundsDone RunFault →
      (new : Thread) → Type 0
  GoesThrough true old steps result new = TakesTurns old steps result new
  GoesThrough false old steps result new = (answer : Result LoanState LockRefusal) × IsLent answer old steps result new

  -- In a round, a held byte is tried, and the next step of the network is asked for. No turn is taken.
  pub record TriesByte (byte : ℕ) (old : Thread) (steps : List Step) (result : Result RoundsDone RunFault)
      (new : Thread) : Type 0 where
    pub s : Step
    pub first_is : slice_get steps 0 ≡ Some s
    pub tried : IsTried byte old.end new.end
    pub fault : Option RunFault
    pub net : AsksNet opening first old.pass s fault new.pass
    pub waits : new.waits ≡ old.waits
    pub result_is : result ≡ one_round fault

  abbrev pub GoesWith : (held : Option ℕ) → (old : Thread) → (steps : List Step) → (most : ℕ) →
      Result RoundsDone RunFault → (new : Thread) → Type 0
  GoesWith (Some byte) old steps most result new = TriesByte byte old steps result new
  GoesWith None old steps most result new = GoesThrough old.waits old (take most steps) result new

  -- At most this many rounds are taken, each with the next of the named steps. More steps are named first if none is
  -- left, and these are left after.
  pub record GoesOn (old : Thread) (left : List Step) (most : ℕ) (result : Result RoundsDone RunFault) (new : Thread)
      (left' : List Step) : Type 0 where
    pub count : ℕ
    pub named : List Step
    pub filled : IsFilled count left named
    pub goes : GoesWith old.end.held old named most result new
    pub used : IfOk result (λ done. left' ≡ drop done.rounds named)

  -- ---- the rounds of a thread

  -- Calls were made, one after another. None of them stopped the processor, and before each, the rounds that count were
  -- below the budget.
  abbrev pub HaveGoneOn : (budget : ℕ) → (old : ThreadState) → List RoundsDone → (new : ThreadState) → Type 0
  HaveGoneOn budget old [] new = new ≡ old
  HaveGoneOn budget old (done ∷ more) new = (between : ThreadState) × (old.tally.counted < budget)
      × (done.stopped ≡ false)
      × GoesOn old.holds old.left (budget - old.tally.counted) (Ok done) between.holds between.left
      × (between.tally ≡ tally_after old.tally done (is_used_up between.left)) × HaveGoneOn budget between more new

  -- After such calls, one stops the processor.
  pub record HasStopped (budget : ℕ) (old : ThreadState) (new : Thread) : Type 0 where
    pub calls : List RoundsDone
    pub between : ThreadState
    pub gone_on : HaveGoneOn budget old calls between
    pub below : between.tally.counted < budget
    pub last : RoundsDone
    pub left : List Step
    pub stops : last.stopped ≡ true
    pub goes : GoesOn between.holds between.left (budget - between.tally.counted) (Ok last) new left

  -- The rounds that count have reached the budget, or the thread is cancelled between two calls, or a call has this
  -- fault.
  abbrev pub HasFault : (budget : ℕ) → (fault : RunFault) → (old : ThreadState) → (new : Thread) → Type 0
  HasFault budget fault old new =
      ((fault ≡ run_fault.Budget) × (old.tally.counted ≡ budget) × (new ≡ old.holds))
      ⊎ ((fault ≡ run_fault.Cancelled) × (old.tally.counted < budget) × (new ≡ old.holds))
      ⊎ ((old.tally.counted < budget)
      × ((left : List Step) × GoesOn old.holds old.left (budget - old.tally.counted) (Err fault) new left))

  pub record HasFailed (budget : ℕ) (fault : RunFault) (old : ThreadState) (new : Thread) : Type 0 where
    pub calls : List RoundsDone
    pub between : ThreadState
    pub gone_on : HaveGoneOn budget old calls between
    pub ends : HasFault budget fault between new
