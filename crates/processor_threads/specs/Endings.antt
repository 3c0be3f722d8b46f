-- How threads end.
use Rattle.std.specs.Prelude.{◌≡◌, ◌⊎◌, ℕ, List, [], ◌∷◌, ◌++◌, map, Option, Some, None}
use Rattle.flat_machine.specs.declared.event.Cause.{Cause}
use Rattle.flat_machine.specs.declared.event.Event.TheVariants.{Stopped}
use Rattle.console_monitor.specs.Ends.{sent_by}
use Rattle.console_monitor.specs.declared.monitor.End.{End}
use Rattle.machine_lock.specs.declared.row.PassEvent.{PassEvent}
use Rattle.machine_lock.specs.Passes.{Held}
use Rattle.processor_threads.specs.declared.fault.RunFault.{RunFault}
use Rattle.processor_threads.specs.declared.fault.RunFault.TheVariants.{Memory, Console}
use Rattle.processor_threads.specs.Consoles.{console_of, end_queue}

-- The last event that the pass has stored is the stop of its processor.
pub record EndsWithStop (h : Held) : Type 0 where
  pub before : List PassEvent
  pub place : ℕ
  pub cause : Cause
  pub is : h.row.pass_events ≡ before ++ record { event = Stopped cause; place = place } ∷ []

-- ---- one thread

-- What a thread was given comes back: the pass is of the same processor, and the end of the same queue. If the thread
-- has no fault, its processor has stopped.
pub record ComesBack (pass : Held) (end : End) (pass' : Held) (end' : End) (fault : Option RunFault) : Type 0 where
  pub processor : pass'.processor ≡ pass.processor
  pub queue : end_queue end' ≡ end_queue end
  pub stopped : fault ≡ None → EndsWithStop pass'

-- ---- the threads of all processors

abbrev pub processors_of : List Held → List ℕ
processors_of hs = map (λ h. h.processor) hs

-- Each end sent the console bytes that its pass stores.
abbrev pub AreSent : List Held → List End → Type 0
AreSent passes ends = map console_of passes ≡ map sent_by ends

-- Each processor's thread has a fault, or has none and has stopped the processor, in order.
abbrev pub AreEnded : List (Option RunFault) → List Held → Type 0
AreEnded [] [] = Unit {0}
AreEnded (fault ∷ faults) (pass ∷ passes) = (fault ≡ None → EndsWithStop pass) × AreEnded faults passes
AreEnded [] (pass ∷ passes) = ⊥
AreEnded (fault ∷ faults) [] = ⊥

-- All passes and ends come back in their places, with the fault of each processor's thread in the same order.
pub record AllComeBack (passes : List Held) (ends : List End) (passes' : List Held) (ends' : List End)
    (faults : List (Option RunFault)) : Type 0 where
  pub processors : processors_of passes' ≡ processors_of passes
  pub queues : map end_queue ends' ≡ map end_queue ends
  pub sent : AreSent passes' ends'
  pub ended : AreEnded faults passes'

-- ---- a run

-- Passes were made, at least for one processor.
abbrev pub WereMade : List Held → Type 0
WereMade passes = passes ≡ [] → ⊥

-- The run was out of memory before it began.
abbrev pub IsOfMemory : Option RunFault → Type 0
IsOfMemory fault = (fault ≡ Some Memory) ⊎ (fault ≡ Some Console)
