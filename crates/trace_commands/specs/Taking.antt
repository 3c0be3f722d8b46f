-- Entries of a serial order, taken by a machine in which no reference is open and no core is away. Each is a step of
-- the flat machine.
use Rattle.std.specs.Prelude.{◌≡◌, Option, Some, None, if◌then◌else◌}
use Rattle.flat_machine.specs.declared.event.Event.{Event}
use Rattle.flat_machine.specs.declared.event.Event.TheVariants as event
use Rattle.flat_machine.specs.declared.poke.Entry.{Entry}
use Rattle.flat_machine.specs.declared.poke.Entry.TheVariants as entry
use Rattle.flat_machine.specs.State.{FlatState}
use Rattle.flat_machine.specs.Flat.{flat_event, flat_step, is_lawful}
use Rattle.steps.specs.declared.step.Outcome.{Outcome}
use Rattle.steps.specs.declared.step.Outcome.TheVariants.{Retired, Stopped, Poked, Stalled}
use Rattle.machine_steps.specs.Machines.{MachineLists, AreHome, IsIdle}
use Rattle.machine_steps.specs.Runs.{flat_state}

-- the outcome that shows an event, or a stall if there is none
abbrev pub answer_of : Option Event → Outcome
answer_of None = Stalled
answer_of (Some (event.Retired retired)) = Retired retired
answer_of (Some (event.Stopped cause)) = Stopped cause

-- the outcome of an entry: that of a processor's event, or for a poke, whether it is lawful
abbrev pub answer_to : FlatState → Entry → Outcome
answer_to m (entry.Processor k) = answer_of (flat_event m (entry.Processor k))
answer_to m (entry.Poke q) = if is_lawful m q then Poked else Stalled

-- The machine has taken the entry with this outcome, as a step of the flat machine.
pub record HasTaken (old : MachineLists) (e : Entry) (o : Outcome) (new : MachineLists) : Type 0 where
  pub answer : o ≡ answer_to (flat_state old) e
  pub idle : IsIdle new
  pub home : AreHome new
  pub config : new.config ≡ old.config
  pub flat : flat_state new ≡ flat_step (flat_state old) e

-- In both machines no reference is open and no core is away, and each is this flat machine.
pub record AreBoth (m : FlatState) (one other : MachineLists) : Type 0 where
  pub one_idle : IsIdle one
  pub one_home : AreHome one
  pub one_is : flat_state one ≡ m
  pub other_idle : IsIdle other
  pub other_home : AreHome other
  pub other_is : flat_state other ≡ m
