-- What is stored of a processor.
use Rattle.std.specs.Prelude.{◌≡◌, true, []}
use Rattle.flat_machine.specs.State.{is_running, status_of}
use Rattle.hart.specs.State.{CoreState}
use Rattle.state_store.specs.declared.saved.SavedProcessor.{SavedProcessor}
use Rattle.state_store.specs.declared.saved.SavedProcessor.TheVariants.{Running, Stopped}

-- the core that is stored; a stopped one has neither registers nor local memory
abbrev pub core_of : SavedProcessor → CoreState
core_of (Running core) = core.value
core_of (Stopped setting pc cause) = record {
  setting = setting;
  state = record { pc = pc; registers = []; local = []; status = status_of cause };
}

-- A core that is stored whole is running.
abbrev pub IsKept : SavedProcessor → Type 0
IsKept (Running core) = is_running core.value.state.status ≡ true
IsKept (Stopped setting pc cause) = Unit {0}
