-- What takes the steps of a sweep, and the logs that it may have.
use Rattle.std.specs.Prelude.{◌≡◌, ℕ, length}
use Rattle.machine_steps.specs.Machines.{MachineLists}
use Rattle.machine_steps.specs.Runs.{IsReplay}
use Rattle.machine_log.specs.Logs.{Log}

-- The log is one of this machine, with this many steps.
pub record IsOfMachine (m : MachineLists) (number : ℕ) (log : Log) : Type 0 where
  pub machine : log.machine ≡ m
  pub count : length log.steps ≡ number
  pub replay : IsReplay log.opening log.steps log.machine

-- The log is this one, and its machine is the replay of its opening over the steps.
pub record IsLogOf (own log : Log) : Type 0 where
  pub is : log ≡ own
  pub replay : IsReplay log.opening log.steps log.machine

-- Each log that the old value may have goes on to one that the new value may have, as the relation says.
abbrev pub EachGoesOn : {T : Type 0} → (is_log : T → Log → Type 0) → (old new : T) → (goes_on : Log → Log → Type 0) →
    Type 0
EachGoesOn is_log old new goes_on = (before : Log) → is_log old before →
    (after : Log) × is_log new after × goes_on before after

-- The value may have a log.
abbrev pub HasLog : {T : Type 0} → (is_log : T → Log → Type 0) → T → Type 0
HasLog is_log taker = (log : Log) × is_log taker log
