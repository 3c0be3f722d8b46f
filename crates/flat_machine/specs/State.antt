-- What the flat machine is made of.
use Rattle.std.specs.Prelude.{ℕ, Bool, true, false, List, length}
use Rattle.flat_machine.specs.declared.setting.Setting.{Setting}
use Rattle.flat_machine.specs.declared.fault.Fault.{Fault}
use Rattle.flat_machine.specs.declared.fault.Fault.TheVariants.{NoRow, FetchOutsideCode, TargetNotAligned}
use Rattle.flat_machine.specs.declared.fault.Fault.TheVariants.{AddressNotAligned, NoRegion, StoreToCode, UnknownCall}
use Rattle.flat_machine.specs.declared.fault.Fault.TheVariants.{Breakpoint}
use Rattle.flat_machine.specs.declared.event.Status.{Status}
use Rattle.flat_machine.specs.declared.event.Status.TheVariants.{Running, Halted, Faulted}
use Rattle.flat_machine.specs.declared.event.Cause.{Cause}
use Rattle.flat_machine.specs.declared.event.Cause.TheVariants as cause

-- one processor: registers are 32 words, local memory is 2^16 bytes
pub record Processor : Type 0 where
  pub pc : ℕ
  pub registers : List ℕ
  pub local : List ℕ
  pub status : Status

-- the whole machine: shared memory is a list of words, code is 2^16 bytes
pub record FlatState : Type 0 where
  pub processors : List Processor
  pub shared : List ℕ
  pub code : List ℕ

-- what processor k of a machine knows of it
abbrev pub setting_of : FlatState → ℕ → Setting
setting_of m k = record { number = k; processors = length m.processors; shared_words = length m.shared }

abbrev pub is_running : Status → Bool
is_running Running = true
is_running (Halted byte) = false
is_running (Faulted fault) = false

abbrev pub status_of : Cause → Status
status_of (cause.Halt byte) = Halted byte
status_of (cause.Fault fault) = Faulted fault

abbrev pub number_of_fault : Fault → ℕ
number_of_fault NoRow = 1
number_of_fault FetchOutsideCode = 2
number_of_fault TargetNotAligned = 3
number_of_fault AddressNotAligned = 4
number_of_fault NoRegion = 5
number_of_fault StoreToCode = 6
number_of_fault UnknownCall = 7
number_of_fault Breakpoint = 8
