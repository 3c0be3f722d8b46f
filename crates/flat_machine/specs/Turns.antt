-- One turn of a processor by itself.
use Rattle.std.specs.Prelude.{ℕ, ◌*◌, ◌%◌, ◌^◌, Bool, true, false, ◌==◌, not, List, [], ◌∷◌, ◌++◌, Option, Some, None}
use Rattle.std.specs.Prelude.{Result, Ok, Err, if◌then◌else◌}
use Rattle.rv_table.specs.Rows.{insn_of}
use Rattle.rv_table.specs.declared.insn.Insn.{Insn}
use Rattle.flat_machine.specs.declared.fault.Fault.{Fault}
use Rattle.flat_machine.specs.declared.fault.Fault.TheVariants.{NoRow, FetchOutsideCode, TargetNotAligned}
use Rattle.flat_machine.specs.declared.event.Cause.{Cause}
use Rattle.flat_machine.specs.declared.event.Cause.TheVariants as cause
use Rattle.flat_machine.specs.declared.event.Retired.{Retired}
use Rattle.flat_machine.specs.declared.effect.Region.{Region}
use Rattle.flat_machine.specs.declared.effect.Region.TheVariants as region
use Rattle.flat_machine.specs.declared.effect.Effect.{Effect}
use Rattle.flat_machine.specs.declared.effect.Effect.TheVariants as does
use Rattle.flat_machine.specs.declared.setting.Setting.{Setting}
use Rattle.flat_machine.specs.State.{Processor}
use Rattle.flat_machine.specs.Words.{plus, part_of, with_part}
use Rattle.flat_machine.specs.Operations.{load_size, loaded, store_size, amo_value}
use Rattle.flat_machine.specs.Effects.{effect_of, with_register}
use Rattle.flat_machine.specs.Memory.{number_at, with_number, in_code, region_of}

pub data Turn : Type 0 where
  -- The instruction acts on the processor alone: the processor after it, and the event.
  Retires : Processor → Retired → Turn
  -- The instruction acts on a shared word: which one, how the word changes, and the processor after it with the event.
  -- The change and the processor are functions of the word before.
  Reaches : (word : ℕ) → (change : ℕ → ℕ) → (after : ℕ → Processor × Retired) → Turn
  -- The processor stops.
  Stops : Cause → Turn

-- The turn is an instruction that needs no shared word.
abbrev pub IsLocal : Turn → Type 0
IsLocal (Retires after retired) = Unit {0}
IsLocal _ = ⊥

-- The turn is an instruction that acts on a shared word.
abbrev pub IsReference : Turn → Type 0
IsReference (Reaches word change after) = Unit {0}
IsReference _ = ⊥

-- the console after an instruction that may have printed a byte
abbrev pub with_byte : List ℕ → Option ℕ → List ℕ
with_byte console None = console
with_byte console (Some byte) = console ++ byte ∷ []

-- the event of an instruction at pc that wrote a register
abbrev pub retired_writing : (pc : ℕ) → Insn → (rd value : ℕ) → Retired
retired_writing pc insn rd value =
    record { pc = pc; insn = insn; result = if rd == 0 then None else Some value; out = None }

-- the event of an instruction at pc that printed a byte
abbrev pub retired_printing : (pc : ℕ) → Insn → (byte : ℕ) → Retired
retired_printing pc insn byte = record { pc = pc; insn = insn; result = None; out = Some byte }

-- the processor with a register written, and pc at a target
abbrev pub gone_to : (target rd value : ℕ) → Processor → Processor
gone_to target rd value p = record p { pc = target; registers = with_register p.registers rd value }

abbrev pub next_pc : Processor → ℕ
next_pc p = plus p.pc 4

-- An access of `size` bytes at an address: rd gets `value` of the number there. If the access writes, the number
-- becomes `change` of it.
module _ (code : List ℕ) (p : Processor) (insn : Insn) (size address rd : ℕ) (value change : ℕ →
    ℕ) (writes : Bool) where
  abbrev pub read : ℕ → Processor
  read old = gone_to (next_pc p) rd (value old) p

  abbrev pub read_event : ℕ → Retired
  read_event old = retired_writing p.pc insn rd (value old)

  abbrev pub accessed : Result Region Fault → Turn
  accessed (Ok (region.Shared word)) =
      Reaches word
      (λ x. if writes then with_part size (address % 4) x (change (part_of size (address % 4) x)) else x)
      (λ x. (read (part_of size (address % 4) x), read_event (part_of size (address % 4) x)))
  accessed (Ok (region.Local place)) =
      let old = number_at p.local place size in
      Retires (record (read old) { local = if writes then with_number p.local place size (change old) else p.local })
      (read_event old)
  accessed (Ok (region.Code place)) = let old = number_at code place size in Retires (read old) (read_event old)
  accessed (Err fault) = Stops (cause.Fault fault)

-- the turn of a processor whose instruction has this effect: one line for each effect
abbrev pub performed : Setting → List ℕ → Processor → Insn → Effect → Turn
performed s code p i (does.Write rd value) = Retires (gone_to (next_pc p) rd value p) (retired_writing p.pc i rd value)
performed s code p i (does.Jump rd value target) =
    if target % 4 == 0 then Retires (gone_to target rd value p) (retired_writing p.pc i rd value)
    else Stops (cause.Fault TargetNotAligned)
performed s code p i does.Pass = Retires (gone_to (next_pc p) 0 0 p) (retired_writing p.pc i 0 0)
performed s code p i (does.Load op rd address) =
    accessed code p i (load_size op) address rd (loaded op) (λ old. old) false
    (region_of s (load_size op) address false)
performed s code p i (does.Store op address value) =
    accessed code p i (store_size op) address 0 (λ old. 0) (λ old. value) true
    (region_of s (store_size op) address true)
performed s code p i (does.Amo op rd address value) =
    accessed code p i 4 address rd (λ old. old) (λ old. amo_value op old value) true (region_of s 4 address true)
performed s code p i (does.Print byte) = Retires (gone_to (next_pc p) 0 0 p) (retired_printing p.pc i byte)
performed s code p i (does.Halt byte) = Stops (cause.Halt byte)
performed s code p i (does.Fail fault) = Stops (cause.Fault fault)

abbrev pub found : Option Insn → Result Insn Fault
found (Some i) = Ok i
found None = Err NoRow

-- the instruction at pc, or the fault of fetching it
unfoldable pub fetched : List ℕ → ℕ → Result Insn Fault
fetched code pc = if not (in_code pc) then Err FetchOutsideCode else found (insn_of (number_at code (pc % 2 ^ 16) 4))

abbrev pub turn_by : Setting → List ℕ → Processor → Result Insn Fault → Turn
turn_by s code p (Ok i) = performed s code p i (effect_of s p.pc p.registers i)
turn_by s code p (Err fault) = Stops (cause.Fault fault)

-- a running processor's turn
abbrev pub turn_of : Setting → List ℕ → Processor → Turn
turn_of s code p = turn_by s code p (fetched code p.pc)
