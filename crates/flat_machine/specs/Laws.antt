-- What the laws of the flat machine state.
use Rattle.std.specs.Prelude.{◌≡◌, ◌≢◌, ℕ, ◌+◌, ◌-◌, ◌*◌, ◌%◌, ◌^◌, ◌<◌, ◌≤◌, pos, ◌+ℤ◌, ◌*ℤ◌, unsigned_abs, true}
use Rattle.std.specs.Prelude.{false, Option, Some, None, List, All, length, slice_get, slice_index, slice_set}
use Rattle.std.specs.Int.{w64, cast_signed, is_negative}
use Rattle.rv_table.specs.declared.insn.Insn.{Insn}
use Rattle.rv_table.specs.declared.operation.RegisterOp.TheVariants as reg
use Rattle.rv_table.specs.Rows.{InRange}
use Rattle.flat_machine.specs.declared.effect.Effect.{Effect}
use Rattle.flat_machine.specs.declared.effect.Effect.TheVariants as does
use Rattle.flat_machine.specs.declared.event.Cause.{Cause}
use Rattle.flat_machine.specs.declared.event.Event.TheVariants.{Stopped}
use Rattle.flat_machine.specs.declared.setting.Setting.{Setting}
use Rattle.flat_machine.specs.declared.poke.Poke.TheVariants as poke
use Rattle.flat_machine.specs.declared.poke.Entry.{Entry}
use Rattle.flat_machine.specs.declared.poke.Entry.TheVariants as entry
use Rattle.flat_machine.specs.State.{Processor, FlatState, setting_of, status_of}
use Rattle.flat_machine.specs.Words.{overflows, signed}
use Rattle.flat_machine.specs.Operations.{register_value}
use Rattle.flat_machine.specs.Effects.{effect_of}
use Rattle.flat_machine.specs.Turns.{Turn, Retires, Reaches, Stops, turn_of}
use Rattle.flat_machine.specs.Flat.{flat_step, flat_event}

-- Register 0 holds 0.
abbrev pub HasZero : Processor → Type 0
HasZero p = slice_index p.registers 0 ≡ 0

-- The pc is divisible by 4.
abbrev pub HasAlignedPc : Processor → Type 0
HasAlignedPc p = p.pc % 4 ≡ 0

abbrev pub NeedsNoWord : Turn → Type 0
NeedsNoWord (Reaches word change after) = ⊥
NeedsNoWord (Retires after retired) = Unit {0}
NeedsNoWord (Stops cause) = Unit {0}

-- The processor, if it is there, takes a turn that reaches no shared word.
abbrev pub IsLocalAt : FlatState → ℕ → Option Processor → Type 0
IsLocalAt m k None = Unit {0}
IsLocalAt m k (Some p) = NeedsNoWord (turn_of (setting_of m k) m.code p)

-- ---- words

-- Each number of the list is below the bound. A place past the end counts as 0.
abbrev pub AreBelow : (bound : ℕ) → List ℕ → Type 0
AreBelow bound xs = (k : ℕ) → slice_index xs k < bound

-- A processor's pc and registers are words, and its local memory is bytes.
pub record HasWords (p : Processor) : Type 0 where
  pub pc : p.pc < 2 ^ 32
  pub registers : AreBelow (2 ^ 32) p.registers
  pub local : AreBelow 256 p.local

-- Every processor has words, shared memory is words, code is bytes, and there are at most 256 processors.
pub record IsInRange (m : FlatState) : Type 0 where
  pub processors : All HasWords m.processors
  pub count : length m.processors ≤ 2 ^ 8
  pub shared : AreBelow (2 ^ 32) m.shared
  pub code : AreBelow 256 m.code

-- A poke writes a word into a register or pc, and a byte into memory.
abbrev pub WritesWords : Entry → Type 0
WritesWords (entry.Processor k) = Unit {0}
WritesWords (entry.Poke (poke.Register k register value)) = value < 2 ^ 32
WritesWords (entry.Poke (poke.Local k address value)) = value < 256
WritesWords (entry.Poke (poke.Shared address value)) = value < 256

-- The values, targets and addresses that an instruction asks for are words; what it prints or halts with is a byte.
abbrev pub AsksForWords : Effect → Type 0
AsksForWords (does.Write rd value) = value < 2 ^ 32
AsksForWords (does.Jump rd value target) = (value < 2 ^ 32) × (target < 2 ^ 32)
AsksForWords does.Pass = Unit {0}
AsksForWords (does.Load op rd address) = address < 2 ^ 32
AsksForWords (does.Store op address value) = (address < 2 ^ 32) × (value < 2 ^ 32)
AsksForWords (does.Amo op rd address value) = (address < 2 ^ 32) × (value < 2 ^ 32)
AsksForWords (does.Print byte) = byte < 256
AsksForWords (does.Halt byte) = byte < 256
AsksForWords (does.Fail fault) = Unit {0}

-- The processor has words after the turn. A turn that finds a word in shared memory leaves a word there.
abbrev pub LeavesWords : Turn → Type 0
LeavesWords (Retires after retired) = HasWords after
LeavesWords (Reaches word change after) = (x : ℕ) → x < 2 ^ 32 → (change x < 2 ^ 32) × HasWords (after x).0
LeavesWords (Stops cause) = Unit {0}

-- ---- steps

-- If a processor's step stops it, the step changes nothing but its status.
abbrev pub StopChangesStatus : Type 0
StopChangesStatus =
    (m : FlatState) (k : ℕ) (p : Processor) (cause : Cause) → slice_get m.processors k ≡ Some p →
    flat_event m (entry.Processor k) ≡ Some (Stopped cause) →
    flat_step m (entry.Processor k)
    ≡ record m { processors = slice_set m.processors k (record p { status = status_of cause }) }

-- There is a shared word such that a processor's step changes no other.
abbrev pub ChangesOneWord : Type 0
ChangesOneWord =
    (m : FlatState) (k : ℕ) →
    (word : ℕ)
    × ((other : ℕ) → other ≢ word → slice_get (flat_step m (entry.Processor k)).shared other ≡ slice_get m.shared other)

-- Steps of two processors that reach no shared word leave the same machine in either order.
abbrev pub LocalTurnsCommute : Type 0
LocalTurnsCommute =
    (m : FlatState) (j k : ℕ) → j ≢ k → IsLocalAt m j (slice_get m.processors j) →
    IsLocalAt m k (slice_get m.processors k) →
    flat_step (flat_step m (entry.Processor j)) (entry.Processor k)
    ≡ flat_step (flat_step m (entry.Processor k)) (entry.Processor j)

-- ---- words of effects and turns

-- An instruction asks for words if the registers and the setting's numbers are words and its operands fit their fields.
abbrev pub EffectsAskForWords : Type 0
EffectsAskForWords =
    (s : Setting) (pc : ℕ) (registers : List ℕ) (i : Insn) → s.number < 2 ^ 32 → s.processors < 2 ^ 32 →
    AreBelow (2 ^ 32) registers → InRange i →
    AsksForWords (effect_of s pc registers i)

-- A turn leaves words if the processor has words, code is bytes, and the setting's numbers are words.
abbrev pub TurnsLeaveWords : Type 0
TurnsLeaveWords =
    (s : Setting) (code : List ℕ) (p : Processor) → s.number < 2 ^ 32 → s.processors < 2 ^ 32 → AreBelow 256 code →
    HasWords p →
    LeavesWords (turn_of s code p)

-- ---- products and quotients

-- The two halves of the product of two natural numbers are together the product.
abbrev pub NaturalHalves : Type 0
NaturalHalves = (a b : ℕ) → register_value reg.Mulhu a b * 2 ^ 32 + register_value reg.Mul a b ≡ a * b

-- In two's complement of 64 bits, the two halves of the product of two signed words are together the product.
abbrev pub SignedHalves : Type 0
SignedHalves =
    (a b : ℕ) → a < 2 ^ 32 → b < 2 ^ 32 →
    cast_signed w64 (register_value reg.Mulh a b * 2 ^ 32 + register_value reg.Mul a b) ≡ signed a *ℤ signed b

-- So are those of the product of a signed word and a natural number.
abbrev pub MixedHalves : Type 0
MixedHalves =
    (a b : ℕ) → a < 2 ^ 32 → b < 2 ^ 32 →
    cast_signed w64 (register_value reg.Mulhsu a b * 2 ^ 32 + register_value reg.Mul a b) ≡ signed a *ℤ pos b

-- For natural numbers, quotient times divisor plus remainder is the dividend, and the remainder is less than the
-- divisor, if the divisor is not zero.
abbrev pub NaturalDivision : Type 0
NaturalDivision = (a b : ℕ) → b ≢ 0 →
    (register_value reg.Divu a b * b + register_value reg.Remu a b ≡ a) × (register_value reg.Remu a b < b)

-- For signed words, quotient times divisor plus remainder is the dividend too, unless the quotient overflows.
abbrev pub SignedDivision : Type 0
SignedDivision =
    (a b : ℕ) → a < 2 ^ 32 → b < 2 ^ 32 → b ≢ 0 → overflows a b ≡ false →
    signed (register_value reg.Div a b) *ℤ signed b +ℤ signed (register_value reg.Rem a b) ≡ signed a

-- Modulo 2^32, quotient times divisor plus remainder is the dividend even if the quotient overflows.
abbrev pub WordDivision : Type 0
WordDivision =
    (a b : ℕ) → a < 2 ^ 32 → b < 2 ^ 32 → b ≢ 0 →
    (register_value reg.Div a b * b + register_value reg.Rem a b) % 2 ^ 32 ≡ a

-- The remainder of signed words is nearer to zero than the divisor, if that is not zero.
abbrev pub RemainderIsNearer : Type 0
RemainderIsNearer =
    (a b : ℕ) → a < 2 ^ 32 → b < 2 ^ 32 → b ≢ 0 →
    unsigned_abs (signed (register_value reg.Rem a b)) < unsigned_abs (signed b)

-- The remainder of signed words has the dividend's sign, unless it is zero.
abbrev pub RemainderHasTheSign : Type 0
RemainderHasTheSign =
    (a b : ℕ) → a < 2 ^ 32 → register_value reg.Rem a b ≢ 0 →
    is_negative (signed (register_value reg.Rem a b)) ≡ is_negative (signed a)

-- Division by zero gives a quotient with all bits set, and the dividend as the remainder.
abbrev pub DivisionByZero : Type 0
DivisionByZero =
    (a : ℕ) →
    (register_value reg.Div a 0 ≡ 2 ^ 32 - 1) × (register_value reg.Divu a 0 ≡ 2 ^ 32 - 1)
    × (register_value reg.Rem a 0 ≡ a)
    × (register_value reg.Remu a 0 ≡ a)

-- If the quotient overflows, it is -2^31, the dividend, and the remainder is zero.
abbrev pub DivisionOverflow : Type 0
DivisionOverflow = (a b : ℕ) → overflows a b ≡ true →
    (register_value reg.Div a b ≡ 2 ^ 31) × (register_value reg.Rem a b ≡ 0)
