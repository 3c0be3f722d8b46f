-- What a decision says about a turn.
use Rattle.std.specs.Prelude.{◌≡◌, ℕ, ◌+◌, ◌%◌, ◌^◌, ◌<◌, ◌≤◌, Option, Some, None}
use Rattle.phi_algebra.specs.Functions.{apply}
use Rattle.hart.specs.Table.{load_phi, store_phi, amo_phi}
use Rattle.flat_machine.specs.declared.effect.Effect.{Effect}
use Rattle.flat_machine.specs.declared.effect.Effect.TheVariants as does
use Rattle.flat_machine.specs.declared.effect.Region.{Region}
use Rattle.flat_machine.specs.declared.effect.Region.TheVariants as region
use Rattle.flat_machine.specs.declared.event.Cause.TheVariants as because
use Rattle.flat_machine.specs.declared.event.Retired.{Retired}
use Rattle.flat_machine.specs.declared.setting.Setting.{Setting}
use Rattle.flat_machine.specs.Operations.{store_size}
use Rattle.flat_machine.specs.State.{Processor}
use Rattle.flat_machine.specs.Turns.{Turn, Retires, Reaches, Stops}
pub use Rattle.flat_machine.specs.Turns.{IsLocal, IsReference}
use Rattle.hart.specs.declared.decision.Decision.{Decision}
use Rattle.hart.specs.declared.decision.Decision.TheVariants.{Local, Refer, Halt, Fault}
use Rattle.hart.specs.declared.decision.Shape.TheVariants as shape
use Rattle.hart.specs.declared.decision.Taken.{Taken}
use Rattle.hart.specs.declared.decision.Taken.TheVariants as taken

-- ---- turns

-- The decision has the turn's kind. A reference names the turn's word, and its phi changes the word as the turn does.
abbrev pub Decides : Decision → Turn → Type 0
Decides Local (Retires after retired) = Unit {0}
Decides (Refer word phi shape) (Reaches reached change after) = (word ≡ reached)
    × ((x : ℕ) → x < 2 ^ 32 → apply phi x ≡ change x)
Decides (Halt byte) (Stops cause) = cause ≡ because.Halt byte
Decides (Fault fault) (Stops cause) = cause ≡ because.Fault fault
Decides _ _ = ⊥

-- The turn is one that may follow the decision: a local turn is taken, and a reference retires.
abbrev pub Allows : Decision → Turn → Type 0
Allows Local turn = IsLocal turn
Allows (Refer word phi shape) turn = IsReference turn
Allows _ turn = Unit {0}

-- the processor after a reference and what retired, given the word's old value
abbrev pub after_reply : Turn → (reply : ℕ) → Option (Processor × Retired)
after_reply (Reaches word change after) reply = Some (after reply)
after_reply _ reply = None

-- ---- decisions

-- If the decision is a reference, its phi is the table's for the effect, and its shape names the operation.
abbrev pub IsOfEffect : Decision → Effect → Type 0
IsOfEffect (Refer word phi kind) (does.Load op rd address) = (phi ≡ load_phi) × (kind ≡ shape.Load op)
IsOfEffect (Refer word phi kind) (does.Store op address value) = (phi ≡ store_phi (store_size op) (address % 4) value)
    × (kind ≡ shape.Store op)
IsOfEffect (Refer word phi kind) (does.Amo op rd address value) = (phi ≡ amo_phi op value) × (kind ≡ shape.Amo op)
IsOfEffect (Refer word phi kind) _ = ⊥
IsOfEffect _ _ = Unit {0}

-- A reference names a shared word of the machine.
abbrev pub NamesWord : Decision → Setting → Type 0
NamesWord (Refer word phi shape) s = word < s.shared_words
NamesWord _ s = Unit {0}

-- ---- turns that a core takes

-- The processor has taken a local turn as a whole, and has not begun any other; the result names the turn.
abbrev pub IsTaken : Taken → (old new : Processor) → Turn → Type 0
IsTaken (taken.Retired retired) old new (Retires after fact) = (new ≡ after) × (retired ≡ fact)
IsTaken (taken.Refers word phi) old new (Reaches reached change after) = (new ≡ old) × (word ≡ reached)
    × ((x : ℕ) → x < 2 ^ 32 → apply phi x ≡ change x)
IsTaken (taken.Halts byte) old new (Stops cause) = (new ≡ old) × (cause ≡ because.Halt byte)
IsTaken (taken.Faults fault) old new (Stops cause) = (new ≡ old) × (cause ≡ because.Fault fault)
IsTaken _ old new _ = ⊥

-- A reference has the table's phi for the effect.
abbrev pub HasPhiOf : Taken → Effect → Type 0
HasPhiOf (taken.Refers word phi) (does.Load op rd address) = phi ≡ load_phi
HasPhiOf (taken.Refers word phi) (does.Store op address value) = phi ≡ store_phi (store_size op) (address % 4) value
HasPhiOf (taken.Refers word phi) (does.Amo op rd address value) = phi ≡ amo_phi op value
HasPhiOf (taken.Refers word phi) _ = ⊥
HasPhiOf _ _ = Unit {0}

-- ---- regions

-- The bytes of an access lie within its region, and within one word if the region is shared memory.
abbrev pub IsInside : (size address : ℕ) → Region → Type 0
IsInside size address (region.Shared word) = address % 4 + size ≤ 4
IsInside size address (region.Local place) = place + size ≤ 2 ^ 16
IsInside size address (region.Code place) = place + size ≤ 2 ^ 16

-- A shared word is one of the machine's.
abbrev pub IsThere : Setting → Region → Type 0
IsThere s (region.Shared word) = word < s.shared_words
IsThere s _ = Unit {0}

-- The region is not code.
abbrev pub IsWritable : Region → Type 0
IsWritable (region.Code place) = ⊥
IsWritable _ = Unit {0}
