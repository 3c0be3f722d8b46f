-- The record of a step has 12 bytes: kind, A, B and zero, followed by address and value, four bytes each, the lowest
-- first.
--
-- Kind  Step            A    B        Address                   Value
-- 1     Turn            p
-- 2     Up              s    w
-- 3     Serve           m
-- 4     Down            s    w
-- 5     Poke Register   p    1 to 32                            any; divisible by 4 for 32
-- 6     Poke Local      p             0x00020000 to 0x0002FFFF  0 to 255
-- 7     Poke Shared                   0x80000000 to 0x800FFFFF  0 to 255
--
-- Fields without an entry are 0. With k stages, p, m and w are below 2^k, and s is below k.
use Rattle.std.specs.Prelude.{◌≡◌, ℕ, ◌^◌, ◌%◌, Bool, true, ◌==◌, Option, Some, None, if◌then◌else◌, ◌&&◌, ◌||◌, nat_lt}
use Rattle.std.specs.Prelude.{List, ◌∷◌, ◌++◌}
use Rattle.std.specs.Int.{w32, to_le_bytes, is_in_range}
use Rattle.flat_machine.specs.declared.poke.Poke.{Poke}
use Rattle.flat_machine.specs.declared.poke.Poke.TheVariants.{Register, Local, Shared}
use Rattle.steps.specs.declared.step.Step.{Step}
use Rattle.steps.specs.declared.step.Step.TheVariants as step
use Rattle.trace_file.specs.declared.fields.Fields.{Fields}

abbrev pub entries : (kind a b address value : ℕ) → Fields
entries kind a b address value = record { kind = kind; a = a; b = b; unused = 0; address = address; value = value }

-- the fields of a step's record
abbrev pub fields_of : Step → Fields
fields_of (step.Turn p) = entries 1 p 0 0 0
fields_of (step.Up s w) = entries 2 s w 0 0
fields_of (step.Serve m) = entries 3 m 0 0 0
fields_of (step.Down s w) = entries 4 s w 0 0
fields_of (step.Poke (Register p r value)) = entries 5 p r 0 value
fields_of (step.Poke (Local p address value)) = entries 6 p 0 address value
fields_of (step.Poke (Shared address value)) = entries 7 0 0 address value

-- the bytes of a record's fields
unfoldable pub field_bytes : Fields → List ℕ
field_bytes f = f.kind ∷ f.a ∷ f.b ∷ f.unused ∷ (to_le_bytes w32 f.address ++ to_le_bytes w32 f.value)

-- the record of a step
abbrev pub record_bytes : Step → List ℕ
record_bytes step = field_bytes (fields_of step)

-- whether the entries of a poke's record are in range, for this many processors
abbrev pub has_poke_record : (processors : ℕ) → Poke → Bool
has_poke_record n (Register p r value) = nat_lt p n && is_in_range 1 32 r && (nat_lt r 32 || value % 4 == 0)
    && nat_lt value (2 ^ 32)
has_poke_record n (Local p address value) = nat_lt p n && is_in_range 0x00020000 0x0002FFFF address
    && is_in_range 0 255 value
has_poke_record n (Shared address value) = is_in_range 0x80000000 0x800FFFFF address && is_in_range 0 255 value

-- whether the entries of a step's record are in range, for a machine with k stages
abbrev pub has_record : (k : ℕ) → Step → Bool
has_record k (step.Turn p) = nat_lt p (2 ^ k)
has_record k (step.Up s w) = nat_lt s k && nat_lt w (2 ^ k)
has_record k (step.Serve m) = nat_lt m (2 ^ k)
has_record k (step.Down s w) = nat_lt s k && nat_lt w (2 ^ k)
has_record k (step.Poke poke) = has_poke_record (2 ^ k) poke

abbrev pub HasRecord : (k : ℕ) → Step → Type 0
HasRecord k step = has_record k step ≡ true

-- ---- how a record is read

-- the step that kind, A, B, address and value name; the record need not be that step's
unfoldable pub named_step : Fields → Option Step
named_step f =
    if f.kind == 1 then Some (step.Turn f.a) else
    if f.kind == 2 then Some (step.Up f.a f.b) else
    if f.kind == 3 then Some (step.Serve f.a) else
    if f.kind == 4 then Some (step.Down f.a f.b) else
    if f.kind == 5 then Some (step.Poke (Register f.a f.b f.value)) else
    if f.kind == 6 then (if nat_lt f.value 256 then Some (step.Poke (Local f.a f.address f.value)) else None) else
    if f.kind == 7 then (if nat_lt f.value 256 then Some (step.Poke (Shared f.address f.value)) else None) else
    None
