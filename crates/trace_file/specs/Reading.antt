-- What the parts of reading do.
use Rattle.std.specs.Prelude.{◌≡◌, ℕ, ◌*◌, ◌<◌, ◌≤◌, Bool, true, false, List, [], ◌∷◌, ◌++◌, length, slice_index}
use Rattle.std.specs.Prelude.{Option, Result, Ok, Err, ◌==◌, if◌then◌else◌}
use Rattle.std.specs.Int.{w32, from_le_bytes}
use Rattle.std.specs.Io.KnownBytes.{Consumes}
use Rattle.link.specs.Transfer.{ConsumesAll, ConsumesAtMost, ConsumesLess}
use Rattle.steps.specs.declared.step.Step.{Step}
use Rattle.trace_file.specs.declared.error.TraceError.{TraceError}
use Rattle.trace_file.specs.declared.error.TraceError.TheVariants as error
use Rattle.trace_file.specs.declared.fields.Fields.{Fields}
use Rattle.trace_file.specs.declared.header.Header.{Header}
use Rattle.trace_file.specs.Traces.{records_bytes, HaveRecords}
use Rattle.trace_file.specs.Faults.{RecordFault}

-- the number in four bytes of a list, the lowest first
abbrev pub word_in : List ℕ → (i j k l : ℕ) → ℕ
word_in xs i j k l = from_le_bytes w32 (slice_index xs i ∷ slice_index xs j ∷ slice_index xs k ∷ slice_index xs l ∷ [])

-- the numbers of a header in either format
unfoldable pub header_in : List ℕ → Header
header_in xs =
    if slice_index xs 4 == 2
    then record {
      k = slice_index xs 5;
      c = slice_index xs 6;
      b = slice_index xs 7;
      r = slice_index xs 8;
      count = word_in xs 12 13 14 15;
    }
    else record {
      k = slice_index xs 5;
      c = slice_index xs 6;
      b = slice_index xs 7;
      r = 1;
      count = word_in xs 8 9 10 11;
    }

-- the fields in twelve bytes
unfoldable pub fields_in : List ℕ → Fields
fields_in xs = record {
  kind = slice_index xs 0;
  a = slice_index xs 1;
  b = slice_index xs 2;
  unused = slice_index xs 3;
  address = word_in xs 4 5 6 7;
  value = word_in xs 8 9 10 11;
}

abbrev pub is_link : TraceError → Bool
is_link error.Link = true
is_link error.Truncated = false
is_link error.Header = false
is_link error.Record = false
is_link error.Trailing = false
is_link error.Memory = false

-- whether the result is that the link failed
abbrev pub is_link_fault : {T : Type 0} → Result T TraceError → Bool
is_link_fault (Ok x) = false
is_link_fault (Err fault) = is_link fault

-- Steps were added, and the piece begins with their records. The rest of the piece follows.
pub record Adds (k : ℕ) (old new : List Step) (piece rest : List ℕ) : Type 0 where
  pub added : List Step
  pub grown : new ≡ old ++ added
  pub records : HaveRecords k added
  pub spelled : piece ≡ records_bytes added ++ rest

-- Not all whole records of a piece were added, for this reason: there was no memory, or after the records of these
-- steps there is no record of a step.
abbrev pub IsNotAdded : (k : ℕ) → (piece : List ℕ) → TraceError → Type 0
IsNotAdded k piece error.Memory = Unit {0}
IsNotAdded k piece error.Record =
    (steps : List Step) × (rest : List ℕ) × HaveRecords k steps × (piece ≡ records_bytes steps ++ rest)
    × RecordFault k rest error.Record
IsNotAdded k piece error.Truncated = ⊥
IsNotAdded k piece error.Header = ⊥
IsNotAdded k piece error.Trailing = ⊥
IsNotAdded k piece error.Link = ⊥

-- This many steps were added, and their records were read.
pub record AddsRead (k count : ℕ) (old new : List Step) (before after : Option (List ℕ)) : Type 0 where
  pub added : List Step
  pub grown : new ≡ old ++ added
  pub records : HaveRecords k added
  pub whole : length added ≡ count
  pub consumed : Consumes before after (records_bytes added)

-- The records of these steps were read, and then the rest, in which the next of this many records is wrong.
pub record StopsAfter (k count : ℕ) (steps : List Step) (rest : List ℕ) (fault : TraceError) : Type 0 where
  pub records : HaveRecords k steps
  pub few : length steps < count
  pub wrong : RecordFault k rest fault

-- This many records were not read, for this reason, and these bytes were.
abbrev pub IsStopped : (piece k count : ℕ) → (old new : Option (List ℕ)) → TraceError → Type 0
IsStopped piece k count old new error.Link = ConsumesAtMost (12 * count) old new
IsStopped piece k count old new error.Memory = ConsumesAtMost (12 * count) old new
IsStopped piece k count old new error.Header = ⊥
IsStopped piece k count old new error.Trailing = ⊥
IsStopped piece k count old new error.Truncated =
    (steps : List Step) × (rest : List ℕ) × ConsumesAll old new (records_bytes steps ++ rest)
    × StopsAfter k count steps rest error.Truncated
IsStopped piece k count old new error.Record =
    (steps : List Step) × (rest : List ℕ) × Consumes old new (records_bytes steps ++ rest)
    × StopsAfter k count steps rest error.Record × (length rest ≤ piece)

-- There was no end: the link failed before a byte was read, or there is a byte.
abbrev pub IsNoEnd : (old new : Option (List ℕ)) → TraceError → Type 0
IsNoEnd old new error.Link = ConsumesLess 1 old new
IsNoEnd old new error.Trailing = (byte : ℕ) × Consumes old new (byte ∷ [])
IsNoEnd old new error.Memory = ⊥
IsNoEnd old new error.Truncated = ⊥
IsNoEnd old new error.Header = ⊥
IsNoEnd old new error.Record = ⊥
