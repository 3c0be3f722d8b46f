-- What is wrong with bytes that spell no trace, and where.
use Rattle.std.specs.Prelude.{◌≡◌, ◌≢◌, ◌⊎◌, ℕ, ◌+◌, ◌*◌, ◌<◌, ◌≤◌, List, ◌++◌, length, slice_index, take, Option, ◌==◌}
use Rattle.std.specs.Prelude.{if◌then◌else◌}
use Rattle.std.specs.Io.KnownBytes.{Consumes}
use Rattle.link.specs.Transfer.{ConsumesAll, ConsumesAtMost}
use Rattle.steps.specs.declared.step.Step.{Step}
use Rattle.trace_file.specs.declared.header.Header.{Header}
use Rattle.trace_file.specs.declared.error.TraceError.{TraceError}
use Rattle.trace_file.specs.declared.error.TraceError.TheVariants as error
use Rattle.trace_file.specs.Records.{record_bytes, HasRecord}
use Rattle.trace_file.specs.Traces.{header_bytes, header_length, records_bytes, IsHeader, HaveRecords}

-- The bytes begin with this header and with the records of these steps, all of them right. The rest follows.
pub record BeginsWith (h : Header) (steps : List Step) (rest bytes : List ℕ) : Type 0 where
  pub header : IsHeader h
  pub records : HaveRecords h.k steps
  pub few : length steps ≤ h.count
  pub spelled : bytes ≡ header_bytes h ++ (records_bytes steps ++ rest)

-- the number of bytes of a header, by the number of its format, which is byte 4
unfoldable pub header_size : List ℕ → ℕ
header_size bytes = if slice_index bytes 4 == 2 then 16 else 12

-- The header has this fault: it is cut short, whatever its bytes, or it is no trace's.
abbrev pub HeaderFault : List ℕ → TraceError → Type 0
HeaderFault bytes error.Truncated = length bytes < header_size bytes
HeaderFault bytes error.Header = (header_size bytes ≤ length bytes)
    × ((h : Header) → IsHeader h → take (header_size bytes) bytes ≢ header_bytes h)
HeaderFault bytes error.Record = ⊥
HeaderFault bytes error.Trailing = ⊥
HeaderFault bytes error.Link = ⊥
HeaderFault bytes error.Memory = ⊥

-- The next record has this fault: it is cut short, whatever its bytes, or it is no step's.
abbrev pub RecordFault : (k : ℕ) → (rest : List ℕ) → TraceError → Type 0
RecordFault k rest error.Truncated = length rest < 12
RecordFault k rest error.Record = (12 ≤ length rest)
    × ((step : Step) → HasRecord k step → take 12 rest ≢ record_bytes step)
RecordFault k rest error.Header = ⊥
RecordFault k rest error.Trailing = ⊥
RecordFault k rest error.Link = ⊥
RecordFault k rest error.Memory = ⊥

-- After the records of these steps there is this fault: in the next record, or, if all records are there, that bytes
-- follow.
abbrev pub BodyFault : Header → List Step → (rest : List ℕ) → TraceError → Type 0
BodyFault h steps rest fault =
    ((length steps < h.count) × RecordFault h.k rest fault)
    ⊎ ((length steps ≡ h.count) × (0 < length rest) × (fault ≡ error.Trailing))

-- The bytes have this fault at this place: all bytes before it are right.
abbrev pub FaultAt : (place : ℕ) → List ℕ → TraceError → Type 0
FaultAt place bytes fault =
    ((place ≡ 0) × HeaderFault bytes fault)
    ⊎ ((h : Header) × (steps : List Step) × (rest : List ℕ) × BeginsWith h steps rest bytes
    × (place ≡ header_length h + 12 * length steps)
    × BodyFault h steps rest fault)

-- ---- the outcome of reading

-- the most bytes that are taken from the place of a fault on
abbrev pub taken_at_most : TraceError → ℕ
taken_at_most error.Truncated = 15
taken_at_most error.Header = 16
taken_at_most error.Record = 4092
taken_at_most error.Trailing = 1
taken_at_most error.Link = 0
taken_at_most error.Memory = 0

-- the number of bytes of the longest trace
abbrev pub most_trace_bytes : ℕ
most_trace_bytes = 16 + 12 * 4194304

-- The trace was refused for this reason, and the reader has given these bytes. If they are cut short, it has no more.
-- If the link failed, of which another clause speaks, or there was no memory, it has given some of its first bytes, no
-- more than a trace has.
abbrev pub IsRefused : (old new : Option (List ℕ)) → TraceError → Type 0
IsRefused old new error.Link = ConsumesAtMost most_trace_bytes old new
IsRefused old new error.Memory = ConsumesAtMost most_trace_bytes old new
IsRefused old new error.Truncated = (bytes : List ℕ) × (place : ℕ) × ConsumesAll old new bytes
    × FaultAt place bytes error.Truncated
IsRefused old new fault =
    (bytes : List ℕ) × (place : ℕ) × Consumes old new bytes × FaultAt place bytes fault
    × (length bytes ≤ place + taken_at_most fault)
