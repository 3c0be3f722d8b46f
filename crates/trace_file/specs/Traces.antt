-- Traces, and their one spelling: a header of 12 or 16 bytes, followed by the record of each step.
use Rattle.std.specs.Prelude.{ℕ, ◌≤◌, ◌<◌, ◌==◌, All, List, ◌∷◌, ◌++◌, length, if◌then◌else◌}
use Rattle.std.specs.Int.{w32, to_le_bytes}
use Rattle.std.specs.List.{flat_map}
use Rattle.flat_machine.specs.declared.config.Config.{Config}
use Rattle.steps.specs.declared.step.Step.{Step}
use Rattle.trace_file.specs.declared.header.Header.{Header}
use Rattle.trace_file.specs.Records.{record_bytes, HasRecord}

-- steps, and the sizes of the network that took them
pub record TraceContents : Type 0 where
  pub k : ℕ
  pub c : ℕ
  pub b : ℕ
  pub r : ℕ
  pub steps : List Step

-- the trace of these steps on a machine of this size
abbrev pub trace_of : Config → List Step → TraceContents
trace_of config steps = record { k = config.k; c = config.c; b = config.b; r = config.r; steps = steps }

-- the configuration of a machine with a trace's network and this many shared words
abbrev pub config_of : TraceContents → (shared_words : ℕ) → Config
config_of t shared_words = record { k = t.k; c = t.c; b = t.b; r = t.r; shared_words = shared_words }

abbrev pub header_of : TraceContents → Header
header_of t = record { k = t.k; c = t.c; b = t.b; r = t.r; count = length t.steps }

-- format 1, if r is 1: "ULTR"; 1; k, c and b; the number of records, in four bytes, the lowest first
abbrev pub short_header : Header → List ℕ
short_header h = 0x55 ∷ 0x4C ∷ 0x54 ∷ 0x52 ∷ 1 ∷ h.k ∷ h.c ∷ h.b ∷ to_le_bytes w32 h.count

-- format 2, otherwise: "ULTR"; 2; k, c, b and r; three zeros; the number of records
abbrev pub long_header : Header → List ℕ
long_header h = 0x55 ∷ 0x4C ∷ 0x54 ∷ 0x52 ∷ 2 ∷ h.k ∷ h.c ∷ h.b ∷ h.r ∷ 0 ∷ 0 ∷ 0 ∷ to_le_bytes w32 h.count

unfoldable pub header_bytes : Header → List ℕ
header_bytes h = if h.r == 1 then short_header h else long_header h

-- the number of bytes of a header
unfoldable pub header_length : Header → ℕ
header_length h = if h.r == 1 then 12 else 16

-- the records of the steps, in order
abbrev pub records_bytes : List Step → List ℕ
records_bytes steps = flat_map record_bytes steps

-- the bytes of a trace
abbrev pub trace_bytes : TraceContents → List ℕ
trace_bytes t = header_bytes (header_of t) ++ records_bytes t.steps

-- The numbers of the header are in range.
pub record IsHeader (h : Header) : Type 0 where
  pub stages : h.k ≤ 6
  pub some_capacity : 2 ≤ h.c
  pub capacity : h.c ≤ 16
  pub records : h.b ≤ 16
  pub some_combinations : 1 ≤ h.r
  pub combinations : h.r ≤ 3
  pub answers : h.r < h.c
  pub count : h.count ≤ 4194304

-- Each step has a record on a machine with k stages.
abbrev pub HaveRecords : (k : ℕ) → List Step → Type 0
HaveRecords k steps = All (HasRecord k) steps

-- The trace has a spelling.
pub record IsTrace (t : TraceContents) : Type 0 where
  pub header : IsHeader (header_of t)
  pub records : HaveRecords t.k t.steps
