-- The definitions for the laws of traces.
use Rattle.std.specs.Prelude.{◌≡◌, ℕ, ◌<◌, List, All}
use Rattle.trace_file.specs.declared.error.TraceError.{TraceError}
use Rattle.trace_file.specs.Traces.{TraceContents, trace_bytes, IsTrace}
use Rattle.trace_file.specs.Faults.{FaultAt}

-- The bytes spell this trace.
abbrev pub Spells : List ℕ → TraceContents → Type 0
Spells bytes t = IsTrace t × (trace_bytes t ≡ bytes)

-- The bytes have a fault.
abbrev pub HasFault : List ℕ → Type 0
HasFault bytes = (place : ℕ) × (fault : TraceError) × FaultAt place bytes fault

-- Each number is a byte.
abbrev pub AreBytes : List ℕ → Type 0
AreBytes bytes = All (λ x. x < 256) bytes
