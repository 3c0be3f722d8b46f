-- What `ultra trace` and `ultra steps` do: from the bytes of a file to those of another.
use Rattle.std.specs.Prelude.{◌≡◌, ℕ, List, Option, Ok, Err}
use Rattle.link.specs.Transfer.{ConsumesPast}
use Rattle.trace_file.specs.declared.error.TraceError.TheVariants as of_trace
use Rattle.trace_file.specs.Traces.{TraceContents, trace_bytes}
use Rattle.command_io.specs.declared.fault.Fault.{Fault}
use Rattle.command_io.specs.declared.fault.Fault.TheVariants as fault
use Rattle.command_io.specs.Files.{IsWhole}
use Rattle.command_io.specs.Printing.{PrintsPrefix}
use Rattle.trace_commands.specs.Causes.{IsTraceRefusal}
use Rattle.trace_commands.specs.TraceReports.{IsTraceOf}
use Rattle.trace_text.specs.declared.fault.Mistake.{Mistake}
use Rattle.trace_text.specs.declared.refusal.Refusal.{Refusal}
use Rattle.trace_text.specs.declared.refusal.Refusal.TheVariants as refusal
use Rattle.trace_text.specs.declared.input.TheConstants.{MAX_TEXT_BYTES}
use Rattle.trace_text.specs.Texts.{text_of}
use Rattle.trace_text.specs.Steps.{trace_in}

-- ---- `ultra trace`

-- The file holds a trace, and this is its text.
pub record IsTraceText (known : Option (List ℕ)) (text : List ℕ) : Type 0 where
  pub trace : TraceContents
  pub read : IsTraceOf known trace
  pub is : text ≡ text_of trace

-- No text is printed, or not all of it, because of this fault: the trace is refused, or the text cannot be printed. Out
-- of memory says nothing.
abbrev pub TraceTextFails : (known old new : Option (List ℕ)) → Fault → Type 0
TraceTextFails known old new (fault.Trace e) = IsTraceRefusal known e
TraceTextFails known old new fault.Link = PrintsPrefix (IsTraceText known) old new
TraceTextFails known old new fault.Memory = Unit {0}
TraceTextFails known old new other = ⊥

-- ---- `ultra steps`

-- The file holds a text that says a trace, and these are its bytes.
pub record AreTraceBytes (known : Option (List ℕ)) (bytes : List ℕ) : Type 0 where
  pub text : List ℕ
  pub whole : IsWhole known text
  pub trace : TraceContents
  pub said : trace_in text ≡ Ok trace
  pub spelled : bytes ≡ trace_bytes trace

-- The file holds a text that has this mistake, and none before it.
pub record IsMistaken (known : Option (List ℕ)) (m : Mistake) : Type 0 where
  pub text : List ℕ
  pub whole : IsWhole known text
  pub first : trace_in text ≡ Err m

-- The file has more bytes than a text may have.
abbrev pub IsTooLong : (known : Option (List ℕ)) → Type 0
IsTooLong known = (rest : Option (List ℕ)) × ConsumesPast MAX_TEXT_BYTES known rest

-- The text was not read.
abbrev pub IsUnread : (known : Option (List ℕ)) → Refusal → Type 0
IsUnread known (refusal.Mistake m) = ⊥
IsUnread known refusal.TooLong = IsTooLong known
IsUnread known (refusal.Fault fault.Link) = Unit {0}
IsUnread known (refusal.Fault fault.Memory) = Unit {0}
IsUnread known (refusal.Fault other) = ⊥

-- The text is refused for this reason: it has this mistake, and none before it, or there was no memory.
abbrev pub IsTextRefusal : List ℕ → Refusal → Type 0
IsTextRefusal text (refusal.Mistake m) = trace_in text ≡ Err m
IsTextRefusal text refusal.TooLong = ⊥
IsTextRefusal text (refusal.Fault fault.Memory) = Unit {0}
IsTextRefusal text (refusal.Fault other) = ⊥

-- No trace is written, or not all of it, because of this refusal. A failed read and out of memory say nothing of the
-- file.
abbrev pub StepsFail : (known old new : Option (List ℕ)) → Refusal → Type 0
StepsFail known old new (refusal.Mistake m) = IsMistaken known m
StepsFail known old new refusal.TooLong = IsTooLong known
StepsFail known old new (refusal.Fault fault.Link) = Unit {0}
StepsFail known old new (refusal.Fault (fault.Trace e)) =
    (e ≡ of_trace.Link) × PrintsPrefix (AreTraceBytes known) old new
StepsFail known old new (refusal.Fault fault.Memory) = Unit {0}
StepsFail known old new (refusal.Fault other) = ⊥
