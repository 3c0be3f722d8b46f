-- The law of texts.
use Rattle.std.specs.Prelude.{◌≡◌, Ok}
use Rattle.trace_file.specs.Traces.{TraceContents, IsTrace}
use Rattle.trace_text.specs.Texts.{text_of}
use Rattle.trace_text.specs.Steps.{trace_in}

-- The text of a trace that a file can spell says this trace.
abbrev pub IsReadBack : TraceContents → Type 0
IsReadBack t = IsTrace t → trace_in (text_of t) ≡ Ok t
