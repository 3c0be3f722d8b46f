-- What a line adds, and why it may add nothing.
use Rattle.std.specs.Prelude.{◌≡◌, true, Result, Err}
use Rattle.flat_machine.specs.declared.config.Config.{Config}
use Rattle.trace_text.specs.declared.fault.TextFault.{TextFault}
use Rattle.trace_text.specs.declared.fault.LineError.{LineError}
use Rattle.trace_text.specs.declared.fault.LineError.TheVariants as line_error
use Rattle.trace_text.specs.declared.fault.Mistake.{Mistake}
use Rattle.trace_text.specs.declared.fault.TextError.{TextError}
use Rattle.trace_text.specs.declared.fault.TextError.TheVariants as text_error
use Rattle.trace_text.specs.Steps.{are_sizes}

-- The sizes of the network are in their limits.
abbrev pub IsSizesOf : Config → Type 0
IsSizesOf c = are_sizes c.k c.c c.b c.r ≡ true

-- The fault is the one that is said, or there was no memory.
abbrev pub IsLineFault : {A : Type 0} → Result A TextFault → LineError → Type 0
IsLineFault said (line_error.Fault f) = said ≡ Err f
IsLineFault said line_error.Memory = Unit {0}

-- The mistake is the one that is said, or there was no memory.
abbrev pub IsMistakeOrMemory : {A : Type 0} → Result A Mistake → TextError → Type 0
IsMistakeOrMemory said (text_error.Mistake m) = said ≡ Err m
IsMistakeOrMemory said text_error.Memory = Unit {0}
