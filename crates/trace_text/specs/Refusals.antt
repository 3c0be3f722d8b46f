-- Why `steps` writes no trace: codes, lines and exit statuses.
use Rattle.std.specs.Prelude.{ℕ, List, ◌++◌, codes, Option}
use Rattle.std.specs.Fmt.{decimal}
use Rattle.command_io.specs.Digits.{line_feed}
use Rattle.command_io.specs.FaultTexts.{AppendsOrPart, fault_line}
use Rattle.command_io.specs.Faults.{status_of_fault}
use Rattle.trace_text.specs.declared.fault.Mistake.{Mistake}
use Rattle.trace_text.specs.declared.fault.TextFault.{TextFault}
use Rattle.trace_text.specs.declared.fault.TextFault.TheVariants as fault
use Rattle.trace_text.specs.declared.refusal.Refusal.{Refusal}
use Rattle.trace_text.specs.declared.refusal.Refusal.TheVariants as refusal

-- the codes of what can be wrong in a line
abbrev pub code_of : TextFault → List ℕ
code_of fault.Sizes = codes "S1"
code_of fault.Form = codes "S2"
code_of fault.Range = codes "S3"
code_of fault.Full = codes "S4"

-- `ultra: CODE line N`
unfoldable pub mistake_line : Mistake → List ℕ
mistake_line m = codes "ultra: " ++ code_of m.fault ++ codes " line " ++ decimal m.line ++ line_feed

-- the line that reports a refusal
abbrev pub refusal_line : Refusal → List ℕ
refusal_line (refusal.Mistake m) = mistake_line m
refusal_line refusal.TooLong = codes "ultra: S5\n"
refusal_line (refusal.Fault f) = fault_line f

-- the exit status for a refusal
abbrev pub status_of : Refusal → ℕ
status_of (refusal.Mistake m) = 2
status_of refusal.TooLong = 2
status_of (refusal.Fault f) = status_of_fault f

-- Standard error got the line that reports the refusal, or, if a write failed, a beginning of it.
abbrev pub IsReportedAs : (old new : Option (List ℕ)) → Refusal → Type 0
IsReportedAs old new r = AppendsOrPart old new (refusal_line r)
