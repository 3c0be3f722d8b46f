-- What is reported of a refusal.
use Rattle.std.specs.Prelude.{ℕ, ◌==◌, List, ◌++◌, Option, Some, None, codes, if◌then◌else◌}
use Rattle.std.specs.Fmt.{decimal}
use Rattle.command_io.specs.Digits.{line_feed}
use Rattle.command_io.specs.Faults.{status_of_fault}
use Rattle.command_io.specs.FaultTexts.{AppendsOrPart, IsReported}
use Rattle.witness_traces.specs.declared.refused.Refused.{Refused}
use Rattle.witness_traces.specs.declared.refused.Refused.TheVariants as refused

-- the exit status for a refusal
abbrev pub status_of : Refused → ℕ
status_of (refused.Fault f) = status_of_fault f
status_of refused.Unknown = 2
status_of refused.Missed = 4

-- the line that reports that no result has the number, or, for 0, that an end can be reached from each state; if no
-- witness is asked for, that there is no lasso
abbrev pub unknown_line : (witness : Option ℕ) → List ℕ
unknown_line None = codes "error: no fair schedule is known that never ends\n"
unknown_line (Some number) = if number == 0 then codes "error: an end can be reached from each state\n"
    else codes "error: there is no result " ++ decimal number ++ line_feed

-- Standard error got the line that reports the refusal, or, if a write failed, a beginning of it.
abbrev pub IsReportedAs : (witness : Option ℕ) → (old new : Option (List ℕ)) → Refused → Type 0
IsReportedAs witness old new (refused.Fault f) = IsReported old new f
IsReportedAs witness old new refused.Unknown = AppendsOrPart old new (unknown_line witness)
IsReportedAs witness old new refused.Missed =
    AppendsOrPart old new (codes "error: the steps that were taken lead elsewhere\n")
