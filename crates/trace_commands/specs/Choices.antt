-- What commands on a trace do if it has not what is asked for of it.
use Rattle.std.specs.Prelude.{◌≡◌, ◌^◌, ℕ, Bool, true, false, List, Option, is_some}
use Rattle.flat_machine.specs.declared.config.Config.{Config}
use Rattle.steps.specs.declared.step.Step.{Step}
use Rattle.trace_file.specs.Traces.{TraceContents, config_of}
use Rattle.trace_lines.specs.declared.choice.Choice.{Choice}
use Rattle.trace_lines.specs.Choices.{unknown_of}
use Rattle.trace_commands.specs.TraceReports.{IsTraceOf, ReportRelation}

-- Which steps on a machine of which size are refused.
abbrev pub Refusal : Type 0
Refusal = Config → (steps : List Step) → Bool

-- whether a number of a choice names nothing on a machine of this size
abbrev pub names_nothing : Choice → Refusal
names_nothing choice c steps = is_some (unknown_of choice (2 ^ c.k) c.shared_words)

-- This is what is printed for steps that are not refused.
abbrev pub UnlessRefused : Refusal → ReportRelation → ReportRelation
UnlessRefused refuses reports c image steps text status = (refuses c steps ≡ false) × reports c image steps text status

-- The steps of the trace are refused, on the machine of its size with this many shared words.
pub record RefusesTrace (refuses : Refusal) (shared_words : ℕ) (trace : Option (List ℕ)) : Type 0 where
  pub steps : TraceContents
  pub read : IsTraceOf trace steps
  pub refused : refuses (config_of steps shared_words) steps.steps ≡ true
