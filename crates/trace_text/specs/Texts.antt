-- The text of a trace: a line for the sizes of the network, and one for each step.
use Rattle.std.specs.Prelude.{ℕ, List, ◌++◌}
use Rattle.std.specs.List.{flat_map}
use Rattle.steps.specs.declared.step.Step.{Step}
use Rattle.trace_file.specs.Traces.{TraceContents, config_of}
use Rattle.command_io.specs.Digits.{line_feed}
use Rattle.trace_lines.specs.StoryTexts.{step_text}
use Rattle.trace_commands.specs.SizeLines.{size_line}

-- the line of a step: what `story` prints of it, without its number and its outcome
abbrev pub step_line : Step → List ℕ
step_line s = step_text s ++ line_feed

-- `machine k K c C b B r R`, and then the lines of the steps
unfoldable pub text_of : TraceContents → List ℕ
text_of t = size_line (config_of t 1) ++ flat_map step_line t.steps
