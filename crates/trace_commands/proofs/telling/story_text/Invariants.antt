use Rattle.std.proofs.Common.{take}
use Rattle.trace_commands.proofs.StorySteps.{IsStorySoFar}
use Rattle.trace_commands.proofs.telling.story_text.Given as goal

abbrev pub invariant-loop-step : goal.invariant-loop-step
invariant-loop-step l = IsStorySoFar l.fn.choice l.fn.rounds l.initial.machine (take l.step-index l.steps) l.machine l.lines l.begun
