-- Windows of a run: steps with numbers from a first one up to a last one, their lines in the story, and their entries
-- in the serial order.
use Rattle.std.specs.Prelude.{ℕ, ◌+◌, ◌-◌, false, List, take, drop, length, Option, Some, None, nat_lt, is_none}
use Rattle.std.specs.Prelude.{◌&&◌, if◌then◌else◌}
use Rattle.steps.specs.declared.step.Step.{Step}
use Rattle.machine_steps.specs.Machines.{MachineLists}
use Rattle.machine_steps.specs.Runs.{passed}
use Rattle.trace_commands.specs.Choices.{Refusal}
use Rattle.trace_lines.specs.declared.choice.Choice.{Choice}
use Rattle.page_command.specs.declared.window.Window.{Window}

-- ---- steps

-- the steps up to the last one that is chosen
abbrev pub steps_until : (last : Option ℕ) → List Step → List Step
steps_until None all = all
steps_until (Some last) all = take (last + 1) all

-- the steps before a window
abbrev pub steps_before : Window → List Step → List Step
steps_before w all = take w.first (steps_until w.last all)

-- those in it
abbrev pub steps_within : Window → List Step → List Step
steps_within w all = drop w.first (steps_until w.last all)

-- whether a window has more of the steps of a trace than a page shows: no last step is chosen, and more than 500,000
-- follow the first one
abbrev pub is_too_long : Window → Refusal
is_too_long w c steps = is_none w.last && nat_lt 500000 (length steps - w.first)

-- ---- lines

-- lines with numbers from one on, or also up to another
abbrev pub lines_in : (from : ℕ) → (to : Option ℕ) → Choice
lines_in from to = record { processor = None; word = None; from = Some from; to = to; network = false }

-- the lines of a window's steps in the story
abbrev pub story_choice : Window → Choice
story_choice w = lines_in w.first w.last

-- the entries with numbers from one on
abbrev pub entries_from : (first : ℕ) → Choice
entries_from first = lines_in first None

-- the entries with numbers from one on and below another; none if there is no such number
abbrev pub entries_between : (first end : ℕ) → Choice
entries_between first end = if nat_lt first end then lines_in first (Some (end - 1)) else lines_in 1 (Some 0)

-- how many entries the serial order of steps has
abbrev pub entry_count : (opening : MachineLists) → List Step → ℕ
entry_count opening steps = length (passed opening steps).order

-- The entries of a window's steps in the serial order: those after the entries of the steps before it, and, if it has a
-- last step, only those of the steps up to that one.
abbrev pub entries_up_to : (last : Option ℕ) → (first : ℕ) → (opening : MachineLists) → List Step → Choice
entries_up_to None first opening all = entries_from first
entries_up_to (Some last) first opening all = entries_between first (entry_count opening (steps_until (Some last) all))

abbrev pub entry_choice : Window → (opening : MachineLists) → List Step → Choice
entry_choice w opening all = entries_up_to w.last (entry_count opening (steps_before w all)) opening all
