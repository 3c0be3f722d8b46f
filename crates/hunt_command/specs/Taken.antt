-- The results of runs that were taken ahead.
use Rattle.std.specs.Prelude.{◌≤◌, ℕ, string_bytes}
use Rattle.flat_machine.specs.declared.config.Config.{Config}
use Rattle.elf_image.specs.Images.{ImageContents}
use Rattle.hunt_command.specs.declared.ahead.Taken.{Taken}
use Rattle.hunt_command.specs.declared.command.Hunt.{Hunt}
use Rattle.hunt_command.specs.declared.runs.RunResult.{RunResult}
use Rattle.hunt_command.specs.Hunts.{IsResultOf, ResultState, marks_of, number_at}

-- a result with the bytes of its texts
abbrev pub state_of : RunResult → ResultState
state_of r = record {
  text = string_bytes r.text;
  printed = string_bytes r.printed;
  end = r.end;
  status = r.status;
}

-- This is the result of the run at a place of a hunt, and the exit status of its machine is at most 1.
abbrev pub IsResultAt : Hunt → Config → ImageContents → (place : ℕ) → RunResult → Type 0
IsResultAt hunt c image place r =
    IsResultOf (marks_of hunt) c image hunt.policy (number_at hunt.start place) (state_of r)
    × (r.status ≤ 1)

-- The result is that of the run at its place.
abbrev pub IsTaken : Hunt → Config → ImageContents → Taken → Type 0
IsTaken hunt c image t = IsResultAt hunt c image t.place t.result
