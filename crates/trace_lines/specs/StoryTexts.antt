-- The texts of a line of a story: the step, and what it did.
use Rattle.std.specs.Prelude.{ℕ, ◌+◌, List, [], ◌∷◌, ◌++◌, codes, length}
use Rattle.std.specs.Fmt.{decimal}
use Rattle.flat_machine.specs.declared.event.Event.TheVariants as event
use Rattle.messages.specs.Seconds.{seconds_of}
use Rattle.trace_lines.specs.OrderTexts.{event_text, owner_text, written_text}
use Rattle.steps.specs.declared.step.Step.{Step}
use Rattle.steps.specs.declared.step.Step.TheVariants as step
use Rattle.steps.specs.declared.step.Outcome.{Outcome}
use Rattle.steps.specs.declared.step.Outcome.TheVariants.{Retired, Issued, Stopped, Moved, Combined, Served, Answered}
use Rattle.steps.specs.declared.step.Outcome.TheVariants.{Poked, Stalled}
use Rattle.steps.specs.Groups.{group_in}

-- ---- the step

-- `turn P`, `up S W`, `serve M`, `down S W`, or `poke P ..` with the register or byte that is written, and the value
abbrev pub step_text : Step → List ℕ
step_text (step.Turn p) = codes "turn " ++ decimal p
step_text (step.Up s w) = codes "up " ++ decimal s ++ codes " " ++ decimal w
step_text (step.Serve m) = codes "serve " ++ decimal m
step_text (step.Down s w) = codes "down " ++ decimal s ++ codes " " ++ decimal w
step_text (step.Poke q) = codes "poke " ++ owner_text q ++ codes " " ++ written_text q

-- ---- what it did

-- the depth of a message after this move
abbrev pub depth_after : Step → ℕ
depth_after (step.Up s w) = s + 1
depth_after (step.Down s w) = s
depth_after _ = 0

-- `moves to depth D`
abbrev pub depth_text : Step → List ℕ
depth_text s = codes "moves to depth " ++ decimal (depth_after s)

-- the stage at which a request is combined or a reply is split
abbrev pub stage_of : Step → ℕ
stage_of (step.Up s w) = s
stage_of (step.Down s w) = s
stage_of _ = 0

-- ` P` for each processor of a list
abbrev pub members_text : List ℕ → List ℕ
members_text [] = []
members_text (p ∷ ps) = codes " " ++ decimal p ++ members_text ps

-- `N: P P ..`
abbrev pub group_text : List ℕ → List ℕ
group_text group = decimal (length group) ++ codes ":" ++ members_text group

-- what the step did, by the groups before it
abbrev pub outcome_text : List (List ℕ) → Step → Outcome → List ℕ
outcome_text groups s (Retired r) = codes "retires " ++ event_text (event.Retired r)
outcome_text groups s (Stopped cause) = codes "stops " ++ event_text (event.Stopped cause)
outcome_text groups s Issued = codes "sends"
outcome_text groups s Moved = depth_text s
outcome_text groups s (Combined first second) =
    decimal second ++ codes " joins " ++ decimal first ++ codes " at stage " ++ decimal (stage_of s)
outcome_text groups s (Served leader) = codes "serves " ++ group_text (group_in groups leader)
outcome_text groups s (Answered to) = codes "answers" ++ members_text (seconds_of to) ++ codes " at stage "
    ++ decimal (stage_of s)
outcome_text groups s Poked = codes "writes"
outcome_text groups s Stalled = codes "stalls"
