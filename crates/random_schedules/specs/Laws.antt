-- What holds of all epochs.
use Rattle.std.specs.Prelude.{◌≡◌, ℕ, ◌^◌, ◌==◌, ◌<◌, List, if◌then◌else◌}
use Rattle.std.specs.List.{sum_by}
use Rattle.random_schedules.specs.declared.epoch.Segment.{Segment}
use Rattle.random_schedules.specs.Epochs.{epoch_from, turns_each}

-- how many turns of a processor a segment has
abbrev pub turns_for : (processor : ℕ) → Segment → ℕ
turns_for p s = if s.processor == p then s.turns else 0

-- how many turns of a processor segments have
abbrev pub turns_in : (processor : ℕ) → List Segment → ℕ
turns_in p segments = sum_by (turns_for p) segments

-- Each processor has the same number of turns in an epoch, however often priorities change.
abbrev pub EpochsAreFair : Type 0
EpochsAreFair = (k depth number state p : ℕ) → p < 2 ^ k →
    turns_in p (epoch_from k depth number state).segments ≡ turns_each number
