-- What events show.
use Rattle.std.specs.Prelude.{◌≡◌, ℕ, ◌+◌, ◌<◌, List, [], ◌∷◌, ◌++◌, length, slice_index_or}
use Rattle.flat_machine.specs.declared.event.Event.{Event}
use Rattle.flat_machine.specs.declared.event.Event.TheVariants.{Retired, Stopped}
use Rattle.command_io.specs.Tallies.{ShownBy, TallyState, nothing_shown, with_retired}

-- what has been shown after one more event
abbrev pub with_event : ShownBy → Event → ShownBy
with_event s (Retired retired) = with_retired s retired.out
with_event s (Stopped cause) = s

abbrev pub shown_from : ShownBy → List Event → ShownBy
shown_from s [] = s
shown_from s (event ∷ events) = shown_from (with_event s event) events

-- what a list of events shows: how many instructions retired, and the bytes of the console in order
abbrev pub shown_by : List Event → ShownBy
shown_by events = shown_from nothing_shown events

-- The tally has one entry for each processor, with what that processor's events show, and has noted this many steps.
pub record IsTally (processors : ℕ) (t : TallyState) (events : ℕ → List Event) (steps : ℕ) : Type 0 where
  pub all : length t.shown ≡ processors
  pub each : (p : ℕ) → p < processors → slice_index_or t.shown p nothing_shown ≡ shown_by (events p)
  pub observed : t.observed ≡ steps
