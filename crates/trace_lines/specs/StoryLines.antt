-- The lines of a run's story: a line for each step that is chosen, read off the step, its outcome, the values that it
-- tells and the groups of requests before it. If steps have rounds, a mark stands before the first chosen step of each.
use Rattle.std.specs.Prelude.{◌≡◌, ℕ, ◌+◌, Bool, true, not, ◌==◌, ◌&&◌, ◌||◌, List, [], ◌∷◌, ◌++◌, codes, length}
use Rattle.std.specs.Prelude.{Option, Some, None, if◌then◌else◌, unwrap_or}
use Rattle.std.specs.Fmt.{decimal}
use Rattle.command_io.specs.Digits.{line_feed}
use Rattle.steps.specs.declared.step.Step.{Step}
use Rattle.steps.specs.declared.step.Outcome.{Outcome}
use Rattle.steps.specs.Groups.{groups_after, no_groups}
use Rattle.steps.specs.Kinds.{is_network}
use Rattle.trace_lines.specs.declared.choice.Choice.{Choice}
use Rattle.trace_lines.specs.declared.subject.Subject.{Subject}
use Rattle.trace_lines.specs.declared.values.Values.{Values}
use Rattle.trace_lines.specs.Choices.{is_chosen, is_in_range}
use Rattle.trace_lines.specs.Concerns.{concerns, leader_after}
use Rattle.trace_lines.specs.StoryTexts.{outcome_text, step_text}
use Rattle.trace_lines.specs.ValueTexts.{values_text}

-- `N STEP: OUTCOME VALUES`
unfoldable pub line_of : List (List ℕ) → (number : ℕ) → Step → Outcome → Values → List ℕ
line_of groups number s o v = decimal number ++ codes " " ++ step_text s ++ codes ": " ++ outcome_text groups s o
    ++ values_text v ++ line_feed

-- `round N` before a step of round N, unless the last mark is of this round; nothing before a step of no round
abbrev pub mark_text : (last : ℕ) → (round : Option ℕ) → List ℕ
mark_text last None = []
mark_text last (Some round) = if round == last then [] else codes "round " ++ decimal round ++ line_feed

-- ---- chosen lines

-- a step with its outcome, what it is about, the values that it tells, and its round, counted from 1, if it has one
pub record StoryStep : Type 0 where
  pub step : Step
  pub outcome : Outcome
  pub subject : Subject
  pub values : Values
  pub round : Option ℕ

abbrev pub story_step : Step → Outcome → Subject → Values → (round : Option ℕ) → StoryStep
story_step s o subject values round =
    record { step = s; outcome = o; subject = subject; values = values; round = round }

-- what is known before a step: how many steps there were, the groups of requests after them, the leader of the message
-- that stands for the chosen processor, if one does, and the round of the last mark, 0 if there is none
pub record Telling : Type 0 where
  pub number : ℕ
  pub groups : List (List ℕ)
  pub leader : Option ℕ
  pub marked : ℕ

abbrev pub at_first : Telling
at_first = record { number = 0; groups = no_groups; leader = None; marked = 0 }

-- the leader of the message that stands for the chosen processor, if one is chosen, by the groups and the leader before
abbrev pub chosen_leader : (chosen : Option ℕ) → (groups : List (List ℕ)) → (leader : Option ℕ) → Step → Outcome
    → Option ℕ
chosen_leader None groups leader s o = None
chosen_leader (Some p) groups leader s o = leader_after p groups leader s o

-- whether a step concerns the chosen processor; true if none is chosen
abbrev pub concerns_chosen : (chosen : Option ℕ) → Telling → Step → Outcome → Subject → Bool
concerns_chosen None t s o subject = true
concerns_chosen (Some p) t s o subject = concerns p t.leader subject.leader s o

-- whether a choice takes a step of this kind: each, or those of the network alone
abbrev pub is_kind_chosen : Choice → Step → Bool
is_kind_chosen choice s = not choice.network || is_network s

-- whether a choice takes a step
abbrev pub takes_step : Choice → Telling → Step → Outcome → Subject → Bool
takes_step choice t s o subject = is_kind_chosen choice s && (is_in_range choice t.number
    && (is_chosen choice.word subject.word && concerns_chosen choice.processor t s o subject))

-- the mark and the line of a step if it is chosen, and nothing otherwise
abbrev pub chosen_line : Choice → Telling → StoryStep → List ℕ
chosen_line choice t a = if takes_step choice t a.step a.outcome a.subject
    then mark_text t.marked a.round ++ line_of t.groups t.number a.step a.outcome a.values else []

-- the round of the last mark after a step: its own if it is chosen and has one
abbrev pub marked_after : Choice → Telling → StoryStep → ℕ
marked_after choice t a =
    if takes_step choice t a.step a.outcome a.subject then unwrap_or a.round t.marked else t.marked

-- what is known after a step
abbrev pub known_after : Choice → Telling → StoryStep → Telling
known_after choice t a = record {
  number = t.number + 1;
  groups = groups_after t.groups a.step a.outcome;
  leader = chosen_leader choice.processor t.groups t.leader a.step a.outcome;
  marked = marked_after choice t a;
}

-- the chosen lines of a list of steps, each by what is known before it
abbrev pub lines_from : Choice → Telling → List StoryStep → List ℕ
lines_from choice t [] = []
lines_from choice t (a ∷ rest) = chosen_line choice t a
    ++ lines_from choice (known_after choice t a) rest

-- the chosen lines of a run, from its first step
unfoldable pub story_of : Choice → List StoryStep → List ℕ
story_of choice run = lines_from choice at_first run

-- ---- step by step

-- the chosen lines of some steps, and what is known after them
pub record StoryState : Type 0 where
  pub choice : Choice
  pub known : Telling
  pub text : List ℕ

-- the lines of no step
abbrev pub no_lines : Choice → StoryState
no_lines choice = record { choice = choice; known = at_first; text = [] }

-- the lines with that of one more step
abbrev pub with_line : StoryState → StoryStep → StoryState
with_line t a = record {
  choice = t.choice;
  known = known_after t.choice t.known a;
  text = t.text ++ chosen_line t.choice t.known a;
}

-- the lines with those of more steps
abbrev pub with_lines : StoryState → List StoryStep → StoryState
with_lines t [] = t
with_lines t (a ∷ rest) = with_lines (with_line t a) rest

-- ---- a law

-- Lines that are added step by step, from none, are the chosen lines of the run, and number all its steps.
pub record StoriesGoOn : Type 0 where
  pub more : (t : StoryState) (run : List StoryStep) (a : StoryStep) →
      with_lines t (run ++ a ∷ []) ≡ with_line (with_lines t run) a
  pub story : (choice : Choice) (run : List StoryStep) → (with_lines (no_lines choice) run).text ≡ story_of choice run
  pub number : (choice : Choice) (run : List StoryStep) → (with_lines (no_lines choice) run).known.number ≡ length run
