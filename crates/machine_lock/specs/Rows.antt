-- What the passes store, and how it fits the steps of the log.
use Rattle.std.specs.Prelude.{◌≡◌, ℕ, suc, ◌+◌, ◌≤◌, true, false, List, [], ◌∷◌, ◌++◌, length, take, drop, Option, Some}
use Rattle.std.specs.Prelude.{None, slice_get, if◌then◌else◌}
use Rattle.flat_machine.specs.declared.event.Retired.{Retired}
use Rattle.steps.specs.declared.step.Step.{Step}
use Rattle.steps.specs.declared.step.Step.TheVariants as step
use Rattle.steps.specs.declared.step.Outcome.{Outcome}
use Rattle.steps.specs.declared.step.Outcome.TheVariants as outcome
use Rattle.steps.specs.Answers.{is_stalled}
use Rattle.steps.specs.Kinds.{all_within, no_poke, no_turn, turns_below}
use Rattle.machine_steps.specs.Machines.{MachineLists}
use Rattle.machine_steps.specs.Runs.{answer_after}
pub use Rattle.machine_steps.specs.Runs.{machine_after}
use Rattle.machine_lock.specs.declared.row.PassEvent.{PassEvent}
use Rattle.machine_lock.specs.declared.row.Answer.{Answer}
use Rattle.machine_lock.specs.declared.row.PassState.{PassState}
use Rattle.machine_lock.specs.Lists.{pass_events_of, all_pass_events, given_to}

-- ---- a row

abbrev pub row : List PassEvent → ℕ → Option Answer → Option ℕ → PassState
row pass_events steps last lent = record { pass_events = pass_events; steps = steps; last = last; lent = lent }

abbrev pub new_row : PassState
new_row = row [] 0 None None

-- the row of a processor whose core is lent for this many instructions, or is back
abbrev pub with_loan : PassState → Option ℕ → PassState
with_loan r lent = record r { lent = lent }

abbrev pub answer : Step → Outcome → ℕ → Answer
answer step outcome place = record { step = step; outcome = outcome; place = place }

-- 1 for a step that is entered, and 0 for one that stalls
abbrev pub counted : Outcome → ℕ
counted o = if is_stalled o then 0 else 1

-- the row of p after an answer
abbrev pub with_answer : (p : ℕ) → PassState → Step → Outcome → (place : ℕ) → PassState
with_answer p r s o place =
    row (r.pass_events ++ given_to p place s o) (r.steps + counted o) (Some (answer s o place)) r.lent

-- the row of p after turns that retire these instructions, from this place on
abbrev pub with_retirements : (p : ℕ) → PassState → (place : ℕ) → List Retired → PassState
with_retirements p r place [] = r
with_retirements p r place (retired ∷ later) =
    with_retirements p (with_answer p r (step.Turn p) (outcome.Retired retired) place) (suc place) later

-- how many steps the log had after the answer
abbrev pub steps_after : Answer → ℕ
steps_after a = a.place + counted a.outcome

-- An answer at this place can come after this one, if there is one.
abbrev pub Follows : Option Answer → ℕ → Type 0
Follows None place = Unit {0}
Follows (Some a) place = steps_after a ≤ place

-- ---- the rows and the steps

-- what p was given after the first steps
abbrev pub pass_events_since : (opening : MachineLists) → (first : List Step) → (p : ℕ) → List Step → List PassEvent
pass_events_since opening first p steps =
    pass_events_of opening.config opening.code p (length first) (machine_after opening first)
    (drop (length first) steps)

-- what all processors were given after the first steps
abbrev pub all_since : (opening : MachineLists) → (first : List Step) → List Step → List (ℕ × PassEvent)
all_since opening first steps =
    all_pass_events opening.config opening.code (length first) (machine_after opening first) (drop (length first) steps)

-- The answer was given at its place among the steps, which is not below `from`, and p has no later turn.
pub record IsLast (opening : MachineLists) (from : ℕ) (steps : List Step) (p : ℕ) (a : Answer) : Type 0 where
  pub low : from ≤ a.place
  pub high : steps_after a ≤ length steps
  pub outcome : a.outcome ≡ answer_after opening (take a.place steps) a.step
  pub stands : is_stalled a.outcome ≡ false → slice_get steps a.place ≡ Some a.step
  pub final : no_turn p (drop (steps_after a) steps) ≡ true

abbrev pub LastFits : MachineLists → (from : ℕ) → List Step → (p : ℕ) → Option Answer → Type 0
LastFits opening from steps p None = Unit {0}
LastFits opening from steps p (Some a) = IsLast opening from steps p a

-- The list of p is what it was given after the first steps, and its last answer was given then.
pub record RowFits (opening : MachineLists) (first steps : List Step) (p : ℕ) (r : PassState) : Type 0 where
  pub pass_events : r.pass_events ≡ pass_events_since opening first p steps
  pub last : LastFits opening (length first) steps p r.last

-- how many steps the calls with all passes have entered
abbrev pub steps_of : List PassState → ℕ
steps_of [] = 0
steps_of (r ∷ rs) = r.steps + steps_of rs

-- The steps after the first ones have no poke, no turn of another processor than these, and no place that the machine
-- lacks. The rows are what they gave.
pub record Fits (opening : MachineLists) (first : List Step) (count : ℕ) (steps : List Step)
    (rows : List PassState) : Type 0 where
  pub begins : steps ≡ first ++ drop (length first) steps
  pub no_pokes : no_poke (drop (length first) steps) ≡ true
  pub turns : turns_below count (drop (length first) steps) ≡ true
  pub named : all_within opening.config.k (drop (length first) steps) ≡ true
  pub many : length rows ≡ count
  pub each : (p : ℕ) (r : PassState) → slice_get rows p ≡ Some r → RowFits opening first steps p r
  pub total : length first + steps_of rows ≡ length steps
