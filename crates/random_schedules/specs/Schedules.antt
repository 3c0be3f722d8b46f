-- Schedules of random runs: the steps that a run asks for, one after another, which depend only on the strategy, the
-- run's number, the machine's size and the number of turns.
use Rattle.std.specs.Prelude.{ℕ, zero, suc, ◌+◌, ◌-◌, ◌/◌, ◌%◌, ◌^◌, ◌==◌, ◌&&◌, nat_le, Bool, not, true, List, []}
use Rattle.std.specs.Prelude.{◌∷◌, ◌++◌, if◌then◌else◌}
use Rattle.steps.specs.declared.step.Step.{Step}
use Rattle.steps.specs.declared.step.Step.TheVariants.{Turn}
use Rattle.schedules.specs.Choices.{choices, first_state, next_state}
use Rattle.random_schedules.specs.declared.course.Course.{Course}
use Rattle.random_schedules.specs.declared.epoch.Segment.{Segment}
use Rattle.random_schedules.specs.declared.strategy.Strategy.{Strategy}
use Rattle.random_schedules.specs.declared.strategy.Strategy.TheVariants as strategy
use Rattle.random_schedules.specs.Epochs.{EpochModel, epoch_from, segment}

-- The next turn of a schedule: the course after it, whose processor takes the turn, and whether each move and service
-- of the network is tried after it.
pub record NextTurn : Type 0 where
  pub course : Course
  pub moves : Bool

-- the next turn, of a schedule that draws no epochs, for a state of the generator
abbrev pub turn_by : Course → (state processor : ℕ) → (moves : Bool) → NextTurn
turn_by c x p moves = record {
  course = record { epoch = record { segments = c.epoch.segments; state = x }; processor = p };
  moves = moves;
}

-- ---- at random

-- the processor that is favoured after this state of the generator: it is chosen again in one of 2 ^ (number % 6) turns
-- on average, else it stays
abbrev pub favoured_processor : (k number x before : ℕ) → ℕ
favoured_processor k number x before = if x / 2 ^ 16 % 2 ^ (number % 6) == 0 then x % 2 ^ k else before

-- the favoured processor, and in about half of the turns the network
abbrev pub random_turn : (k number : ℕ) → Course → NextTurn
random_turn k number c =
    let y = next_state c.epoch.state in
    turn_by c y (favoured_processor k number y c.processor) (y / 2 ^ 8 % 2 == 0)

-- ---- like the sweep

-- the processor after another one, or in about a quarter of the turns the one after that
abbrev pub following_processor : (k x before : ℕ) → ℕ
following_processor k x before = (before + (if x / 2 ^ 16 % 4 == 0 then 2 else 1)) % 2 ^ k

-- the following processor, and at the end of about three quarters of the rounds the network
abbrev pub sweep_like_turn : (k : ℕ) → Course → NextTurn
sweep_like_turn k c =
    let y = next_state c.epoch.state in
    let p = following_processor k y c.processor in
    turn_by c y p (nat_le p c.processor && not (y / 2 ^ 8 % 4 == 0))

-- ---- by priorities

-- the segments that are left after a turn of the first one
abbrev pub left_after : Segment → List Segment → List Segment
left_after s ss = if nat_le s.turns 1 then ss else segment s.processor (s.turns - 1) ∷ ss

-- the course after the first turn of these segments, which were drawn up to this state of the generator
abbrev pub first_turn : (state : ℕ) → List Segment → Course
first_turn x [] = record { epoch = record { segments = []; state = x }; processor = 0 }
first_turn x (s ∷ ss) =
    record { epoch = record { segments = left_after s ss; state = x }; processor = s.processor }

-- the epoch that goes on, or a new one if no turns are left
abbrev pub epoch_or : (state : ℕ) → List Segment → (new : EpochModel) → EpochModel
epoch_or x [] new = new
epoch_or x (s ∷ ss) new = record { segments = s ∷ ss; state = x }

-- the epoch of the next turn
abbrev pub epoch_of : (k depth number : ℕ) → EpochModel → EpochModel
epoch_of k depth number e = epoch_or e.state e.segments (epoch_from k depth number e.state)

-- the first turn that is left of the epoch, and then the network
abbrev pub pct_turn : (k depth number : ℕ) → Course → NextTurn
pct_turn k depth number c =
    let e = epoch_of k depth number c.epoch in record { course = first_turn e.state e.segments; moves = true }

-- ---- schedules

-- the next turn by a strategy, in the run with this number
abbrev pub next_turn : Strategy → (k number : ℕ) → Course → NextTurn
next_turn strategy.Random k number c = random_turn k number c
next_turn strategy.SweepLike k number c = sweep_like_turn k c
next_turn (strategy.Pct depth) k number c = pct_turn k depth number c

-- the network's steps after a turn: each of its moves and services once, or none
abbrev pub moves_after : (k : ℕ) → (moves : Bool) → List Step
moves_after k moves = if moves then choices k else []

-- this many turns after a course, each with the network's steps after it
abbrev pub turns_from : Strategy → (k number : ℕ) → Course → (turns : ℕ) → List Step
turns_from s k number c zero = []
turns_from s k number c (suc n) =
    let a = next_turn s k number c in
    Turn a.course.processor ∷ moves_after k a.moves ++ turns_from s k number a.course n

-- the course at the beginning of the run with this number
abbrev pub opening_course : (number : ℕ) → Course
opening_course number =
    record { epoch = record { segments = []; state = first_state number 0 }; processor = 0 }

-- the schedule of the run with this number
unfoldable pub schedule : Strategy → (k number turns : ℕ) → List Step
schedule s k number turns = turns_from s k number (opening_course number) turns
