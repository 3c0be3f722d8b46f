-- Epochs of probabilistic concurrency testing (Burckhardt et al., ASPLOS 2010): each processor has a priority that is
-- drawn at random, the one with the highest takes its turns, and after a few turns at random places its priority
-- becomes the lowest.
use Rattle.std.specs.Prelude.{ℕ, zero, suc, ◌+◌, ◌-◌, ◌*◌, ◌%◌, ◌^◌, ◌==◌, min, nat_lt, List, [], ◌∷◌, ◌++◌, insert}
use Rattle.std.specs.Prelude.{slice_set, if◌then◌else◌}
use Rattle.schedules.specs.Choices.{next_state}
use Rattle.random_schedules.specs.declared.epoch.Segment.{Segment}

-- turns of one processor, one after another
abbrev pub segment : (processor turns : ℕ) → Segment
segment p turns = record { processor = p; turns = turns }

-- The turns that are left of an epoch, those of the highest priority first, and the state of the generator after they
-- were drawn.
pub record EpochModel : Type 0 where
  pub segments : List Segment
  pub state : ℕ

-- ---- priorities

-- A segment of this many turns for each of the first processors, in an order that is drawn from a state of the
-- generator on: each processor goes to some place among those before it.
unfoldable pub shuffled : (turns state count : ℕ) → EpochModel
shuffled turns x zero = record { segments = []; state = x }
shuffled turns x (suc p) =
    let e = shuffled turns x p in
    let y = next_state e.state in
    record { segments = insert e.segments (y % (p + 1)) (segment p turns); state = y }

-- ---- changes of priority

-- a segment of these turns, if there are any
abbrev pub segment_if : (processor turns : ℕ) → List Segment
segment_if p turns = if turns == 0 then [] else segment p turns ∷ []

-- After the turn at this place, its processor gets the lowest priority: what is left of its segment goes to the end.
unfoldable pub lowered : (place : ℕ) → List Segment → List Segment
lowered place [] = []
lowered place (s ∷ ss) =
    if nat_lt place s.turns
    then segment s.processor (place + 1) ∷ ss ++ segment_if s.processor (s.turns - (place + 1))
    else s ∷ lowered (place - s.turns) ss

-- these segments, of which the one at a place keeps this many turns, and its others are at the end
abbrev pub cut_at : (at : ℕ) → Segment → (turns : ℕ) → List Segment → List Segment
cut_at at s turns ss =
    slice_set ss at (segment s.processor turns) ++ segment_if s.processor (s.turns - turns)

-- an epoch of this many turns, with changes of priority at places that are drawn
unfoldable pub with_changes : (turns count : ℕ) → EpochModel → EpochModel
with_changes turns zero e = e
with_changes turns (suc n) e =
    let f = with_changes turns n e in
    let y = next_state f.state in
    record { segments = lowered (y % turns) f.segments; state = y }

-- ---- the epochs of a run

-- how many turns each processor has in an epoch of the run with this number: 16, 64, 256 or 1024
abbrev pub turns_each : (number : ℕ) → ℕ
turns_each number = 2 ^ (4 + 2 * (number % 4))

-- how often a priority changes in an epoch, to find bugs of a depth: once less, and at most 15 times
abbrev pub change_count : (depth : ℕ) → ℕ
change_count depth = min (depth - 1) 15

-- the epoch drawn from a state of the generator on
unfoldable pub epoch_from : (k depth number state : ℕ) → EpochModel
epoch_from k depth number x =
    with_changes (turns_each number * 2 ^ k) (change_count depth) (shuffled (turns_each number) x (2 ^ k))
