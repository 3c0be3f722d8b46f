-- The fewest rounds of the sweep that take steps in their order.
use Rattle.std.specs.Prelude.{◌≡◌, ℕ, ◌+◌, ◌≤◌, Bool, true, false, not, ◌==◌, ◌||◌, ◌&&◌, IsTrue}
use Rattle.std.specs.Prelude.{List, [], ◌∷◌, ◌++◌, Option, Some, None, filter, length, nat_lt, if◌then◌else◌}
use Rattle.steps.specs.declared.step.Step.{Step}
use Rattle.steps.specs.declared.step.Step.TheVariants as step
use Rattle.steps.specs.Kinds.{is_poke}
use Rattle.run_counts.specs.declared.rounds.Begun.{Begun}

-- ---- the order of a round

-- whether a round asks for the step at all: it asks for any but a write from outside
abbrev pub is_asked : Step → Bool
is_asked s = not (is_poke s)

-- The turns come first, by processor;
abbrev pub before_turn : (processor : ℕ) → Step → Bool
before_turn p (step.Turn q) = nat_lt p q
before_turn p (step.Up s w) = true
before_turn p (step.Serve m) = true
before_turn p (step.Down s w) = true
before_turn p (step.Poke q) = false

-- then the moves of requests, at the last stage first, and at each by wire;
abbrev pub before_up : (stage wire : ℕ) → Step → Bool
before_up s w (step.Turn q) = false
before_up s w (step.Up s' w') = nat_lt s' s || s == s' && nat_lt w w'
before_up s w (step.Serve m) = true
before_up s w (step.Down s' w') = true
before_up s w (step.Poke q) = false

-- then the services, by module;
abbrev pub before_serve : (place : ℕ) → Step → Bool
before_serve m (step.Turn q) = false
before_serve m (step.Up s w) = false
before_serve m (step.Serve n) = nat_lt m n
before_serve m (step.Down s w) = true
before_serve m (step.Poke q) = false

-- then the moves of replies, at the first stage first, and at each by wire.
abbrev pub before_down : (stage wire : ℕ) → Step → Bool
before_down s w (step.Turn q) = false
before_down s w (step.Up s' w') = false
before_down s w (step.Serve m) = false
before_down s w (step.Down s' w') = nat_lt s s' || s == s' && nat_lt w w'
before_down s w (step.Poke q) = false

-- whether a round asks for the first step before the second
abbrev pub comes_before : Step → Step → Bool
comes_before (step.Turn p) t = before_turn p t
comes_before (step.Up s w) t = before_up s w t
comes_before (step.Serve m) t = before_serve m t
comes_before (step.Down s w) t = before_down s w t
comes_before (step.Poke q) t = false

-- ---- rounds

-- A round asks for the step before the first of these.
abbrev pub IsBefore : Step → List Step → Type 0
IsBefore s [] = Unit {0}
IsBefore s (t ∷ ss) = IsTrue (comes_before s t)

-- One round asks for these steps in this order.
abbrev pub IsOfRound : List Step → Type 0
IsOfRound [] = Unit {0}
IsOfRound (s ∷ ss) = IsBefore s ss × IsOfRound ss

-- Each of these lists is of one round.
abbrev pub AreOfRounds : List (List Step) → Type 0
AreOfRounds [] = Unit {0}
AreOfRounds (round ∷ rounds) = IsOfRound round × AreOfRounds rounds

-- the steps of all rounds, one after another
abbrev pub steps_of : List (List Step) → List Step
steps_of [] = []
steps_of (round ∷ rounds) = round ++ steps_of rounds

-- These rounds, one after another, take the steps in their order, except the writes from outside.
pub record AreRounds (steps : List Step) (rounds : List (List Step)) : Type 0 where
  pub each : AreOfRounds rounds
  pub all : steps_of rounds ≡ filter is_asked steps

-- This many rounds can take the steps, and no fewer.
pub record IsFewest (steps : List Step) (count : ℕ) : Type 0 where
  pub rounds : List (List Step)
  pub are : AreRounds steps rounds
  pub many : length rounds ≡ count
  pub least : (others : List (List Step)) → AreRounds steps others → count ≤ length others

-- ---- rounds, counted step by step

abbrev pub none_begun : Begun
none_begun = record { count = 0; last = None }

-- whether the step is in the same round as the last one
abbrev pub goes_on : Option Step → Step → Bool
goes_on None s = false
goes_on (Some last) s = comes_before last s

-- the rounds after a step that a round asks for: it is in the last round, or begins another
abbrev pub begun_with : Begun → Step → Begun
begun_with r s = record { count = if goes_on r.last s then r.count else r.count + 1; last = Some s }

abbrev pub begun_at : Begun → Step → Begun
begun_at r s = if is_asked s then begun_with r s else r

unfoldable pub begun_from : Begun → List Step → Begun
begun_from r [] = r
begun_from r (s ∷ ss) = begun_from (begun_at r s) ss
