-- Latencies: how many rounds references take, from the round of the turn that sends the request to the round of the
-- turn that retires the instruction.
use Rattle.std.specs.Prelude.{◌≡◌, ◌≤◌, ◌<◌, ℕ, ◌-◌, List, [], ◌∷◌, ◌++◌, Option, Some, None, length, map, replicate}
use Rattle.std.specs.Prelude.{slice_get, slice_index, slice_index_or, slice_set}
use Rattle.steps.specs.declared.step.Step.{Step}
use Rattle.steps.specs.declared.step.Outcome.{Outcome}
use Rattle.run_counts.specs.declared.rounds.Begun.{Begun}
use Rattle.run_counts.specs.Keys as key
use Rattle.run_counts.specs.Rounds.{begun_at, begun_from, none_begun}

-- a step, its outcome, and the shared word on which it acts, if any
pub record StepOnWord : Type 0 where
  pub step : Step
  pub outcome : Outcome
  pub word : Option ℕ

abbrev pub step_on : Step → Outcome → (word : Option ℕ) → StepOnWord
step_on s o word = record { step = s; outcome = o; word = word }

-- what is known after some steps: the rounds that they begin; for each processor the round of the turn that last sent a
-- request; and the latencies of all references, and of those of each processor and each shared word, as they retired
pub record LatencyState : Type 0 where
  pub begun : Begun
  pub sent : List ℕ
  pub all : List ℕ
  pub processors : List (List ℕ)
  pub words : List (List ℕ)

-- what is known before the first step, on a machine with this many shared words
abbrev pub no_latencies : (words : ℕ) → LatencyState
no_latencies words = record {
  begun = none_begun;
  sent = replicate 64 0;
  all = [];
  processors = replicate 64 [];
  words = replicate words [];
}

-- ---- one step

-- the latencies at a place of a list
abbrev pub sample_at : List (List ℕ) → (place : ℕ) → List ℕ
sample_at samples place = slice_index_or samples place []

-- the same lists with one latency more at a place, if it is there
abbrev pub with_one_more : List (List ℕ) → (place latency : ℕ) → Option (List ℕ) → List (List ℕ)
with_one_more samples place latency None = samples
with_one_more samples place latency (Some sample) = slice_set samples place (sample ++ latency ∷ [])

abbrev pub with_latency : List (List ℕ) → (place latency : ℕ) → List (List ℕ)
with_latency samples place latency = with_one_more samples place latency (slice_get samples place)

-- the rounds from that in which the processor last sent a request to the last that was begun
abbrev pub latency_of : LatencyState → (processor : ℕ) → ℕ
latency_of t p = t.begun.count - slice_index t.sent p

-- In the last round that was begun, this processor retires a reference to this word.
abbrev pub with_reference : LatencyState → (processor word : ℕ) → LatencyState
with_reference t p w = record t {
  all = t.all ++ latency_of t p ∷ [];
  processors = with_latency t.processors p (latency_of t p);
  words = with_latency t.words w (latency_of t p);
}

-- in that round, if a processor retires an instruction, and it acts on a shared word
abbrev pub with_retirement : LatencyState → (processor word : Option ℕ) → LatencyState
with_retirement t (Some p) (Some w) = with_reference t p w
with_retirement t (Some p) None = t
with_retirement t None w = t

-- in that round, if a processor sends a request
abbrev pub with_request : LatencyState → (processor : Option ℕ) → LatencyState
with_request t None = t
with_request t (Some p) = record t { sent = slice_set t.sent p t.begun.count }

-- in the round of a step
abbrev pub in_round_of : LatencyState → Step → LatencyState
in_round_of t s = record t { begun = begun_at t.begun s }

-- what is known after one more step
abbrev pub latencies_after : LatencyState → StepOnWord → LatencyState
latencies_after t x =
    with_retirement (with_request (in_round_of t x.step) (key.issued x.step x.outcome))
    (key.retired x.step x.outcome) x.word

-- ---- steps

abbrev pub latencies_from : LatencyState → List StepOnWord → LatencyState
latencies_from t [] = t
latencies_from t (x ∷ xs) = latencies_from (latencies_after t x) xs

-- what is known after these steps
unfoldable pub latencies_of : (words : ℕ) → List StepOnWord → LatencyState
latencies_of words steps = latencies_from (no_latencies words) steps

-- ---- laws

-- Before any step there are no latencies, each step adds its own, and no step begins two rounds.
pub record LatenciesGoOn : Type 0 where
  pub none : (words : ℕ) → latencies_of words [] ≡ no_latencies words
  pub more : (words : ℕ) (steps : List StepOnWord) (x : StepOnWord) →
      latencies_of words (steps ++ x ∷ []) ≡ latencies_after (latencies_of words steps) x
  pub few : (words : ℕ) (steps : List StepOnWord) → (latencies_of words steps).begun.count ≤ length steps

-- The step is a turn of this processor that retires an instruction, which acts on this word.
pub record Retires (p w : ℕ) (x : StepOnWord) : Type 0 where
  pub by : key.retired x.step x.outcome ≡ Some p
  pub on : x.word ≡ Some w

-- None of the steps sends a request of this processor.
abbrev pub SendsNone : (processor : ℕ) → List StepOnWord → Type 0
SendsNone p [] = Unit {0}
SendsNone p (x ∷ xs) = (key.issued x.step x.outcome ≡ Some p → ⊥) × SendsNone p xs

-- After one more step than `until`, there is one latency more, of the processor and the word: as many rounds as have
-- begun since another moment.
pub record TakesRounds (p w : ℕ) (since until after : LatencyState) : Type 0 where
  pub all : after.all ≡ until.all ++ (after.begun.count - since.begun.count) ∷ []
  pub processors : after.processors ≡ with_latency until.processors p (after.begun.count - since.begun.count)
  pub words : after.words ≡ with_latency until.words w (after.begun.count - since.begun.count)

-- The rounds are those that the steps begin. A reference takes the rounds from that of the step which sends its request
-- to that of the step which retires it, if its processor sends no other request between them.
pub record ReferencesTakeRounds : Type 0 where
  pub rounds : (words : ℕ) (steps : List StepOnWord) →
      (latencies_of words steps).begun ≡ begun_from none_begun (map (λ (x : StepOnWord). x.step) steps)
  pub taken : (words : ℕ) (before between : List StepOnWord) (sends retires : StepOnWord) (p w : ℕ) → p < 64 →
      key.issued sends.step sends.outcome ≡ Some p → SendsNone p between → Retires p w retires →
      TakesRounds p w (latencies_of words (before ++ sends ∷ [])) (latencies_of words (before ++ sends ∷ between))
      (latencies_of words ((before ++ sends ∷ between) ++ retires ∷ []))
