-- What a count is: how often a key names the count's place, over the steps of a run.
use Rattle.std.specs.Prelude.{◌≡◌, ℕ, ◌+◌, ◌<◌, ◌≤◌, ◌^◌, ◌==◌, All, List, [], ◌∷◌, ◌++◌, Option, Some, None, length}
use Rattle.std.specs.Prelude.{slice_index, slice_set, if◌then◌else◌}
use Rattle.steps.specs.declared.step.Step.{Step}
use Rattle.steps.specs.declared.step.Outcome.{Outcome}
use Rattle.steps.specs.declared.step.Outcome.TheVariants.{Served}
use Rattle.steps.specs.Answered.{Answer}
use Rattle.steps.specs.Groups.{group_in, groups_after, groups_of, no_groups}

-- a step, its outcome, and for how many processors a module served
pub record Noted : Type 0 where
  pub step : Step
  pub outcome : Outcome
  pub size : ℕ

abbrev pub observe : Step → Outcome → (size : ℕ) → Noted
observe s o size = record { step = s; outcome = o; size = size }

-- for how many processors a module served, by the groups before it; 0 for any other outcome
abbrev pub size_of : List (List ℕ) → Outcome → ℕ
size_of groups (Served leader) = length (group_in groups leader)
size_of groups _ = 0

abbrev pub noted_from : List (List ℕ) → List Answer → List Noted
noted_from groups [] = []
noted_from groups (a ∷ given_answers) =
    observe a.step a.outcome (size_of groups a.outcome) ∷ noted_from
    (groups_after groups a.step a.outcome) given_answers

-- the steps of a run with what they did
unfoldable pub noted_of : List Answer → List Noted
noted_of answers = noted_from no_groups answers

-- ---- counts

-- 1 if this place is named, and 0 otherwise
abbrev pub hit : Option ℕ → (place : ℕ) → ℕ
hit None place = 0
hit (Some named) place = if named == place then 1 else 0

-- how often the key names this place
abbrev pub times : (key : Noted → Option ℕ) → (place : ℕ) → List Noted → ℕ
times key place [] = 0
times key place (x ∷ xs) = hit (key x) place + times key place xs

-- There are this many counts, and each is how often the key names its place.
pub record AreTimes (key : Noted → Option ℕ) (places : ℕ) (observed : List Noted) (counts : List ℕ) : Type 0 where
  pub all : length counts ≡ places
  pub each : (place : ℕ) → place < places → slice_index counts place ≡ times key place observed

-- ---- counts that go up

pub record CountersState : Type 0 where
  pub counts : List ℕ
  pub observed : ℕ

-- No count exceeds the number of steps.
abbrev pub AreFew : CountersState → Type 0
AreFew c = All (λ (n : ℕ). n ≤ c.observed) c.counts

-- Each count has room for one more.
abbrev pub AreBelow : CountersState → Type 0
AreBelow c = All (λ (n : ℕ). n < c.observed) c.counts × (c.observed < 2 ^ 64)

abbrev pub bumped_at : List ℕ → (place : ℕ) → List ℕ
bumped_at counts place = slice_set counts place (slice_index counts place + 1)

abbrev pub bumped : List ℕ → Option ℕ → List ℕ
bumped counts None = counts
bumped counts (Some place) = bumped_at counts place

-- ---- a law

-- No answers note no step, and each further answer notes its step, with the groups after the answers before it.
pub record NotesGoOn : Type 0 where
  pub none : noted_of [] ≡ []
  pub more : (given_answers : List Answer) (a : Answer) →
      noted_of (given_answers ++ a ∷ []) ≡ noted_of given_answers
      ++ observe a.step a.outcome (size_of (groups_of given_answers) a.outcome) ∷ []
