-- The processors for which the request of a leader stands: those whose requests were combined into it, in the order in
-- which they are served.
use Rattle.std.specs.Prelude.{◌≡◌, ℕ, List, [], ◌∷◌, ◌++◌, slice_index_or, slice_set, replicate}
use Rattle.steps.specs.declared.step.Step.{Step}
use Rattle.steps.specs.declared.step.Step.TheVariants as step
use Rattle.steps.specs.declared.step.Outcome.{Outcome}
use Rattle.steps.specs.declared.step.Outcome.TheVariants.{Issued, Combined}
use Rattle.steps.specs.Answered.{Answer}

-- the groups before any step: an empty one for each number that can name a leader
abbrev pub no_groups : List (List ℕ)
no_groups = replicate 256 []

abbrev pub group_in : List (List ℕ) → (leader : ℕ) → List ℕ
group_in groups leader = slice_index_or groups leader []

-- the groups after a processor sends a request, which stands for it alone
abbrev pub issued : List (List ℕ) → Step → List (List ℕ)
issued groups (step.Turn p) = slice_set groups p (p ∷ [])
issued groups _ = groups

-- the groups after a second request is combined into a first: the first's are followed by the second's
abbrev pub joined : List (List ℕ) → (first second : ℕ) → List (List ℕ)
joined groups first second = slice_set groups first (group_in groups first ++ group_in groups second)

-- the groups after a step
abbrev pub groups_after : List (List ℕ) → Step → Outcome → List (List ℕ)
groups_after groups s Issued = issued groups s
groups_after groups s (Combined first second) = joined groups first second
groups_after groups s _ = groups

-- the groups after a list of steps
abbrev pub groups_from : List (List ℕ) → List Answer → List (List ℕ)
groups_from groups [] = groups
groups_from groups (a ∷ given_answers) = groups_from (groups_after groups a.step a.outcome) given_answers

-- the groups after a run from the beginning
unfoldable pub groups_of : List Answer → List (List ℕ)
groups_of answers = groups_from no_groups answers

-- ---- a law

-- Before any step all groups are empty, and each step updates them.
pub record GroupsGoOn : Type 0 where
  pub none : groups_of [] ≡ no_groups
  pub more : (given_answers : List Answer) (a : Answer) →
      groups_of (given_answers ++ a ∷ []) ≡ groups_after (groups_of given_answers) a.step a.outcome
