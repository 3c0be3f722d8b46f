-- Each step updates the groups.
use Rattle.std.proofs.Common.{◌≡◌, ℕ, List, [], ◌∷◌, ◌++◌, refl}
use Rattle.steps.specs.Answered.{Answer}
use Rattle.steps.specs.Groups.{GroupsGoOn, groups_after, groups_from, groups_of, no_groups}

more_from : (groups : List (List ℕ)) (given_answers : List Answer) (a : Answer) →
    groups_from groups (given_answers ++ a ∷ []) ≡ groups_after (groups_from groups given_answers) a.step a.outcome
more_from groups [] a = refl
more_from groups (x ∷ given_answers) a = more_from (groups_after groups x.step x.outcome) given_answers a

-- After no steps each group is empty, and one more step updates the groups by its outcome.
pub groups_more : GroupsGoOn
unfolding groups_of
groups_more = record { none = refl; more = λ given_answers a. more_from no_groups given_answers a }
