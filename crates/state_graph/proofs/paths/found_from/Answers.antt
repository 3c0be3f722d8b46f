use Rattle.std.proofs.Common.{◌<◌, ◌≤◌, ℕ, List, Option, Some, None, arith, rules}
use Rattle.std.specs.Prelude.{Contains, MatchOption}
use Rattle.std.proofs.lemmas.Iterator.{first_from_Range}
use borrow.Author.Tests.{tests}
use Rattle.state_graph.specs.Paths.{HasNoneBefore, IsFirstFrom}
use Rattle.state_graph.specs.Ranks.{successors_at}
use Rattle.state_graph.proofs.paths.found_from.Goals as goal

-- What a search of a range from 0 says holds of all numbers below its end.
below : (found : Option ℕ) (moves : List (List ℕ)) (place : ℕ) →
    MatchOption found ((k : ℕ) → 0 ≤ k → k < place → Contains (successors_at moves k) place → ⊥)
    (λ i. (0 ≤ i) × (i < place) × Contains (successors_at moves i) place
    × ((k : ℕ) → 0 ≤ k → k < i → Contains (successors_at moves k) place → ⊥)) →
    MatchOption found (HasNoneBefore moves place) (λ i. IsFirstFrom moves i place)
below None moves place none = λ k l. none k (omega arith) l
below (Some i) moves place found = record { before = found.1; leads = found.2; first = λ k l. found.3 k (omega arith) l }

pub returns : goal.returns
returns c =
    below c.find.result c.args.moves.now c.args.place
    (first_from_Range _ _ _ c.find.result (λ k. Contains (successors_at c.args.moves.now k) c.args.place)
    (λ k. Contains (successors_at c.args.moves.now k) c.args.place → ⊥) c.find.ensures.ran
    (λ x q k. search (rules, tests)) (λ x q k. search (rules, tests)))
