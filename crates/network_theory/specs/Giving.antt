-- Who gets what from a reply, and what a list of processors does to a word.
use Rattle.std.specs.Prelude.{ℕ, zero, suc, List, [], ◌∷◌, ◌++◌, flat_map}
use Rattle.messages.specs.phi_algebra.declared.phi.Phi.{Phi}
use Rattle.messages.specs.declared.message.Record.{Record}
use Rattle.messages.specs.Queues.{applied}

-- Who gets what if the leader p gets y at depth d, in order: first what p gives below stage d - 1, then what the second
-- of each record of p there gives. `R p s` is the records of p at stage s.
unfoldable pub gives : (R : ℕ → ℕ → List Record) → ℕ → ℕ → ℕ → List (ℕ × ℕ)
gives R p zero y = (p, y) ∷ []
gives R p (suc s) y = gives R p s y ++ flat_map (λ x. gives R x.second s (applied x.phi y)) (R p s)

-- Who finds what if these processors refer one after another, each with its own function, and y is the word before
-- them.
unfoldable pub finds : (own : ℕ → Phi) → List ℕ → ℕ → List (ℕ × ℕ)
finds own [] y = []
finds own (j ∷ js) y = (j, y) ∷ finds own js (applied (own j) y)

-- the word after them
unfoldable pub leaves : (own : ℕ → Phi) → List ℕ → ℕ → ℕ
leaves own [] y = y
leaves own (j ∷ js) y = leaves own js (applied (own j) y)
