-- Lassos by which some fair schedule never ends: a stem from the first state to another, and a cycle from there back to
-- it. A state is its place in a list, and has a list of targets.
use Rattle.std.specs.Prelude.{◌≡◌, ℕ, ◌<◌, List, [], ◌∷◌, Contains, length}
use Rattle.state_graph.specs.Fairness.{no_move, target_at, target_in}
use Rattle.state_graph.specs.Ranks.{successors_at}

-- the place to which moves of these processors lead, one after another, or `no_move` if one of them has no move
abbrev pub place_after : (targets : List (List ℕ)) → (place : ℕ) → (movers : List ℕ) → ℕ
place_after targets i [] = i
place_after targets i (k ∷ movers) = place_after targets (target_at targets i k) movers

-- Each processor that has one of these targets is among the movers.
abbrev pub HaveAllMoved : (list movers : List ℕ) → Type 0
HaveAllMoved list movers = (k : ℕ) → target_in list k < no_move → Contains movers k

-- Moves of these processors lead from the state at a place back to it, and each processor that has a move there makes
-- one of them.
pub record IsFairRound (targets : List (List ℕ)) (place : ℕ) (movers : List ℕ) : Type 0 where
  pub there : place < length targets
  pub some : 0 < length movers
  pub back : place_after targets place movers ≡ place
  pub fair : HaveAllMoved (successors_at targets place) movers

-- The stem leads from the first state to one from which the cycle leads back to it, so that each processor that has a
-- move there moves in the cycle.
abbrev pub IsFairLasso : (targets : List (List ℕ)) → (stem cycle : List ℕ) → Type 0
IsFairLasso targets stem cycle = IsFairRound targets (place_after targets 0 stem) cycle
