-- The sweep: round after round of the same steps.
use Rattle.std.specs.Prelude.{ℕ, zero, suc, ◌+◌, ◌*◌, ◌^◌, List, [], ◌++◌, map}
use Rattle.std.specs.List.{range_with_len}
use Rattle.steps.specs.declared.step.Step.{Step}
use Rattle.steps.specs.declared.step.Step.TheVariants.{Turn, Up, Serve, Down}

-- a step for each wire of a network of k stages, from wire 0 up
abbrev pub on_each_wire : (k : ℕ) → (ℕ → Step) → List Step
on_each_wire k step = map step (range_with_len 0 (2 ^ k))

-- the moves up of the requests before each of the first stages, from the last of these stages to the first
abbrev pub ups : (k stages : ℕ) → List Step
ups k zero = []
ups k (suc stage) = on_each_wire k (Up stage) ++ ups k stage

-- the moves down of the replies after each of the first stages, from the first to the last
abbrev pub downs : (k stages : ℕ) → List Step
downs k zero = []
downs k (suc stage) = downs k stage ++ on_each_wire k (Down stage)

-- One round: a turn of each processor; the requests move, those nearest to the modules first; each module serves; the
-- replies move, those nearest to the processors first.
unfoldable pub round : (k : ℕ) → List Step
round k = on_each_wire k Turn ++ ups k k ++ on_each_wire k Serve ++ downs k k

-- the place at which a row of a round begins; each row has a step for each wire, and rows count from 0
abbrev pub row_start : (k row : ℕ) → ℕ
row_start k row = row * 2 ^ k

-- the place of a wire's step in a row
abbrev pub place_of : (k row wire : ℕ) → ℕ
place_of k row wire = row_start k row + wire

-- the place of the next step in a round of a machine of k stages
pub record Sweeping : Type 0 where
  pub k : ℕ
  pub place : ℕ
