-- The steps from which an arbiter picks, and the numbers by which it picks.
use Rattle.std.specs.Prelude.{◌≡◌, ℕ, zero, suc, ◌+◌, ◌*◌, ◌/◌, ◌%◌, ◌^◌, ◌==◌, true, List, [], ◌++◌, map, bit_xor}
use Rattle.std.specs.Prelude.{if◌then◌else◌}
use Rattle.std.specs.List.{range_with_len}
use Rattle.steps.specs.declared.step.Step.{Step}
use Rattle.steps.specs.declared.step.Step.TheVariants.{Up, Serve, Down}
use Rattle.steps.specs.Kinds.{is_network, is_within}

-- ---- the list

-- a step for each wire of a network of k stages, from wire 0 up
abbrev pub by_wire : (k : ℕ) → (ℕ → Step) → List Step
by_wire k step = map step (range_with_len 0 (2 ^ k))

-- a step for each of the first stages and each wire, by stage, and within each stage by wire
abbrev pub by_stage : (k stages : ℕ) → (ℕ → ℕ → Step) → List Step
by_stage k zero step = []
by_stage k (suc stage) step = by_stage k stage step ++ by_wire k (step stage)

-- all moves of requests, all services, and all moves of replies
unfoldable pub choices : (k : ℕ) → List Step
choices k = by_stage k k Up ++ by_wire k Serve ++ by_stage k k Down

-- A step moves a message of a network of k stages, or is a service by one of its modules.
abbrev pub IsOfNetwork : (k : ℕ) → Step → Type 0
IsOfNetwork k s = (is_network s ≡ true) × (is_within k s ≡ true)

-- ---- the generator, whose states are numbers below 2 ^ 32

-- the sum of the number with which a run begins and the processor's number, or 1 if that is 0
abbrev pub first_state : (start p : ℕ) → ℕ
first_state start p = let sum = (start + p) % 2 ^ 32 in if sum == 0 then 1 else sum

-- the number with each bit flipped if the bit `places` below it (`mixed_up`) or above it (`mixed_down`) is 1
abbrev pub mixed_up : (x places : ℕ) → ℕ
mixed_up x places = bit_xor x ((x * 2 ^ places) % 2 ^ 32)

abbrev pub mixed_down : (x places : ℕ) → ℕ
mixed_down x places = bit_xor x (x / 2 ^ places)

abbrev pub next_state : (x : ℕ) → ℕ
next_state x = mixed_up (mixed_down (mixed_up x 13) 17) 5
