-- Kinds of steps: whose turn a step is, whether it is of the network, and whether it writes from outside.
use Rattle.std.specs.Prelude.{ℕ, ◌^◌, Bool, true, false, not, ◌&&◌, ◌==◌, nat_lt, List, Option, Some, None}
use Rattle.std.specs.List.{list_all}
use Rattle.flat_machine.specs.declared.poke.Poke.TheVariants as poke
use Rattle.steps.specs.declared.step.Step.{Step}
use Rattle.steps.specs.declared.step.Step.TheVariants as step

-- ---- turns

-- the processor whose turn the step is, if it is a turn
abbrev pub turn_processor : Step → Option ℕ
turn_processor (step.Turn p) = Some p
turn_processor (step.Up s w) = None
turn_processor (step.Serve m) = None
turn_processor (step.Down s w) = None
turn_processor (step.Poke q) = None

-- whether the step is a turn
abbrev pub is_turn : Step → Bool
is_turn (step.Turn p) = true
is_turn (step.Up s w) = false
is_turn (step.Serve m) = false
is_turn (step.Down s w) = false
is_turn (step.Poke q) = false

-- whether it is a turn of this processor
abbrev pub is_turn_of : (processor : ℕ) → Step → Bool
is_turn_of p (step.Turn q) = q == p
is_turn_of p (step.Up s w) = false
is_turn_of p (step.Serve m) = false
is_turn_of p (step.Down s w) = false
is_turn_of p (step.Poke q) = false

-- whether it is a turn of one of this many processors, or no turn
abbrev pub is_turn_below : (count : ℕ) → Step → Bool
is_turn_below count (step.Turn p) = nat_lt p count
is_turn_below count (step.Up s w) = true
is_turn_below count (step.Serve m) = true
is_turn_below count (step.Down s w) = true
is_turn_below count (step.Poke q) = true

-- ---- the other kinds

-- whether the step moves a message in the network, or is a service by a module
abbrev pub is_network : Step → Bool
is_network (step.Turn p) = false
is_network (step.Up s w) = true
is_network (step.Serve m) = true
is_network (step.Down s w) = true
is_network (step.Poke q) = false

-- whether it writes from outside
abbrev pub is_poke : Step → Bool
is_poke (step.Turn p) = false
is_poke (step.Up s w) = false
is_poke (step.Serve m) = false
is_poke (step.Down s w) = false
is_poke (step.Poke q) = true

-- ---- places

-- whether a machine of k stages has the numbers that the step names: a processor, module or wire below 2 ^ k, a stage
-- below k
abbrev pub is_within : (k : ℕ) → Step → Bool
is_within k (step.Turn p) = nat_lt p (2 ^ k)
is_within k (step.Up s w) = nat_lt s k && nat_lt w (2 ^ k)
is_within k (step.Serve m) = nat_lt m (2 ^ k)
is_within k (step.Down s w) = nat_lt s k && nat_lt w (2 ^ k)
is_within k (step.Poke (poke.Register p register value)) = nat_lt p (2 ^ k)
is_within k (step.Poke (poke.Local p address value)) = nat_lt p (2 ^ k)
is_within k (step.Poke (poke.Shared address value)) = true

-- ---- lists

-- whether none of the steps writes from outside
abbrev pub no_poke : List Step → Bool
no_poke steps = list_all (λ s. not (is_poke s)) steps

-- whether none of them is a turn of this processor
abbrev pub no_turn : (processor : ℕ) → List Step → Bool
no_turn p steps = list_all (λ s. not (is_turn_of p s)) steps

-- whether all turns among them are of this many processors
abbrev pub turns_below : (count : ℕ) → List Step → Bool
turns_below count steps = list_all (is_turn_below count) steps

-- whether a machine of k stages has the numbers that they name
abbrev pub all_within : (k : ℕ) → List Step → Bool
all_within k steps = list_all (is_within k) steps
