-- What steps change of a view.
use Rattle.std.specs.Prelude.{ℕ, zero, suc, ◌-◌, ◌%◌, ◌/◌, ◌^◌, ◌==◌, ◌||◌, Bool, List, [], ◌∷◌, ◌++◌, Option}
use Rattle.std.specs.Prelude.{Some, None, slice_get, slice_index, if◌then◌else◌}
use Rattle.flat_machine.specs.declared.config.Config.{Config}
use Rattle.flat_machine.specs.declared.poke.Poke.{Poke}
use Rattle.flat_machine.specs.declared.poke.Poke.TheVariants as poke
use Rattle.flat_machine.specs.State.{Processor}
use Rattle.omega_wires.specs.Wires.{bit_of_stage, wire_after, wire_before}
use Rattle.messages.specs.declared.message.Request.{Request}
use Rattle.messages.specs.declared.message.Reply.{Reply}
use Rattle.messages.specs.Network.{Net}
use Rattle.steps.specs.declared.step.Step.{Step}
use Rattle.steps.specs.declared.step.Step.TheVariants as step
use Rattle.steps.specs.declared.step.Outcome.{Outcome}
use Rattle.steps.specs.Kinds.{is_within}
use Rattle.omega_network.specs.Networks.{net_of}
use Rattle.machine_steps.specs.Machines.{IsStep, MachineLists}
use Rattle.machine_steps.specs.machine_theory.Processors.{ObservedCore, open_at}
use Rattle.machine_steps.specs.machine_theory.Steps.{after}
use Rattle.machine_steps.specs.machine_theory.Theory as theory
use Rattle.machine_views.specs.Subjects.{processors_of}
use Rattle.page_command.specs.Changes.{Change, changes_to}
use Rattle.page_command.specs.Views.{Core, Part, Place, Register, Word, view_at, view_on}

-- ---- the parts that a step may change

-- those of the first registers of a processor whose value changes
unfoldable pub registers_changed : (processor : ℕ) → (before after : List ℕ) → (count : ℕ) → List Part
registers_changed p before after zero = []
registers_changed p before after (suc r) =
    registers_changed p before after r
    ++ (if slice_index after r == slice_index before r then [] else Register p r ∷ [])

-- the place beside a processor, if it is asked for
abbrev pub slot_if : (processor : ℕ) → Bool → List Part
slot_if p wanted = if wanted then Place 0 p ∷ [] else []

-- the place beside a processor, if its reference is opened or closed
abbrev pub slot_of : (processor : ℕ) → (was_open is_open : Bool) → List Part
slot_of p was_open is_open = slot_if p (was_open || is_open)

-- of a turn: the processor, its registers that change, and the place beside it
abbrev pub parts_of_turn : (processor : ℕ) → (before after : List ℕ) → (was_open is_open : Bool) → List Part
parts_of_turn p before after was_open is_open =
    Core p ∷ [] ++ registers_changed p before after 32 ++ slot_of p was_open is_open

-- of the move of this request: the place that it leaves, and that behind the output through which it goes
abbrev pub parts_of_up : (k stage wire : ℕ) → Option Request → List Part
parts_of_up k s w None = []
parts_of_up k s w (Some x) = Place s w ∷ Place (suc s) (wire_after k s w (x.word % 2 ^ k)) ∷ []

-- of the service of this request: the place at the module, and the word
abbrev pub parts_of_serve : (k number : ℕ) → Option Request → List Part
parts_of_serve k m None = []
parts_of_serve k m (Some x) = Place k m ∷ Word x.word ∷ []

-- the places at both inputs of the switch that has an output to this wire
abbrev pub inputs_of : (k stage wire : ℕ) → List Part
inputs_of k s w = Place s (wire_before k s w 0) ∷ Place s (wire_before k s w (2 ^ bit_of_stage k s)) ∷ []

-- of the answer to a reply: the place that it leaves, and those at both inputs of the switch
abbrev pub parts_of_down : (k stage wire : ℕ) → Option Reply → List Part
parts_of_down k s w None = []
parts_of_down k s w (Some y) = Place (suc s) w ∷ [] ++ inputs_of k s w

-- of a write from outside: the processor and its registers that change, or the word
abbrev pub parts_of_poke : Poke → (before after : List ℕ) → List Part
parts_of_poke (poke.Register p register value) before after = Core p ∷ [] ++ registers_changed p before after 32
parts_of_poke (poke.Local p address value) before after = Core p ∷ []
parts_of_poke (poke.Shared address value) before after = Word ((address - 2 ^ 31) / 4) ∷ []

-- the processor of a turn or of a write from outside; another step has none, and then 0 stands for it
abbrev pub actor_of : Step → ℕ
actor_of (step.Turn p) = p
actor_of (step.Poke (poke.Register p register value)) = p
actor_of (step.Poke (poke.Local p address value)) = p
actor_of _ = 0

-- Of a step whose numbers the machine has, by the network before it, and by the registers of its processor and whether
-- that processor has a reference open, before and after it.
abbrev pub parts_within : (k : ℕ) → Net → (before after : List ℕ) → (was_open is_open : Bool) → Step → List Part
parts_within k net before after was_open is_open (step.Turn p) = parts_of_turn p before after was_open is_open
parts_within k net before after was_open is_open (step.Up s w) = parts_of_up k s w (slice_get (net.requests s w) 0)
parts_within k net before after was_open is_open (step.Serve m) =
    parts_of_serve k m (slice_get (net.requests k m) 0)
parts_within k net before after was_open is_open (step.Down s w) =
    parts_of_down k s w (slice_get (net.replies (suc s) w) 0)
parts_within k net before after was_open is_open (step.Poke q) = parts_of_poke q before after

-- the parts that a step may change, by the machine's network and processors before it, and by its processors after it
abbrev pub parts_by : (k : ℕ) → Net → (before after : ℕ → Processor) → (was_open is_open : ℕ → Bool) → Step → List Part
parts_by k net before after was_open is_open s =
    if is_within k s
    then parts_within k net (before (actor_of s)).registers (after (actor_of s)).registers (was_open (actor_of s))
    (is_open (actor_of s)) s
    else []

-- ---- the changes of steps

-- the parts that a step may change, on the machines before it and after it
abbrev pub parts_on : (k : ℕ) → (before after : theory.Machine ObservedCore) → Step → List Part
parts_on k M N s = parts_by k M.net (λ p. (M.core p).state) (λ p. (N.core p).state) M.is_open N.is_open s

-- the changes of a step on a machine
abbrev pub step_changes : Config → (code : List ℕ) → theory.Machine ObservedCore → Step → List Change
step_changes c code M s = changes_to (view_on c code (after c code M s)) (parts_on c.k M (after c code M s) s)

-- the changes of a step, on the machines before it and after it
abbrev pub changes_between : (before after : MachineLists) → Step → List Change
changes_between m n s =
    changes_to (view_at n)
    (parts_by m.config.k (net_of m.network) (processors_of m) (processors_of n) (open_at m.ports) (open_at n.ports) s)

-- The machine has taken the step.
abbrev pub IsTaken : (before : MachineLists) → Step → (after : MachineLists) → Type 0
IsTaken m s n = (o : Outcome) × IsStep m s o n

-- the changes of each of the steps, on the machine after those before it
unfoldable pub changes_from : Config → (code : List ℕ) → theory.Machine ObservedCore → List Step → List (List Change)
changes_from c code M [] = []
changes_from c code M (s ∷ ss) = step_changes c code M s ∷ changes_from c code (after c code M s) ss
