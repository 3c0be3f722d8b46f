-- The serial order that the outcomes of steps give, and the flat machine that takes it.
use Rattle.std.specs.Prelude.{ℕ, suc, List, [], ◌∷◌, ◌++◌, map, length, Option, Some, None}
use Rattle.network_theory.specs.messages.Places.{put}
use Rattle.network_theory.specs.messages.Queues.{applied}
use Rattle.network_theory.specs.messages.Network.{Sizes}
use Rattle.network_theory.specs.Meaning.{joined}
use Rattle.serialization.specs.Program.{Program, Kind, Rests, Alone, Refers, Content, TurnOf, PokeOf, Entries}
use Rattle.serialization.specs.Machine.{Machine, Step, Outcome, Issued, Advanced, Retired, Combined, Served, Poked}
use Rattle.serialization.specs.Machine.{Result, step}

-- ---- by the outcomes alone

-- The group of a leader: the processors for which its request stands. Its reference begins as a group of its own, the
-- group of a second joins the first's, and a group that is served becomes empty.
abbrev pub group_after : {Pokes : Type 0} → (ℕ → List ℕ) → Outcome Pokes → ℕ → List ℕ
group_after group (Issued p) = put group p (p ∷ [])
group_after group (Combined p q) = joined group p q
group_after group (Served p) = put group p []
group_after group _ = group

-- What a step adds to the serial order: a local instruction or a stop at its turn, the references of a group when it is
-- served, a poke when it is written.
abbrev pub segment : {Pokes Entry : Type 0} → Entries Pokes Entry → (ℕ → List ℕ) → Outcome Pokes → List Entry
segment E group (Served p) = map E.turn (group p)
segment E group (Advanced p) = E.turn p ∷ []
segment E group (Poked q) = E.poke q ∷ []
segment E group _ = []

-- the places at which references were served, after these are served one after another from place i on
unfoldable pub served_from : ℕ → List ℕ → (ℕ → Option ℕ) → ℕ → Option ℕ
served_from i [] served = served
served_from i (j ∷ js) served = served_from (suc i) js (put served j (Some i))

-- the place of the order at which a processor's open reference was served
abbrev pub served_after : {Pokes Entry : Type 0} → (ℕ → List ℕ) → List Entry → (ℕ → Option ℕ) → Outcome Pokes → ℕ →
    Option ℕ
served_after group order served (Served p) = served_from (length order) (group p) served
served_after group order served (Retired p v) = put served p None
served_after group order served _ = served

-- ---- runs

-- the machine after a list of steps, and what their outcomes gave
pub record Passed (Core Entry : Type 0) : Type 0 where
  pub machine : Machine Core
  pub group : ℕ → List ℕ
  pub served : ℕ → Option ℕ
  pub order : List Entry

abbrev pub passed_by : {Core Pokes Entry : Type 0} → Entries Pokes Entry → Passed Core Entry → Result Core Pokes →
    Passed Core Entry
passed_by E h r = record {
  machine = r.machine;
  group = group_after h.group r.outcome;
  served = served_after h.group h.order h.served r.outcome;
  order = h.order ++ segment E h.group r.outcome;
}

abbrev pub pass : {Core Pokes Entry : Type 0} → Sizes → Program Core Pokes Entry → Passed Core Entry → Step Pokes →
    Passed Core Entry
pass z P h st = passed_by P.entry h (step z P h.machine st)

unfoldable pub passes : {Core Pokes Entry : Type 0} → Sizes → Program Core Pokes Entry → List (Step Pokes) →
    Passed Core Entry → Passed Core Entry
passes z P [] h = h
passes z P (st ∷ sts) h = passes z P sts (pass z P h st)

-- the state before any step
abbrev pub from_machine : {Core Entry : Type 0} → Machine Core → Passed Core Entry
from_machine M = record { machine = M; group = λ p. []; served = λ p. None; order = [] }

-- the state after a list of steps from a machine
abbrev pub ran : {Core Pokes Entry : Type 0} → Sizes → Program Core Pokes Entry → Machine Core → List (Step Pokes) →
    Passed Core Entry
ran z P M steps = passes z P steps (from_machine M)

-- ---- the same on the list of outcomes

unfoldable pub outcomes : {Core Pokes Entry : Type 0} → Sizes → Program Core Pokes Entry → List (Step Pokes) →
    Machine Core → List (Outcome Pokes)
outcomes z P [] M = []
outcomes z P (st ∷ sts) M = (step z P M st).outcome ∷ outcomes z P sts (step z P M st).machine

unfoldable pub groups_after : {Pokes : Type 0} → (ℕ → List ℕ) → List (Outcome Pokes) → ℕ → List ℕ
groups_after group [] = group
groups_after group (o ∷ os) = groups_after (group_after group o) os

-- the serial order: the segments of the steps, in their order
unfoldable pub serial_order : {Pokes Entry : Type 0} → Entries Pokes Entry → (ℕ → List ℕ) → List (Outcome Pokes) →
    List Entry
serial_order E group [] = []
serial_order E group (o ∷ os) = segment E group o ++ serial_order E (group_after group o) os

-- ---- the flat machine: it has no messages, and a processor refers to its word at once

pub record FlatMachine (Core : Type 0) : Type 0 where
  pub mem : ℕ → ℕ
  pub core : ℕ → Core

abbrev pub flat_turn : {Core Pokes Entry : Type 0} → Program Core Pokes Entry → FlatMachine Core → ℕ → Core → Kind →
    FlatMachine Core
flat_turn P f j g Rests = f
flat_turn P f j g Alone = record { mem = f.mem; core = put f.core j (P.alone j g) }
flat_turn P f j g Refers =
    let a = P.word_of j g in
    record { mem = put f.mem a (applied (P.phi_of j g) (f.mem a)); core = put f.core j (P.retire j g (f.mem a)) }

-- the flat machine after an entry with this content
abbrev pub flat_taken : {Core Pokes Entry : Type 0} → Program Core Pokes Entry → FlatMachine Core → Content Pokes →
    FlatMachine Core
flat_taken P f (TurnOf j) = flat_turn P f j (f.core j) (P.kind j (f.core j))
flat_taken P f (PokeOf q) = record { mem = P.poked_mem q f.mem; core = P.poked_core q f.core }

abbrev pub flat_step : {Core Pokes Entry : Type 0} → Program Core Pokes Entry → FlatMachine Core → Entry →
    FlatMachine Core
flat_step P f e = flat_taken P f (P.entry.content e)

unfoldable pub flat_run : {Core Pokes Entry : Type 0} → Program Core Pokes Entry → FlatMachine Core → List Entry →
    FlatMachine Core
flat_run P f [] = f
flat_run P f (e ∷ es) = flat_run P (flat_step P f e) es

-- the flat machine that an idle machine is
abbrev pub flat_of : {Core : Type 0} → Machine Core → FlatMachine Core
flat_of M = record { mem = M.mem; core = M.core }
