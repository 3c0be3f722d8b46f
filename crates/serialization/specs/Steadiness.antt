-- What holds of a machine at every moment, in terms of the state alone: the roles are read off the places.
use Rattle.std.specs.Prelude.{◌≡◌, ℕ, zero, suc, ◌+◌, ◌*◌, ◌<◌, ◌≤◌, true, false, length, ◌⊎◌, ◌↔◌}
use Rattle.network_theory.specs.messages.declared.message.Request.{Request}
use Rattle.network_theory.specs.messages.declared.message.Reply.{Reply}
use Rattle.network_theory.specs.messages.declared.message.Record.{Record}
use Rattle.network_theory.specs.messages.Places.{In}
use Rattle.network_theory.specs.messages.Queues.{records_of}
use Rattle.network_theory.specs.messages.Network.{Sizes, Net, wires, records_on}
use Rattle.network_theory.specs.Roles.{Role, Idle, Asking, Waiting, Replying, Placed}
use Rattle.serialization.specs.Program.{Program, Refers, word_of, path_of}
use Rattle.serialization.specs.Machine.{Machine, Outcome, Stalled, Issued, Advanced, Poked, Result, Step, step}
use Rattle.serialization.specs.Machine.{new_machine}

-- Processor p is where its role says.
abbrev pub Stands : Net → ℕ → Role → Type 0
Stands net p Idle = Unit {0}
Stands net p (Asking d) = (w : ℕ) × (x : Request) × In x (net.requests d w) × (x.leader ≡ p)
Stands net p (Waiting s b) = (w : ℕ) × (x : Record) × In x (net.records s w) × (x.second ≡ p) × (x.leader ≡ b)
Stands net p (Replying d) = (w : ℕ) × (x : Reply) × In x (net.replies d w) × (x.leader ≡ p)

-- No wait buffer, at any stage and wire, has more than r records of one leader.
abbrev pub Few : Sizes → Net → Type 0
Few z net = (p s w : ℕ) → length (records_of p (net.records s w)) ≤ z.r

pub record Steady {Core Pokes Entry : Type 0} (z : Sizes) (P : Program Core Pokes Entry) (M : Machine Core) (role : ℕ →
    Role) : Type 0 where
  pub placed : Placed z.k (path_of z P M.core) role M.net
  pub worded : (d w : ℕ) (x : Request) → In x (M.net.requests d w) → x.word ≡ word_of P M.core x.leader
  -- an entry of a queue was combined there as often as there are records of it at that stage
  pub marked : (s w : ℕ) (x : Request) → In x (M.net.requests (suc s) w) →
      x.marks ≡ length (records_on (path_of z P M.core) M.net.records x.leader s)
  pub few : Few z M.net
  pub stands : (p : ℕ) → Stands M.net p (role p)
  pub shut : (p : ℕ) → (M.is_open p ≡ false) ↔ (role p ≡ Idle)
  pub small : (p : ℕ) → (role p ≡ Idle) ⊎ (p < wires z)
  pub refers : (p : ℕ) → M.is_open p ≡ true → P.kind p (M.core p) ≡ Refers

-- The message or record that carries p's open reference still has n moves to make.
pub data Distance (k : ℕ) (net : Net) : ℕ → ℕ → Type 0 where
  asks : (p n d w : ℕ) (x : Request) → In x (net.requests d w) → x.leader ≡ p → n + d ≡ 2 * k + 2 → Distance k net p n
  tells : (p n d w : ℕ) (x : Reply) → In x (net.replies d w) → x.leader ≡ p → n ≡ suc d → Distance k net p n
  waits : (p n s w : ℕ) (x : Record) → In x (net.records s w) → x.second ≡ p → Distance k net x.leader n →
      Distance k net p n

-- The same, in terms of the roles.
pub data Far (k : ℕ) (role : ℕ → Role) : ℕ → ℕ → Type 0 where
  idle : (p n : ℕ) → role p ≡ Idle → n ≡ 0 → Far k role p n
  asking : (p n d : ℕ) → role p ≡ Asking d → n + d ≡ 2 * k + 2 → Far k role p n
  replying : (p n d : ℕ) → role p ≡ Replying d → n ≡ suc d → Far k role p n
  waiting : (p n s b : ℕ) → role p ≡ Waiting s b → Far k role b n → Far k role p n

unfoldable pub total : (ℕ → ℕ) → ℕ → ℕ
total f zero = 0
total f (suc i) = total f i + f i

-- No distance grows, and one falls.
pub record Lower (k n : ℕ) (role role' : ℕ → Role) : Type 0 where
  pub none_grows : (q i : ℕ) → Far k role q i → (j : ℕ) × Far k role' q j × (j ≤ i)
  pub mover : ℕ
  pub within : mover < n
  pub falls : (i : ℕ) → Far k role mover i → (j : ℕ) × Far k role' mover j × (j < i)

-- A move leaves the machine steady, and lowers a distance.
pub record MovedOn {Core Pokes Entry : Type 0} (z : Sizes) (P : Program Core Pokes Entry) (role : ℕ →
    Role) (M : Machine Core) : Type 0 where
  pub role' : ℕ → Role
  pub steady : Steady z P M role'
  pub lower : Lower z.k (wires z) role role'

-- X holds if the step moves a message.
abbrev pub Advances : {Pokes : Type 0} → Outcome Pokes → Type 0 → Type 0
Advances Stalled X = Unit {0}
Advances (Issued p) X = Unit {0}
Advances (Advanced p) X = Unit {0}
Advances (Poked q) X = Unit {0}
Advances _ X = X

abbrev pub GoesOn : {Core Pokes Entry : Type 0} → Sizes → Program Core Pokes Entry → (ℕ → Role) → Result Core Pokes →
    Type 0
GoesOn z P role r = (role' : ℕ → Role) × Steady z P r.machine role'
    × Advances r.outcome (Lower z.k (wires z) role role')

-- ---- for every program

module _ (Core Pokes Entry : Type 0) where
  -- A new machine is steady, and so is each machine after a step.
  abbrev pub NewMachinesAreSteady : Type 0
  NewMachinesAreSteady = (z : Sizes) (P : Program Core Pokes Entry) (mem : ℕ → ℕ) (core : ℕ → Core) →
      Steady z P (new_machine mem core) (λ p. Idle)

  abbrev pub StepsKeepSteady : Type 0
  StepsKeepSteady = (z : Sizes) (P : Program Core Pokes Entry) (M : Machine Core) (role : ℕ → Role) (st : Step Pokes) →
      Steady z P M role
      → (role' : ℕ → Role) × Steady z P (step z P M st).machine role'

  abbrev pub RecordsAreFew : Type 0
  RecordsAreFew = (z : Sizes) (P : Program Core Pokes Entry) (M : Machine Core) (role : ℕ → Role) → Steady z P M role →
      Few z M.net
