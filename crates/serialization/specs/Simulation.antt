-- How a machine is related to the flat machine at any moment.
use Rattle.std.specs.Prelude.{◌≡◌, ℕ, ◌^◌, ◌<◌, true, false, List, Option, Some, None, ◌⊎◌}
use Rattle.network_theory.specs.messages.Places.{put}
use Rattle.network_theory.specs.messages.Network.{Sizes, wires}
use Rattle.network_theory.specs.Roles.{Role, Idle, Placed}
use Rattle.network_theory.specs.Meaning.{Means, Groups, execute_all}
use Rattle.serialization.specs.Program.{Program, Refers, own_of, path_of, word_of}
use Rattle.serialization.specs.Machine.{Machine, Outcome, Served, Retired, Result}
use Rattle.serialization.specs.Order.{FlatMachine, group_after, segment, flat_run}

-- the core in the flat machine: a processor whose reference is served is one reference ahead there
abbrev pub shows : {Core Pokes Entry : Type 0} → Program Core Pokes Entry → ℕ → Option ℕ → Core → Core
shows P p None g = g
shows P p (Some v) g = P.retire p g v

-- what the processors are owed after a step: each processor of a served group what it finds in the flat machine, one
-- after another
abbrev pub owed_after : {Core Pokes Entry : Type 0} → Program Core Pokes Entry → (ℕ → Core) → (ℕ → List ℕ) →
    FlatMachine Core → (ℕ → Option ℕ) → Outcome Pokes
    → ℕ → Option ℕ
owed_after P core group F owed (Served p) =
    (execute_all (own_of P core) (word_of P core) (record { mem = F.mem; owed = owed }) (group p)).owed
owed_after P core group F owed (Retired p v) = put owed p None
owed_after P core group F owed _ = owed

pub record Simulates {Core Pokes Entry : Type 0} (z : Sizes) (P : Program Core Pokes Entry) (good : ℕ → Core →
    Type 0) (M : Machine Core) (group : ℕ → List ℕ)
    (owed : ℕ → Option ℕ) (F : FlatMachine Core) : Type 0 where
  pub role : ℕ → Role
  pub placed : Placed z.k (path_of z P M.core) role M.net
  pub means : Means (own_of P M.core) (word_of P M.core) (path_of z P M.core) group owed M.net
  pub groups : Groups (word_of P M.core) M.is_open group owed
  pub mem_same : (a : ℕ) → M.mem a ≡ F.mem a
  pub shown : (p : ℕ) → F.core p ≡ shows P p (owed p) (M.core p)
  pub shut : (p : ℕ) → M.is_open p ≡ false → (role p ≡ Idle) × (owed p ≡ None)
  pub refers : (p : ℕ) → M.is_open p ≡ true → P.kind p (M.core p) ≡ Refers
  pub small : (p : ℕ) → (role p ≡ Idle) ⊎ (p < wires z)
  pub within : (p : ℕ) → M.is_open p ≡ true → p < wires z
  pub good_cores : (p : ℕ) → good p (M.core p)
  pub words : (a : ℕ) → M.mem a < 2 ^ 32
  pub owed_words : (p v : ℕ) → owed p ≡ Some v → v < 2 ^ 32

-- After a step, the machine simulates the flat machine after the step's segment of the order.
abbrev pub Kept : {Core Pokes Entry : Type 0} → Sizes → Program Core Pokes Entry → (ℕ → Core → Type 0) → (ℕ → Core) →
    (ℕ → List ℕ) → (ℕ → Option ℕ)
    → FlatMachine Core → Result Core Pokes → Type 0
Kept z P good core group owed F r =
    Simulates z P good r.machine (group_after group r.outcome) (owed_after P core group F owed r.outcome)
    (flat_run P F (segment P.entry group r.outcome))
