-- The drain: which step it takes next.
use Rattle.std.specs.Prelude.{◌≡◌, ℕ, zero, suc, ◌+◌, ◌*◌, ◌<◌, ◌≤◌, Bool, true, false, List, [], ◌∷◌, Option, Some}
use Rattle.std.specs.Prelude.{None, is_some, length, if◌then◌else◌}
use Rattle.network_theory.specs.messages.Network.{Sizes, Net, wires}
use Rattle.serialization.specs.Program.{Program}
use Rattle.network_theory.specs.Roles.{Role}
use Rattle.serialization.specs.Machine.{Machine, Step, Turn, Up, Serve, Down, Stalled, step, machine_after, IsIdle}
use Rattle.serialization.specs.Steadiness.{Steady, Distance, total}

-- the least and the greatest number below n that passes the test
unfoldable pub least : (ℕ → Bool) → ℕ → Option ℕ
least f zero = None
least f (suc n) = elim (least f n) [ Some i ↦ Some i | None ↦ if f n then Some n else None ]

unfoldable pub greatest : (ℕ → Bool) → ℕ → Option ℕ
greatest f zero = None
greatest f (suc n) = if f n then Some n else greatest f n

abbrev pub is_any : {X : Type 0} → List X → Bool
is_any [] = false
is_any (x ∷ xs) = true

-- whether a wire below n has a message
abbrev pub some_wire : {X : Type 0} → (ℕ → List X) → ℕ → Bool
some_wire at n = is_some (least (λ w. is_any (at w)) n)

abbrev pub first_wire : {X Pokes : Type 0} → (ℕ → List X) → ℕ → (ℕ → Step Pokes) → Option (Step Pokes)
first_wire at n go = elim (least (λ w. is_any (at w)) n) [ Some w ↦ Some (go w) | None ↦ None ]

abbrev pub or_else : {Pokes : Type 0} → Option (Step Pokes) → Option (Step Pokes) → Option (Step Pokes)
or_else (Some a) b = Some a
or_else None b = b

-- a reply before some stage: at the least stage, and there on the least wire
abbrev pub down_step : {Pokes : Type 0} → Sizes → Net → Option (Step Pokes)
down_step z net = elim (least (λ s. some_wire (net.replies (suc s)) (wires z)) z.k) [
  | Some s ↦ first_wire (net.replies (suc s)) (wires z) (Down s)
  | None ↦
      None
]

-- a request before some stage: at the greatest stage, and there on the least wire
abbrev pub up_step : {Pokes : Type 0} → Sizes → Net → Option (Step Pokes)
up_step z net = elim (greatest (λ s. some_wire (net.requests s) (wires z)) z.k) [
  | Some s ↦ first_wire (net.requests s)
      (wires z) (Up s)
  | None ↦ None
]

-- the first of these that applies: the turn of a processor with a reply on its wire, a reply down, a request at a
-- module, a request up
abbrev pub drain_step : {Core Pokes : Type 0} → Sizes → Machine Core → Option (Step Pokes)
drain_step z M = or_else (first_wire (M.net.replies 0) (wires z) Turn)
    (or_else (down_step z M.net) (or_else (first_wire (M.net.requests z.k) (wires z) Serve) (up_step z M.net)))

-- f gives each open reference its distance, and the other processors 0.
abbrev pub AreDistances : {Core : Type 0} → Sizes → Machine Core → (ℕ → ℕ) → Type 0
AreDistances z M f = (p : ℕ) → p < wires z →
    (M.is_open p ≡ false → f p ≡ 0) × (M.is_open p ≡ true → Distance z.k M.net p (f p))

-- The step does not stall, and it lowers the sum of the distances. There is no step exactly if no reference is open.
abbrev pub DrainIs : {Core Pokes Entry : Type 0} → Sizes → Program Core Pokes Entry → Machine Core →
    Option (Step Pokes) → Type 0
DrainIs z P M None = (p : ℕ) → M.is_open p ≡ false
DrainIs z P M (Some st) = ((step z P M st).outcome ≡ Stalled → ⊥)
    × ((f g : ℕ → ℕ) → AreDistances z M f → AreDistances z (step z P M st).machine g →
    total g (wires z) < total f (wires z))

-- the steps of a drain: until none is named, and at most n
unfoldable pub drain_steps : {Core Pokes Entry : Type 0} → Sizes → Program Core Pokes Entry → ℕ → Machine Core →
    List (Step Pokes)
drain_steps z P zero M = []
drain_steps z P (suc n) M =
    elim (drain_step z M) [ Some st ↦ st ∷ drain_steps z P n (step z P M st).machine | None ↦ [] ]

-- the greatest sum of distances
abbrev pub drain_bound : Sizes → ℕ
drain_bound z = wires z * (2 * z.k + 2)

-- ---- for every program and every steady machine

module _ (Core Pokes Entry : Type 0) where
  -- Each open reference has a distance, and the sum of the distances is bounded.
  abbrev pub DistancesAreThere : Type 0
  DistancesAreThere = (z : Sizes) (P : Program Core Pokes Entry) (M : Machine Core) (role : ℕ → Role) →
      Steady z P M role → (f : ℕ → ℕ) × AreDistances z M f

  abbrev pub DistancesAreBounded : Type 0
  DistancesAreBounded = (z : Sizes) (P : Program Core Pokes Entry) (M : Machine Core) (role : ℕ → Role) (f : ℕ → ℕ) →
      Steady z P M role → AreDistances z M f
      → total f (wires z) ≤ drain_bound z

  -- The next step of a drain does not stall and lowers the sum. There is none exactly if no reference is open.
  abbrev pub DrainGoesOn : Type 0
  DrainGoesOn = (z : Sizes) (P : Program Core Pokes Entry) (M : Machine Core) (role : ℕ → Role) → Steady z P M role →
      z.r < z.c → DrainIs z P M (drain_step z M)

  abbrev pub IdleMachinesHaveNoDrainStep : Type 0
  IdleMachinesHaveNoDrainStep = (z : Sizes) (P : Program Core Pokes Entry) (M : Machine Core) (role : ℕ → Role) →
      Steady z P M role → IsIdle z M
      → drain_step {Pokes = Pokes} z M ≡ None

  -- So a drain ends idle, after at most as many steps as the bound.
  abbrev pub DrainEndsIdle : Type 0
  DrainEndsIdle = (z : Sizes) (P : Program Core Pokes Entry) (M : Machine Core) (role : ℕ → Role) → Steady z P M role →
      z.r < z.c →
      IsIdle z (machine_after z P (drain_steps z P (drain_bound z) M) M)
      × (length (drain_steps z P (drain_bound z) M) ≤ drain_bound z)
