-- Serialization: the machine is the flat machine that takes the serial order.
use Rattle.std.specs.Prelude.{◌≡◌, ℕ, ◌+◌, ◌^◌, ◌<◌, ◌≤◌, Bool, true, false, ◌==◌, ◌||◌, List, [], ◌∷◌, ◌++◌, length}
use Rattle.std.specs.Prelude.{Some, None, if◌then◌else◌}
use Rattle.network_theory.specs.messages.Network.{Sizes}
use Rattle.network_theory.specs.Roles.{Role}
use Rattle.serialization.specs.Program.{Program, Keeps}
use Rattle.serialization.specs.Machine.{Machine, Step, Turn, Outcome, Issued, Retired, Served, step, IsIdle}
use Rattle.serialization.specs.Order.{group_after, groups_after, Passed, FlatMachine, flat_run, flat_of, ran, outcomes}
use Rattle.serialization.specs.Order.{serial_order}
use Rattle.serialization.specs.Steadiness.{Steady}

-- Where a run may begin: at a steady and idle machine, with good cores and words of 32 bits.
pub record Begins {Core Pokes Entry : Type 0} (z : Sizes) (P : Program Core Pokes Entry) (good : ℕ → Core →
    Type 0) (M : Machine Core) : Type 0 where
  pub role : ℕ → Role
  pub steady : Steady z P M role
  pub idle : IsIdle z M
  pub good_cores : (p : ℕ) → good p (M.core p)
  pub words : (a : ℕ) → M.mem a < 2 ^ 32

-- The entry of p at this place of the order finds this word: the one in the flat machine after the entries before it.
pub record FindsAt {Core Pokes Entry : Type 0} (P : Program Core Pokes Entry) (first : FlatMachine Core)
    (order : List Entry) (core : ℕ → Core)
    (p place word : ℕ) : Type 0 where
  pub before : List Entry
  pub later : List Entry
  pub is : order ≡ before ++ P.entry.turn p ∷ later
  pub at_place : length before ≡ place
  pub found : word ≡ (flat_run P first before).mem (P.word_of p (core p))

-- At every moment, after any steps, the shared words are the flat machine's after the order so far. A processor whose
-- reference is not served, or that has none open, is as in the flat machine. A processor whose reference is served is
-- one reference behind it: with the word that its entry of the order found, it becomes what it is there, and that word
-- is the value of its reply.
pub record AtTheMoment {Core Pokes Entry : Type 0} (z : Sizes) (P : Program Core Pokes Entry)
    (first : FlatMachine Core) (h : Passed Core Entry) : Type 0 where
  pub words : (a : ℕ) → h.machine.mem a ≡ (flat_run P first h.order).mem a
  pub shut : (p : ℕ) → h.machine.is_open p ≡ false → h.served p ≡ None
  pub unserved : (p : ℕ) → h.served p ≡ None → (flat_run P first h.order).core p ≡ h.machine.core p
  pub served : (p place : ℕ) → h.served p ≡ Some place
      → (word : ℕ) × FindsAt P first h.order h.machine.core p place word
      × ((flat_run P first h.order).core p ≡ P.retire p (h.machine.core p) word)
  pub retires : (p value : ℕ) → (step z P h.machine (Turn p)).outcome ≡ Retired p value
      → (place : ℕ) × (h.served p ≡ Some place) × FindsAt P first h.order h.machine.core p place value

-- So if no reference is open, the machine is the flat machine.
abbrev pub IsFlat : {Core : Type 0} → Machine Core → FlatMachine Core → Type 0
IsFlat M F = ((a : ℕ) → M.mem a ≡ F.mem a) × ((p : ℕ) → M.core p ≡ F.core p)

-- ---- each reference is served once

unfoldable pub is_among : ℕ → List ℕ → Bool
is_among p [] = false
is_among p (j ∷ js) = (j == p) || is_among p js

-- 1 if this outcome serves p, and otherwise 0
abbrev pub serves : {Pokes : Type 0} → (ℕ → List ℕ) → ℕ → Outcome Pokes → ℕ
serves group p (Served leader) = if is_among p (group leader) then 1 else 0
serves group p _ = 0

-- how often p is served
unfoldable pub times_served : {Pokes : Type 0} → (ℕ → List ℕ) → ℕ → List (Outcome Pokes) → ℕ
times_served group p [] = 0
times_served group p (o ∷ os) = serves group p o + times_served (group_after group o) p os

abbrev pub IsRetirement : {Pokes : Type 0} → ℕ → Outcome Pokes → Type 0
IsRetirement p (Retired q value) = q ≡ p
IsRetirement p _ = ⊥

unfoldable pub HasNotRetired : {Pokes : Type 0} → ℕ → List (Outcome Pokes) → Type 0
HasNotRetired p [] = Unit {0}
HasNotRetired p (o ∷ os) = (IsRetirement p o → ⊥) × HasNotRetired p os

-- From its issue until it retires, a reference is served at most once. If it then retires, it was served exactly once.
pub record ServedOnce {Pokes : Type 0} (before between rest : List (Outcome Pokes)) (p : ℕ) : Type 0 where
  pub at_most : times_served (groups_after (λ q. []) (before ++ Issued p ∷ [])) p between ≤ 1
  pub exactly : (value : ℕ) (later : List (Outcome Pokes)) → rest ≡ Retired p value ∷ later
      → times_served (groups_after (λ q. []) (before ++ Issued p ∷ [])) p between ≡ 1

-- So it is for each issue among the outcomes.
abbrev pub EachServedOnce : {Pokes : Type 0} → List (Outcome Pokes) → Type 0
EachServedOnce {Pokes} all = (before between rest : List (Outcome Pokes)) (p : ℕ) →
    all ≡ before ++ (Issued p ∷ (between ++ rest)) → HasNotRetired p between
    → ServedOnce before between rest p

-- ---- the theorem, for every program and all lists of steps

module _ (Core Pokes Entry : Type 0) where
  -- A core is good if this function says so.
  abbrev pub Holds : (ℕ → Core → Bool) → ℕ → Core → Type 0
  Holds good p g = good p g ≡ true

  -- This holds of every run of a program that keeps its cores good, from a machine at which a run may begin.
  abbrev pub OfEachRun : (Sizes → Program Core Pokes Entry → Machine Core → List (Step Pokes) → Type 0) → Type 0
  OfEachRun Says = (z : Sizes) (P : Program Core Pokes Entry) (good : ℕ → Core →
      Bool) (M : Machine Core) (steps : List (Step Pokes)) → Keeps P (Holds good)
      → Begins z P (Holds good) M → Says z P M steps

  abbrev pub IsSerializedAtEveryMoment : Type 0
  IsSerializedAtEveryMoment = OfEachRun (λ z P M steps. AtTheMoment z P (flat_of M) (ran z P M steps))

  abbrev pub IsSerializedFromIdleToIdle : Type 0
  IsSerializedFromIdleToIdle =
      OfEachRun (λ z P M steps. IsIdle z (ran z P M steps).machine →
      IsFlat (ran z P M steps).machine (flat_run P (flat_of M) (ran z P M steps).order))

  -- The order is the serial order of the outcomes.
  abbrev pub OrderIsOfOutcomes : Type 0
  OrderIsOfOutcomes = (z : Sizes) (P : Program Core Pokes Entry) (M : Machine Core) (steps : List (Step Pokes))
      → (ran z P M steps).order ≡ serial_order P.entry (λ p. []) (outcomes z P steps M)

  abbrev pub ReferencesAreServedOnce : Type 0
  ReferencesAreServedOnce = OfEachRun (λ z P M steps. EachServedOnce (outcomes z P steps M))
