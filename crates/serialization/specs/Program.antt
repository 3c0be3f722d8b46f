-- What processors do, as far as the network and the memory need to know it.
use Rattle.std.specs.Prelude.{◌≡◌, ℕ, ◌%◌, ◌<◌, ◌^◌, Bool, true}
use Rattle.network_theory.specs.phi_algebra.declared.phi.Phi.{Phi}
use Rattle.network_theory.specs.phi_algebra.Functions.{IsInRange}
use Rattle.network_theory.specs.omega_wires.Wires as wiring
use Rattle.network_theory.specs.messages.Network.{Sizes, wires}

-- the kind of a processor's next turn
pub data Kind : Type 0 where
  -- it doesn't run
  Rests : Kind
  -- it needs no shared word: a local instruction, or a stop
  Alone : Kind
  -- it refers to a shared word
  Refers : Kind

-- what an entry of a serial order says
pub data Content (Pokes : Type 0) : Type 0 where
  TurnOf : (processor : ℕ) → Content Pokes
  PokeOf : Pokes → Content Pokes

-- The entries of a serial order. There is one for each turn of a processor and one for each poke, and its content says
-- so.
pub record Entries (Pokes Entry : Type 0) : Type 0 where
  pub turn : (processor : ℕ) → Entry
  pub poke : Pokes → Entry
  pub content : Entry → Content Pokes
  pub of_turn : (p : ℕ) → content (turn p) ≡ TurnOf p
  pub of_poke : (q : Pokes) → content (poke q) ≡ PokeOf q

-- A core is all that a processor has of its own, with its past if wanted. Each function takes the processor's number
-- and its core. Pokes are writes from outside, of any kind.
pub record Program (Core Pokes Entry : Type 0) : Type 0 where
  pub kind : ℕ → Core → Kind
  -- the core after a turn that needs no shared word
  pub alone : ℕ → Core → Core
  -- a reference: its word, its function, and the core after it, given the word that it found
  pub word_of : ℕ → Core → ℕ
  pub phi_of : ℕ → Core → Phi
  pub retire : ℕ → Core → ℕ → Core
  -- pokes: which are lawful with these cores, and what they leave
  pub is_lawful : (ℕ → Core) → Pokes → Bool
  pub poked_core : Pokes → (ℕ → Core) → ℕ → Core
  pub poked_mem : Pokes → (ℕ → ℕ) → ℕ → ℕ
  -- the form in which the serial order is reported
  pub entry : Entries Pokes Entry

-- Good cores refer by functions in range and stay good, and lawful pokes keep them so.
pub record Keeps {Core Pokes Entry : Type 0} (P : Program Core Pokes Entry) (good : ℕ → Core → Type 0) : Type 0 where
  pub phi : (p : ℕ) (g : Core) → good p g → P.kind p g ≡ Refers → IsInRange (P.phi_of p g)
  pub alone : (p : ℕ) (g : Core) → good p g → P.kind p g ≡ Alone → good p (P.alone p g)
  pub retire : (p : ℕ) (g : Core) (v : ℕ) → good p g → P.kind p g ≡ Refers → v < 2 ^ 32 → good p (P.retire p g v)
  pub poked_core : (q : Pokes) (core : ℕ → Core) → P.is_lawful core q ≡ true → ((p : ℕ) → good p (core p)) → (p : ℕ) →
      good p (P.poked_core q core p)
  pub poked_mem : (q : Pokes) (core : ℕ → Core) (mem : ℕ → ℕ) → P.is_lawful core q ≡ true →
      ((a : ℕ) → mem a < 2 ^ 32) → (a : ℕ) → P.poked_mem q mem a < 2 ^ 32

-- ---- the references of all processors

abbrev pub own_of : {Core Pokes Entry : Type 0} → Program Core Pokes Entry → (ℕ → Core) → ℕ → Phi
own_of P core p = P.phi_of p (core p)

abbrev pub word_of : {Core Pokes Entry : Type 0} → Program Core Pokes Entry → (ℕ → Core) → ℕ → ℕ
word_of P core p = P.word_of p (core p)

-- the path of p's reference: words are interleaved over the modules
abbrev pub path_of : {Core Pokes Entry : Type 0} → Sizes → Program Core Pokes Entry → (ℕ → Core) → ℕ → ℕ → ℕ
path_of z P core p d = wiring.path z.k p (P.word_of p (core p) % wires z) d
