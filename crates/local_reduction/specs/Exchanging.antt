-- Exchanges of processors that are alike, and sets of states that are closed under moves up to exchanges. Such a set
-- needs only one of the states that are exchanges of one another. In model checking this is symmetry reduction.
use Rattle.std.specs.Prelude.{◌≡◌, ◌⊎◌, ℕ, zero, suc, true, List, [], ◌∷◌, Ok, Some, slice_get}
use Rattle.rv_table.specs.declared.insn.Insn.TheVariants.{Ecall}
use Rattle.flat_machine.specs.declared.setting.Setting.{Setting}
use Rattle.flat_machine.specs.State.{Processor, is_running}
use Rattle.flat_machine.specs.Effects.{register_of}
use Rattle.flat_machine.specs.Turns.{fetched, turn_of}
use Rattle.local_reduction.specs.LocalStates.{LocalState, alone_once, IsReference}
use Rattle.local_reduction.specs.Closing.{MacroState, IsIn, IsMove, MayMove, HasSpinner}

-- ---- the own number

-- The next turn asks for the processor's own number.
abbrev pub Asks : (code : List ℕ) → Processor → Type 0
Asks code p = (fetched code p.pc ≡ Ok Ecall) × (register_of p.registers 17 ≡ 2)

-- None of this many turns alone asks for the processor's own number.
abbrev pub AskNot : (count : ℕ) → Setting → (code : List ℕ) → LocalState → Type 0
AskNot zero s code a = Unit {0}
AskNot (suc n) s code a =
    (is_running a.processor.status ≡ true → Asks code a.processor → ⊥) × AskNot n s code (alone_once s code a)

-- No turn alone ever asks for the processor's own number.
abbrev pub NeverAsks : Setting → (code : List ℕ) → LocalState → Type 0
NeverAsks s code a = (count : ℕ) → AskNot count s code a

-- The settings are of one machine, but for the processors' numbers.
pub record IsBeside (s t : Setting) : Type 0 where
  pub processors : s.processors ≡ t.processors
  pub shared_words : s.shared_words ≡ t.shared_words

-- ---- exchanges

-- The processors are of one class. The list has the class of each.
abbrev pub AreAlike : (classes : List ℕ) → (j k : ℕ) → Type 0
AreAlike classes j k = slice_get classes j ≡ slice_get classes k

-- Each processor takes the place of one of its class, and each place is taken.
pub record Exchange (classes : List ℕ) : Type 0 where
  pub place : ℕ → ℕ
  pub taker : ℕ → ℕ
  pub taken : (i : ℕ) → place (taker i) ≡ i
  pub takes : (k : ℕ) → taker (place k) ≡ k
  pub alike : (k : ℕ) → AreAlike classes (place k) k

-- State t is s with each processor in the place that it takes.
pub record IsExchanged (place : ℕ → ℕ) (s t : MacroState) : Type 0 where
  pub shared : t.shared ≡ s.shared
  pub each : (k : ℕ) → slice_get t.local_states k ≡ slice_get s.local_states (place k)

-- State t is an exchange of s, of processors of one class.
abbrev pub IsExchangeOf : (classes : List ℕ) → MacroState → MacroState → Type 0
IsExchangeOf classes s t = (x : Exchange classes) × IsExchanged x.place s t

-- Processors of one class are in equal states.
abbrev pub IsUniform : (classes : List ℕ) → MacroState → Type 0
IsUniform classes s = (j k : ℕ) → AreAlike classes j k → slice_get s.local_states j ≡ slice_get s.local_states k

-- ---- moves up to exchanges

-- The same move would lead from s to t, whichever processor of its class were at place k.
abbrev pub IsMoveOfAny :
    (at : ℕ → Setting) → (code : List ℕ) → (kept : LocalState → LocalState) → (classes : List ℕ) →
    MacroState → ℕ → MacroState → Type 0
IsMoveOfAny at code kept classes s k t = (j : ℕ) → AreAlike classes j k → IsMove (λ i. at j) code kept s k t

-- A move of processor k, or of one of its class in an equal state, leads from s to an exchange of t.
pub record IsMoveUpTo (at : ℕ → Setting) (code : List ℕ) (kept : LocalState →
    LocalState) (classes : List ℕ) (s : MacroState)
    (k : ℕ) (t : MacroState) : Type 0 where
  pub mover : ℕ
  pub alike : AreAlike classes mover k
  pub same : slice_get s.local_states mover ≡ slice_get s.local_states k
  pub left : MacroState
  pub move : IsMoveOfAny at code kept classes s mover left
  pub exchange : IsExchangeOf classes left t

-- For each state of the set in which no processor spins, the set also has the states to which a move of each of its
-- processors leads, up to exchanges.
abbrev pub IsClosedUpTo :
    (at : ℕ → Setting) → (code : List ℕ) → (kept : LocalState → LocalState) → (classes : List ℕ) → List MacroState →
    Type 0
IsClosedUpTo at code kept classes states =
    (s : MacroState) (k : ℕ) (a : LocalState) →
    IsIn states s → slice_get s.local_states k ≡ Some a → is_running a.processor.status ≡ true →
    IsReference (turn_of (at k) code a.processor) →
    HasSpinner at code s ⊎ ((t : MacroState) × IsMoveUpTo at code kept classes s k t × IsIn states t)

-- From this state at most this many moves follow one another, up to exchanges, and no processor spins.
abbrev pub IsShortUpTo :
    (at : ℕ → Setting) → (code : List ℕ) → (kept : LocalState → LocalState) → (classes : List ℕ) →
    (most : ℕ) → MacroState → Type 0
IsShortUpTo at code kept classes zero s = (HasSpinner at code s → ⊥) × ((k : ℕ) → MayMove at code s k → ⊥)
IsShortUpTo at code kept classes (suc n) s =
    (HasSpinner at code s → ⊥)
    × ((k : ℕ) → MayMove at code s k →
    (t : MacroState) × IsMoveUpTo at code kept classes s k t × IsShortUpTo at code kept classes n t)

-- Moves up to exchanges lead from s to t: each is made by the processor listed, and leads to the state beside it.
abbrev pub IsWayUpTo :
    (at : ℕ → Setting) → (code : List ℕ) → (kept : LocalState → LocalState) → (classes : List ℕ) →
    (s : MacroState) → List (ℕ × MacroState) → (t : MacroState) → Type 0
IsWayUpTo at code kept classes s [] t = s ≡ t
IsWayUpTo at code kept classes s ((k, u) ∷ way) t =
    IsMoveUpTo at code kept classes s k u × IsWayUpTo at code kept classes u way t
