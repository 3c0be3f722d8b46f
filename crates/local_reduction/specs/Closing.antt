-- States between references, moves from one to the next, and sets of states that are closed under moves.
use Rattle.std.specs.Prelude.{◌≡◌, ◌⊎◌, ℕ, zero, suc, true, false, List, [], ◌∷◌, Some, length, slice_get, slice_set}
use Rattle.std.specs.Prelude.{slice_index, if◌then◌else◌}
use Rattle.flat_machine.specs.declared.setting.Setting.{Setting}
use Rattle.flat_machine.specs.declared.event.Retired.{Retired}
use Rattle.flat_machine.specs.declared.event.Cause.{Cause}
use Rattle.flat_machine.specs.State.{FlatState, Processor, is_running, setting_of}
use Rattle.flat_machine.specs.Turns.{Turn, Retires, Reaches, Stops, turn_of}
use Rattle.local_reduction.specs.LocalStates.{LocalState, retire, stopped_by, alone, IsReference, GoesOn, IsAtReference}

-- ---- what is forgotten

-- Two turns go the same way, and leave the same of their local states, except for what is forgotten.
abbrev pub IsAlike : (kept : LocalState → LocalState) → LocalState → LocalState → Turn → Turn → Type 0
IsAlike kept a b (Retires p r) (Retires q o) = kept (retire a (p, r)) ≡ kept (retire b (q, o))
IsAlike kept a b (Reaches w c f) (Reaches v d g) =
    (w ≡ v) × (c ≡ d) × ((x : ℕ) → kept (retire a (f x)) ≡ kept (retire b (g x)))
IsAlike kept a b (Stops c) (Stops d) = c ≡ d
IsAlike kept a b _ _ = ⊥

-- What is forgotten of a local state is never asked for again: a turn goes the same way without it.
pub record IsForgetful (at : ℕ → Setting) (code : List ℕ) (kept : LocalState → LocalState) : Type 0 where
  pub running : (a : LocalState) → is_running (kept a).processor.status ≡ is_running a.processor.status
  pub turn : (k : ℕ) (a : LocalState) → is_running a.processor.status ≡ true →
      IsAlike kept (kept a) a (turn_of (at k) code (kept a).processor) (turn_of (at k) code a.processor)
  pub stopped : (a : LocalState) (cause : Cause) → kept (stopped_by (kept a) cause) ≡ kept (stopped_by a cause)
  pub once : (a : LocalState) → kept (kept a) ≡ kept a

-- a local state whole if the processor runs, and without registers and local memory if it has stopped
abbrev pub if_running : LocalState → LocalState
if_running a =
    if is_running a.processor.status then a
    else record a { processor = record a.processor { registers = []; local = [] } }

-- ---- states

-- what is kept of each processor, between references, and the shared words
pub record MacroState : Type 0 where
  pub local_states : List LocalState
  pub shared : List ℕ

abbrev pub IsIn : List MacroState → MacroState → Type 0
IsIn states s = (i : ℕ) × (slice_get states i ≡ Some s)

-- s with one local state and one word written
abbrev pub gone : MacroState → (k : ℕ) → LocalState → (word x : ℕ) → MacroState
gone s k a word x = record { local_states = slice_set s.local_states k a; shared = slice_set s.shared word x }

-- One reference of processor k, and what k does alone after it, lead from s to t.
pub record IsMove (at : ℕ → Setting) (code : List ℕ) (kept : LocalState →
    LocalState) (s : MacroState) (k : ℕ) (t : MacroState)
    : Type 0 where
  pub local_state : LocalState
  pub there : slice_get s.local_states k ≡ Some local_state
  pub runs : is_running local_state.processor.status ≡ true
  pub word : ℕ
  pub change : ℕ → ℕ
  pub after : ℕ → Processor × Retired
  pub turn : turn_of (at k) code local_state.processor ≡ Reaches word change after
  -- it takes this many turns alone
  pub count : ℕ
  pub at_reference :
      IsAtReference (at k) code
      (alone count (at k) code (retire local_state (after (slice_index s.shared word)))).processor
  pub leaves :
      t ≡ gone s k (kept (alone count (at k) code (retire local_state (after (slice_index s.shared word)))))
      word (change (slice_index s.shared word))

-- A processor runs, and its next turn is no reference. If each processor is at its reference, this one spins, and so no
-- order of turns stops all of them.
pub record HasSpinner (at : ℕ → Setting) (code : List ℕ) (s : MacroState) : Type 0 where
  pub processor : ℕ
  pub local_state : LocalState
  pub there : slice_get s.local_states processor ≡ Some local_state
  pub goes_on : GoesOn (at processor) code local_state.processor

-- No processor spins in any state of the set.
abbrev pub HaveNoSpinner : (at : ℕ → Setting) → (code : List ℕ) → List MacroState → Type 0
HaveNoSpinner at code states = (s : MacroState) → IsIn states s → HasSpinner at code s → ⊥

-- For each state of the set in which no processor spins, the set also has the states to which a move of each of its
-- processors leads.
abbrev pub IsClosed : (at : ℕ → Setting) → (code : List ℕ) → (kept : LocalState → LocalState) → List MacroState → Type 0
IsClosed at code kept states =
    (s : MacroState) (k : ℕ) (a : LocalState) →
    IsIn states s → slice_get s.local_states k ≡ Some a → is_running a.processor.status ≡ true →
    IsReference (turn_of (at k) code a.processor) →
    HasSpinner at code s ⊎ ((t : MacroState) × IsMove at code kept s k t × IsIn states t)

-- The processor runs, and its next turn is a reference.
pub record MayMove (at : ℕ → Setting) (code : List ℕ) (s : MacroState) (k : ℕ) : Type 0 where
  pub local_state : LocalState
  pub there : slice_get s.local_states k ≡ Some local_state
  pub runs : is_running local_state.processor.status ≡ true
  pub refers : IsReference (turn_of (at k) code local_state.processor)

-- From this state at most this many moves follow one another, and no processor spins.
abbrev pub IsShort : (at : ℕ → Setting) → (code : List ℕ) → (kept : LocalState → LocalState) → (most : ℕ) →
    MacroState → Type 0
IsShort at code kept zero s = (HasSpinner at code s → ⊥) × ((k : ℕ) → MayMove at code s k → ⊥)
IsShort at code kept (suc n) s =
    (HasSpinner at code s → ⊥)
    × ((k : ℕ) → MayMove at code s k → (t : MacroState) × IsMove at code kept s k t × IsShort at code kept n t)

-- Moves lead from s to t: each is made by the processor listed, and leads to the state beside it.
abbrev pub IsWay :
    (at : ℕ → Setting) → (code : List ℕ) → (kept : LocalState → LocalState) →
    (s : MacroState) → List (ℕ × MacroState) → (t : MacroState) → Type 0
IsWay at code kept s [] t = s ≡ t
IsWay at code kept s ((k, u) ∷ way) t = IsMove at code kept s k u × IsWay at code kept u way t

-- ---- states of the flat machine

-- the local state of a processor that has printed these bytes
abbrev pub local_state_of : Processor → List ℕ → LocalState
local_state_of p console = record { processor = p; console = console }

-- The state is what is kept of the flat machine, whose processors have printed these bytes, after each processor has
-- taken some number of turns alone.
pub record ReachesMacroState (at : ℕ → Setting) (code : List ℕ) (kept : LocalState → LocalState) (m : FlatState)
    (consoles : ℕ → List ℕ) (s : MacroState) : Type 0 where
  pub settings : (k : ℕ) → setting_of m k ≡ at k
  pub code_is : m.code ≡ code
  pub shared : s.shared ≡ m.shared
  pub all : length s.local_states ≡ length m.processors
  pub each : (k : ℕ) (p : Processor) → slice_get m.processors k ≡ Some p →
      (n : ℕ) × (slice_get s.local_states k ≡ Some (kept (alone n (at k) code (local_state_of p (consoles k)))))
      × IsAtReference (at k) code (alone n (at k) code (local_state_of p (consoles k))).processor

-- The state is what is kept of the flat machine, whose processors have printed these bytes.
pub record IsKeptOf (kept : LocalState → LocalState) (m : FlatState) (consoles : ℕ →
    List ℕ) (s : MacroState) : Type 0 where
  pub shared : s.shared ≡ m.shared
  pub all : length s.local_states ≡ length m.processors
  pub each : (k : ℕ) (p : Processor) → slice_get m.processors k ≡ Some p →
      slice_get s.local_states k ≡ Some (kept (local_state_of p (consoles k)))

-- Each processor has stopped, or its next turn is a reference, or it spins.
abbrev pub AreAtReference : (at : ℕ → Setting) → (code : List ℕ) → FlatState → Type 0
AreAtReference at code m = (k : ℕ) (p : Processor) → slice_get m.processors k ≡ Some p → IsAtReference (at k) code p

-- Each processor has stopped.
abbrev pub HasStopped : FlatState → Type 0
HasStopped m = (k : ℕ) (p : Processor) → slice_get m.processors k ≡ Some p → is_running p.status ≡ false
