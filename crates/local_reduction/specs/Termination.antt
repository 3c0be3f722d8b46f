-- Whether the schedules of the flat machine end. Schedules are orders of turns.
use Rattle.std.specs.Prelude.{◌≡◌, ◌⊎◌, ℕ, zero, suc, ◌<◌, ◌≤◌, true, List, [], ◌∷◌, Contains, Some, length}
use Rattle.std.specs.Prelude.{slice_get}
use Rattle.flat_machine.specs.declared.setting.Setting.{Setting}
use Rattle.flat_machine.specs.declared.poke.Entry.TheVariants as entry
use Rattle.flat_machine.specs.State.{FlatState, Processor, is_running, setting_of}
use Rattle.flat_machine.specs.Turns.{turn_of}
use Rattle.flat_machine.specs.Flat.{flat_run, flat_events, flat_step}
use Rattle.local_reduction.specs.LocalStates.{IsReference, LocalState, turns}
use Rattle.local_reduction.specs.Closing.{HasSpinner, HasStopped, IsMove, MacroState, MayMove}

-- ---- ends

-- Some order of turns leads to a state in which all processors have stopped.
abbrev pub CanEnd : FlatState → Type 0
CanEnd m = (order : List ℕ) × HasStopped (flat_run m (turns order))

-- No order of turns leads to a state in which all processors have stopped.
abbrev pub CannotEnd : FlatState → Type 0
CannotEnd m = (order : List ℕ) → HasStopped (flat_run m (turns order)) → ⊥

-- After any turns, an end can still be reached.
abbrev pub CanAlwaysEnd : FlatState → Type 0
CanAlwaysEnd m = (order : List ℕ) → CanEnd (flat_run m (turns order))

-- Some turns lead to a state from which no end can be reached.
abbrev pub CanBeStuck : FlatState → Type 0
CanBeStuck m = (order : List ℕ) × CannotEnd (flat_run m (turns order))

-- ---- how long schedules are

-- the number of these turns that are taken: those of processors that run, each of which shows an event
abbrev pub turns_taken : FlatState → (order : List ℕ) → ℕ
turns_taken m order = length (flat_events m (turns order))

-- Every schedule ends: at most this many turns are taken, in any order.
abbrev pub EveryScheduleEnds : FlatState → Type 0
EveryScheduleEnds m = (most : ℕ) × ((order : List ℕ) → turns_taken m order ≤ most)

-- Some schedule never ends: for each number, at least that many turns are taken in some order.
abbrev pub SomeScheduleNeverEnds : FlatState → Type 0
SomeScheduleNeverEnds m = (count : ℕ) → (order : List ℕ) × (count ≤ turns_taken m order)

-- ---- fair schedules

-- the flat machine after the first turns of an endless schedule, which names a processor for each turn
abbrev pub after_turns : FlatState → (schedule : ℕ → ℕ) → (count : ℕ) → FlatState
after_turns m schedule zero = m
after_turns m schedule (suc n) = flat_step (after_turns m schedule n) (entry.Processor (schedule n))

-- The processor runs after this many turns.
abbrev pub RunsAfter : FlatState → (schedule : ℕ → ℕ) → (count processor : ℕ) → Type 0
RunsAfter m schedule n k =
    (p : Processor) × (slice_get (after_turns m schedule n).processors k ≡ Some p) × (is_running p.status ≡ true)

-- An endless schedule is fair if each processor that runs after some turns takes one of the turns that follow.
abbrev pub IsFair : FlatState → (schedule : ℕ → ℕ) → Type 0
IsFair m schedule = (n k : ℕ) → RunsAfter m schedule n k → (i : ℕ) × (n ≤ i) × (schedule i ≡ k)

-- Every fair schedule ends: after some of its turns all processors have stopped.
abbrev pub EveryFairScheduleEnds : FlatState → Type 0
EveryFairScheduleEnds m =
    (schedule : ℕ → ℕ) → IsFair m schedule → (n : ℕ) × HasStopped (after_turns m schedule n)

-- After none of the turns of the schedule have all processors stopped.
abbrev pub NeverEnds : FlatState → (schedule : ℕ → ℕ) → Type 0
NeverEnds m schedule = (n : ℕ) → HasStopped (after_turns m schedule n) → ⊥

-- Some fair schedule never ends.
abbrev pub SomeFairScheduleNeverEnds : FlatState → Type 0
SomeFairScheduleNeverEnds m = (schedule : ℕ → ℕ) × IsFair m schedule × NeverEnds m schedule

-- ---- lassos by which fair schedules never end

-- The turn that follows this many turns is a reference.
pub record RefersAfter (m : FlatState) (schedule : ℕ → ℕ) (count : ℕ) : Type 0 where
  pub processor : Processor
  pub there : slice_get (after_turns m schedule count).processors (schedule count) ≡ Some processor
  pub runs : is_running processor.status ≡ true
  pub refers :
      IsReference (turn_of (setting_of (after_turns m schedule count) (schedule count))
      (after_turns m schedule count).code processor)

-- The references of the schedule, which are endless, are made by these processors, one after another: `made` says how
-- many of its first turns are references.
pub record AreReferencesOf (m : FlatState) (schedule mover : ℕ → ℕ) : Type 0 where
  pub made : ℕ → ℕ
  pub none : made 0 ≡ 0
  pub refers : (n : ℕ) → RefersAfter m schedule n → (schedule n ≡ mover (made n)) × (made (suc n) ≡ suc (made n))
  pub alone : (n : ℕ) → (RefersAfter m schedule n → ⊥) → made (suc n) ≡ made n
  pub endless : (i : ℕ) → (n : ℕ) × (made n ≡ i)

-- the processor at a place of the stem with the cycle after it again and again
abbrev pub mover_of : (stem cycle : List ℕ) → (place : ℕ) → ℕ
mover_of (k ∷ stem) cycle zero = k
mover_of (k ∷ stem) cycle (suc i) = mover_of stem cycle i
mover_of [] (k ∷ cycle) zero = k
mover_of [] (k ∷ cycle) (suc i) = mover_of cycle (k ∷ cycle) i
mover_of [] [] i = 0

-- Some fair schedule never ends in which the processors of the stem make one reference each, in this order, and then
-- those of the cycle, again and again.
abbrev pub IsEndlessBy : FlatState → (stem cycle : List ℕ) → Type 0
IsEndlessBy m stem cycle =
    (schedule : ℕ → ℕ) × IsFair m schedule × NeverEnds m schedule × AreReferencesOf m schedule (mover_of stem cycle)

module _ (at : ℕ → Setting) (code : List ℕ) (kept : LocalState → LocalState) where
  -- Moves of these processors, one after another, lead from s to t, through states in which no processor spins.
  abbrev pub IsWalk : (s : MacroState) → (movers : List ℕ) → (t : MacroState) → Type 0
  IsWalk s [] t = s ≡ t
  IsWalk s (k ∷ ks) t = (HasSpinner at code s → ⊥) × (u : MacroState) × IsMove at code kept s k u × IsWalk u ks t

  -- The walk leads from the state back to it, and each processor that may move in the state makes one of its moves.
  pub record IsFairCycle (s : MacroState) (movers : List ℕ) : Type 0 where
    pub some : 0 < length movers
    pub back : IsWalk s movers s
    pub fair : (k : ℕ) → MayMove at code s k → Contains movers k

-- ---- ranks by which fair schedules end

-- States are numbers below a count. Each has a rank, and a processor that is its helper.
module _ (at : ℕ → Setting) (code : List ℕ) (kept : LocalState → LocalState) (state : ℕ → MacroState) (count : ℕ)
    (rank helper : ℕ → ℕ) where
  -- A move of processor k leads from state i to one of lesser rank or, unless k is the helper of i, to one of the same
  -- rank with the same helper.
  pub record IsLed (i k : ℕ) : Type 0 where
    pub next : ℕ
    pub within : next < count
    pub move : IsMove at code kept (state i) k (state next)
    pub lesser :
        (rank next < rank i) ⊎ ((rank next ≡ rank i) × (helper next ≡ helper i) × (k ≡ helper i → ⊥))

  -- No processor spins in state i, its helper can move if any processor can, and each move leads to such a state. So
  -- the rank never rises, and falls as soon as the helper moves.
  pub record IsFairlyRanked (i : ℕ) : Type 0 where
    pub spins : HasSpinner at code (state i) → ⊥
    pub moves : (k : ℕ) → MayMove at code (state i) k → MayMove at code (state i) (helper i)
    pub leads : (k : ℕ) → MayMove at code (state i) k → IsLed i k

  abbrev pub AreFairlyRanked : Type 0
  AreFairlyRanked = (i : ℕ) → i < count → IsFairlyRanked i
