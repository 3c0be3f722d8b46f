-- The laws of closed sets.
use Rattle.std.specs.Prelude.{◌≡◌, ℕ, suc, ◌<◌, ◌≤◌, true, List, Some, length, slice_get, slice_index}
use Rattle.flat_machine.specs.declared.setting.Setting.{Setting}
use Rattle.flat_machine.specs.declared.event.Retired.{Retired}
use Rattle.flat_machine.specs.State.{FlatState, Processor, is_running}
use Rattle.flat_machine.specs.Turns.{Reaches, turn_of}
use Rattle.flat_machine.specs.Flat.{flat_run, flat_events}
use Rattle.local_reduction.specs.LocalStates.{LocalState, retire, alone, GoesOnFor, Spins, IsAtReference}
use Rattle.local_reduction.specs.LocalStates.{consoles_after}
use Rattle.local_reduction.specs.LocalStates.{turns}
use Rattle.local_reduction.specs.Closing.{IsForgetful, if_running, MacroState, gone, IsIn, IsMove, IsClosed}
use Rattle.local_reduction.specs.Closing.{HaveNoSpinner}
use Rattle.local_reduction.specs.Closing.{IsShort, IsWay, ReachesMacroState, IsKeptOf, AreAtReference, HasStopped}
use Rattle.local_reduction.specs.Termination.{turns_taken, AreFairlyRanked, EveryFairScheduleEnds, EveryScheduleEnds}
use Rattle.local_reduction.specs.Termination.{IsEndlessBy, IsFairCycle, IsWalk}
use Rattle.local_reduction.specs.Exchanging.{AskNot, NeverAsks, IsBeside, Exchange, IsExchanged, IsExchangeOf}
use Rattle.local_reduction.specs.Exchanging.{IsUniform}
use Rattle.local_reduction.specs.Exchanging.{IsMoveOfAny, IsClosedUpTo, IsShortUpTo, IsWayUpTo}

-- Let a closed set have the state that the flat machine reaches. For each order of turns after which all processors
-- have stopped, it also has what is kept of the flat machine then.
abbrev pub ClosedSetsContainAllFinalStates : Type 0
ClosedSetsContainAllFinalStates =
    (at : ℕ → Setting) (code : List ℕ) (kept : LocalState → LocalState) (states : List MacroState) (m : FlatState)
    (consoles : ℕ → List ℕ) (s : MacroState) (order : List ℕ) →
    IsForgetful at code kept → IsClosed at code kept states → IsIn states s →
    ReachesMacroState at code kept m consoles s →
    HasStopped (flat_run m (turns order)) →
    (t : MacroState) × IsIn states t
    × IsKeptOf kept (flat_run m (turns order)) (consoles_after consoles (flat_events m (turns order))) t

-- If no processor spins, no order of turns leaves a closed set: the state that the flat machine reaches is always
-- in it.
abbrev pub ClosedSetsAreNotLeft : Type 0
ClosedSetsAreNotLeft =
    (at : ℕ → Setting) (code : List ℕ) (kept : LocalState → LocalState) (states : List MacroState) (m : FlatState)
    (consoles : ℕ → List ℕ) (s : MacroState) (order : List ℕ) →
    IsForgetful at code kept → IsClosed at code kept states → HaveNoSpinner at code states → IsIn states s →
    ReachesMacroState at code kept m consoles s →
    (t : MacroState) × IsIn states t
    × ReachesMacroState at code kept (flat_run m (turns order))
    (consoles_after consoles (flat_events m (turns order))) t

-- Each state to which moves lead from there is what is kept of the flat machine after some order of turns. In it each
-- processor has stopped, is about to refer to a word, or spins. There are at least as many turns as moves.
abbrev pub MovesAreTurns : Type 0
MovesAreTurns =
    (at : ℕ → Setting) (code : List ℕ) (kept : LocalState → LocalState) (m : FlatState) (consoles : ℕ → List ℕ)
    (s : MacroState) (way : List (ℕ × MacroState)) (t : MacroState) →
    IsForgetful at code kept → ReachesMacroState at code kept m consoles s → IsWay at code kept s way t →
    (order : List ℕ)
    × IsKeptOf kept (flat_run m (turns order)) (consoles_after consoles (flat_events m (turns order))) t
    × AreAtReference at code (flat_run m (turns order))
    × ReachesMacroState at code kept (flat_run m (turns order))
    (consoles_after consoles (flat_events m (turns order))) t
    × (length way ≤ turns_taken m order)

-- A move can be made from any local state of which the state has what is kept.
abbrev pub MovesOfWhatIsKept : Type 0
MovesOfWhatIsKept =
    (at : ℕ → Setting) (code : List ℕ) (kept : LocalState → LocalState) (s : MacroState) (k : ℕ) (a : LocalState)
    (word : ℕ) (change : ℕ → ℕ) (after : ℕ → Processor × Retired) (count : ℕ) →
    IsForgetful at code kept → slice_get s.local_states k ≡ Some (kept a) → is_running a.processor.status ≡ true →
    turn_of (at k) code a.processor ≡ Reaches word change after →
    IsAtReference (at k) code (alone count (at k) code (retire a (after (slice_index s.shared word)))).processor →
    IsMove at code kept s k
    (gone s k (kept (alone count (at k) code (retire a (after (slice_index s.shared word)))))
    word (change (slice_index s.shared word)))

-- If turns alone, in each of which it goes on, bring a processor back to where it was, it spins.
abbrev pub WhatComesBackSpins : Type 0
WhatComesBackSpins =
    (s : Setting) (code : List ℕ) (a : LocalState) (count : ℕ) →
    GoesOnFor (suc count) s code a → alone (suc count) s code a ≡ a → Spins s code a.processor

-- If turns alone, in none of which it asks for its own number, bring a processor back to where it was, it never asks.
abbrev pub WhatComesBackNeverAsks : Type 0
WhatComesBackNeverAsks =
    (s : Setting) (code : List ℕ) (a : LocalState) (count : ℕ) →
    AskNot (suc count) s code a → alone (suc count) s code a ≡ a → NeverAsks s code a

-- If at most this many moves follow one another, every schedule ends.
abbrev pub ShortSchedulesEnd : Type 0
ShortSchedulesEnd =
    (at : ℕ → Setting) (code : List ℕ) (kept : LocalState → LocalState) (m : FlatState) (consoles : ℕ → List ℕ)
    (s : MacroState) (most : ℕ) →
    IsForgetful at code kept → ReachesMacroState at code kept m consoles s → IsShort at code kept most s →
    EveryScheduleEnds m

-- If states have ranks that never rise, and that fall as soon as the helper of a state moves, every fair schedule ends.
abbrev pub FairlyRankedSchedulesEnd : Type 0
FairlyRankedSchedulesEnd =
    (at : ℕ → Setting) (code : List ℕ) (kept : LocalState → LocalState) (state : ℕ → MacroState) (count : ℕ)
    (rank helper : ℕ → ℕ) (m : FlatState) (consoles : ℕ → List ℕ) →
    IsForgetful at code kept → 0 < count → ReachesMacroState at code kept m consoles (state 0) →
    AreFairlyRanked at code kept state count rank helper → EveryFairScheduleEnds m

-- If a walk leads to a fair cycle, some fair schedule never ends: its references are those of the walk, and then those
-- of the cycle, again and again.
abbrev pub FairCyclesNeverEnd : Type 0
FairCyclesNeverEnd =
    (at : ℕ → Setting) (code : List ℕ) (kept : LocalState → LocalState) (m : FlatState) (consoles : ℕ → List ℕ)
    (s : MacroState) (stem : List ℕ) (t : MacroState) (cycle : List ℕ) →
    IsForgetful at code kept → ReachesMacroState at code kept m consoles s → IsWalk at code kept s stem t →
    IsFairCycle at code kept t cycle → IsEndlessBy m stem cycle

-- The registers and the local memory of processors that have stopped can be forgotten.
abbrev pub StoppedAreForgotten : Type 0
StoppedAreForgotten = (at : ℕ → Setting) (code : List ℕ) → IsForgetful at code if_running

-- ---- up to exchanges

-- Turns alone that do not ask for the processor's own number are the same for any number.
abbrev pub NumbersAreNotAskedFor : Type 0
NumbersAreNotAskedFor =
    (s t : Setting) (code : List ℕ) (count : ℕ) (a : LocalState) →
    IsBeside s t → AskNot count s code a → alone count s code a ≡ alone count t code a

-- A move can be made from any local state of which the state has what is kept. If the processor, as long as it is alone
-- after the move, never asks for its own number, any processor of its class can make the move.
abbrev pub MovesAreOfAny : Type 0
MovesAreOfAny =
    (at : ℕ → Setting) (code : List ℕ) (kept : LocalState → LocalState) (classes : List ℕ) (s : MacroState) (k i : ℕ)
    (a : LocalState) (word : ℕ) (change : ℕ → ℕ) (after : ℕ → Processor × Retired) (count : ℕ) →
    IsForgetful at code kept → ((i j : ℕ) → IsBeside (at i) (at j)) →
    slice_get s.local_states k ≡ Some (kept a) → is_running a.processor.status ≡ true →
    turn_of (at i) code a.processor ≡ Reaches word change after →
    IsAtReference (at i) code (alone count (at i) code (retire a (after (slice_index s.shared word)))).processor →
    NeverAsks (at i) code (retire a (after (slice_index s.shared word))) →
    IsMoveOfAny at code kept classes s k
    (gone s k (kept (alone count (at i) code (retire a (after (slice_index s.shared word)))))
    word (change (slice_index s.shared word)))

-- Let a set be closed up to exchanges, and have a state an exchange of which the flat machine reaches. For each
-- order of turns after which all processors have stopped, it has a state of which an exchange is what is kept of the
-- flat machine then.
abbrev pub SetsClosedUpToContainAllFinalStates : Type 0
SetsClosedUpToContainAllFinalStates =
    (at : ℕ → Setting) (code : List ℕ) (kept : LocalState → LocalState) (classes : List ℕ) (states : List MacroState)
    (m : FlatState) (consoles : ℕ → List ℕ) (s u : MacroState) (order : List ℕ) →
    IsForgetful at code kept → IsClosedUpTo at code kept classes states → IsIn states s → IsExchangeOf classes s u →
    ReachesMacroState at code kept m consoles u → HasStopped (flat_run m (turns order)) →
    (t v : MacroState) × IsIn states t × IsExchangeOf classes t v
    × IsKeptOf kept (flat_run m (turns order)) (consoles_after consoles (flat_events m (turns order))) v

-- If no processor spins, no order of turns leaves such a set: the state that the flat machine reaches is always an
-- exchange of a state of the set.
abbrev pub SetsClosedUpToAreNotLeft : Type 0
SetsClosedUpToAreNotLeft =
    (at : ℕ → Setting) (code : List ℕ) (kept : LocalState → LocalState) (classes : List ℕ) (states : List MacroState)
    (m : FlatState) (consoles : ℕ → List ℕ) (s u : MacroState) (order : List ℕ) →
    IsForgetful at code kept → IsClosedUpTo at code kept classes states → HaveNoSpinner at code states →
    IsIn states s → IsExchangeOf classes s u →
    ReachesMacroState at code kept m consoles u →
    (t v : MacroState) × IsIn states t × IsExchangeOf classes t v
    × ReachesMacroState at code kept (flat_run m (turns order))
    (consoles_after consoles (flat_events m (turns order))) v

-- If moves up to exchanges lead from there to a state, some order of turns leads the flat machine to an exchange of it.
abbrev pub MovesUpToAreTurns : Type 0
MovesUpToAreTurns =
    (at : ℕ → Setting) (code : List ℕ) (kept : LocalState → LocalState) (classes : List ℕ) (m : FlatState)
    (consoles : ℕ → List ℕ) (s u : MacroState) (way : List (ℕ × MacroState)) (t : MacroState) →
    IsForgetful at code kept → IsExchangeOf classes s u → ReachesMacroState at code kept m consoles u →
    IsWayUpTo at code kept classes s way t →
    (order : List ℕ) × (v : MacroState) × IsExchangeOf classes t v
    × IsKeptOf kept (flat_run m (turns order)) (consoles_after consoles (flat_events m (turns order))) v
    × AreAtReference at code (flat_run m (turns order))
    × ReachesMacroState at code kept (flat_run m (turns order))
    (consoles_after consoles (flat_events m (turns order))) v
    × (length way ≤ turns_taken m order)

-- If processors of one class begin in equal states, some order of turns leads to each exchange of a state that is
-- reached.
abbrev pub EachExchangeIsReached : Type 0
EachExchangeIsReached =
    (at : ℕ → Setting) (code : List ℕ) (kept : LocalState → LocalState) (classes : List ℕ) (m : FlatState)
    (consoles : ℕ → List ℕ) (s : MacroState) (way : List (ℕ × MacroState)) (t : MacroState) (x : Exchange classes) →
    IsForgetful at code kept → IsUniform classes s → ReachesMacroState at code kept m consoles s →
    IsWayUpTo at code kept classes s way t →
    (order : List ℕ) × (v : MacroState) × IsExchanged x.place t v
    × IsKeptOf kept (flat_run m (turns order)) (consoles_after consoles (flat_events m (turns order))) v
    × AreAtReference at code (flat_run m (turns order))

-- If at most this many moves follow one another up to exchanges, every schedule ends.
abbrev pub ShortUpToSchedulesEnd : Type 0
ShortUpToSchedulesEnd =
    (at : ℕ → Setting) (code : List ℕ) (kept : LocalState → LocalState) (classes : List ℕ) (m : FlatState)
    (consoles : ℕ → List ℕ) (s : MacroState) (most : ℕ) →
    IsForgetful at code kept → ReachesMacroState at code kept m consoles s → IsShortUpTo at code kept classes most s →
    EveryScheduleEnds m
