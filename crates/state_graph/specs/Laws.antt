-- What states that are found up to exchanges say of the flat machine.
use Rattle.std.specs.Prelude.{◌≡◌, ℕ, ◌<◌, true, List, [], Some, slice_get}
use Rattle.local_reduction.specs.flat_machine.declared.setting.Setting.{Setting}
use Rattle.local_reduction.specs.flat_machine.State.{FlatState, Processor, is_running, setting_of}
use Rattle.local_reduction.specs.flat_machine.Turns.{turn_of}
use Rattle.local_reduction.specs.flat_machine.Flat.{flat_run, flat_events}
use Rattle.local_reduction.specs.LocalStates.{LocalState, IsReference, Spins, turns}
use Rattle.local_reduction.specs.Closing.{AreAtReference, MacroState, HasSpinner, IsForgetful, ReachesMacroState}
use Rattle.local_reduction.specs.Exchanging.{IsUniform}
use Rattle.local_reduction.specs.Results.{FinalResult, IsFlatResult, HaveStopped, StandsFor, result_at, result_of}
use Rattle.local_reduction.specs.Results.{local_state_result}
use Rattle.local_reduction.specs.Termination.{CanAlwaysEnd, CanBeStuck, EveryScheduleEnds, SomeScheduleNeverEnds}
use Rattle.state_graph.specs.declared.termination.Termination.{Termination}
use Rattle.state_graph.specs.declared.termination.Termination.TheVariants as termination_claim
use Rattle.state_graph.specs.Termination.{IsTrueOf}
use Rattle.state_graph.specs.Search.{AreSuccessors, AreReached}

-- This is true of the schedules of the flat machine.
abbrev pub IsTerminationOf : FlatState → Termination → Type 0
IsTerminationOf m termination_claim.Always = EveryScheduleEnds m
IsTerminationOf m termination_claim.Possible = SomeScheduleNeverEnds m × CanAlwaysEnd m
IsTerminationOf m (termination_claim.Deadlock states first) = CanBeStuck m

-- What is kept of a local state has the same result.
abbrev pub KeepsResults : (kept : LocalState → LocalState) → Type 0
KeepsResults kept = (a : LocalState) → local_state_result (kept a) ≡ local_state_result a

-- What the successors of the states say about schedules is true of each flat machine that reaches the first state.
abbrev pub SuccessorsDecideTermination : Type 0
SuccessorsDecideTermination =
    (at : ℕ → Setting) (code : List ℕ) (kept : LocalState → LocalState) (classes : List ℕ) (state : ℕ → MacroState)
    (count : ℕ) (moves : List (List ℕ)) (m : FlatState) (consoles : ℕ → List ℕ) (termination_claim : Termination) →
    IsForgetful at code kept → AreSuccessors at code kept classes state count moves →
    AreReached at code kept classes state count → ReachesMacroState at code kept m consoles (state 0) →
    IsTrueOf moves termination_claim → IsTerminationOf m termination_claim

-- For each result of the flat machine there is a found state whose result stands for it.
abbrev pub EachResultIsStoodFor : Type 0
EachResultIsStoodFor =
    (at : ℕ → Setting) (code : List ℕ) (kept : LocalState → LocalState) (classes : List ℕ) (state : ℕ → MacroState)
    (count : ℕ) (moves : List (List ℕ)) (m : FlatState) (q : FinalResult) →
    IsForgetful at code kept → KeepsResults kept → AreSuccessors at code kept classes state count moves →
    ReachesMacroState at code kept m (λ k. []) (state 0) → IsFlatResult m q →
    (i : ℕ) × (i < count) × HaveStopped (state i) × StandsFor classes (result_at (state i)) q

-- All results for which the result of a found state stands are results of the flat machine, if processors of one class
-- are in equal states in the first state.
abbrev pub AllStoodForAreResults : Type 0
AllStoodForAreResults =
    (at : ℕ → Setting) (code : List ℕ) (kept : LocalState → LocalState) (classes : List ℕ) (state : ℕ → MacroState)
    (count : ℕ) (m : FlatState) (i : ℕ) (q : FinalResult) →
    IsForgetful at code kept → KeepsResults kept → AreReached at code kept classes state count →
    IsUniform classes (state 0) → ReachesMacroState at code kept m (λ k. []) (state 0) → i < count →
    HaveStopped (state i) →
    StandsFor classes (result_at (state i)) q → IsFlatResult m q

-- ---- states between references

-- what the flat machine has left after turns in this order: each processor's pc, status and console, and all words
abbrev pub left_after : FlatState → (order : List ℕ) → FinalResult
left_after m order = result_of (flat_run m (turns order)) (flat_events m (turns order))

-- Each processor has stopped, or its next turn is a reference.
abbrev pub IsBetweenReferences : FlatState → Type 0
IsBetweenReferences n = (k : ℕ) (p : Processor) → slice_get n.processors k ≡ Some p → is_running p.status ≡ true →
    IsReference (turn_of (setting_of n k) n.code p)

-- Some processor spins.
abbrev pub SomeSpins : FlatState → Type 0
SomeSpins n = (k : ℕ) × (p : Processor) × (slice_get n.processors k ≡ Some p) × Spins (setting_of n k) n.code p

-- If no processor spins in a found state, then for each state between references that turns reach there is a found
-- state of which it is an exchange, as far as results show.
abbrev pub EachStateIsStoodFor : Type 0
EachStateIsStoodFor =
    (at : ℕ → Setting) (code : List ℕ) (kept : LocalState → LocalState) (classes : List ℕ) (state : ℕ → MacroState)
    (count : ℕ) (moves : List (List ℕ)) (m : FlatState) (order : List ℕ) →
    IsForgetful at code kept → KeepsResults kept → AreSuccessors at code kept classes state count moves →
    ReachesMacroState at code kept m (λ k. []) (state 0) →
    ((i : ℕ) → i < count → HasSpinner at code (state i) → ⊥) → IsBetweenReferences (flat_run m (turns order)) →
    (i : ℕ) × (i < count) × StandsFor classes (result_at (state i)) (left_after m order)

-- Some order of turns leads to an exchange of each found state, as far as results show. Then each processor has
-- stopped, is about to refer to a word, or spins.
abbrev pub EachFoundStateIsReached : Type 0
EachFoundStateIsReached =
    (at : ℕ → Setting) (code : List ℕ) (kept : LocalState → LocalState) (classes : List ℕ) (state : ℕ → MacroState)
    (count : ℕ) (m : FlatState) (i : ℕ) →
    IsForgetful at code kept → KeepsResults kept → AreReached at code kept classes state count →
    ReachesMacroState at code kept m (λ k. []) (state 0) → i < count →
    (order : List ℕ) × StandsFor classes (result_at (state i)) (left_after m order)
    × AreAtReference (setting_of (flat_run m (turns order))) (flat_run m (turns order)).code (flat_run m (turns order))

-- If a processor spins in a found state, one spins after some order of turns.
abbrev pub EachSpinnerIsReached : Type 0
EachSpinnerIsReached =
    (at : ℕ → Setting) (code : List ℕ) (kept : LocalState → LocalState) (classes : List ℕ) (state : ℕ → MacroState)
    (count : ℕ) (m : FlatState) (i : ℕ) →
    IsForgetful at code kept → AreReached at code kept classes state count →
    ReachesMacroState at code kept m (λ k. []) (state 0) → i < count → HasSpinner at code (state i) →
    (order : List ℕ) × SomeSpins (flat_run m (turns order))
