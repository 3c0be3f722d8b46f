-- The states between references that a machine reaches.
use Rattle.std.specs.Prelude.{ℕ, ◌≤◌, Bool, List, [], Contains}
use Rattle.flat_machine.specs.declared.setting.Setting.{Setting}
use Rattle.flat_machine.specs.State.{FlatState}
use Rattle.local_reduction.specs.Closing.{MacroState, ReachesMacroState}
use Rattle.local_reduction.specs.Live.{HasAllLive}
use Rattle.local_reduction.specs.Forgetting.{kept_by}
use Rattle.local_reduction.specs.Results.{FinalResult, StandsFor}
use Rattle.state_graph.specs.declared.termination.Termination.{Termination}
use Rattle.state_graph.specs.Paths.{IsBreadthFirst}
use Rattle.state_graph.specs.Termination.{IsTrueOf}
use Rattle.state_graph.specs.Search.{AreReached, AreSuccessors}
use Rattle.state_search.specs.Ends.{AreDifferentStates}
use Rattle.exploration.specs.Endings.{AreInOrder, IsOnce}
use Rattle.exploration.specs.declared.refusal.Refusal.{Refusal}
use Rattle.exploration.specs.declared.refusal.Refusal.TheVariants as refusal

-- The flat machine reaches the first of these states, and moves lead from there to each of them, up to exchanges of
-- processors of one class. No two are equal. The contents of registers that are not live are no part of a state.
pub record AreStates (m : FlatState) (classes : List ℕ) (count : ℕ) : Type 0 where
  pub at : ℕ → Setting
  pub code : List ℕ
  pub live : List (List Bool)
  pub right : HasAllLive code live
  pub state : ℕ → MacroState
  pub reaches : ReachesMacroState at code (kept_by live) m (λ k. []) (state 0)
  pub reached : AreReached at code (kept_by live) classes state count
  pub different : AreDifferentStates count state

-- These are all states, except those reached only through a state in which a processor spins, with their successors,
-- in breadth-first order. The termination is theirs, and so are the results, in the same order.
pub record AreAllStates (m : FlatState) (classes : List ℕ) (results : List FinalResult) (termination : Termination)
    (count : ℕ) : Type 0 where
  pub states : AreStates m classes count
  pub moves : List (List ℕ)
  pub successors : AreSuccessors states.at states.code (kept_by states.live) classes states.state count moves
  pub breadth : IsBreadthFirst moves
  pub fact : IsTrueOf moves termination
  pub order : AreInOrder classes states.state count results

-- There are at least `least` states.
pub record HasManyStates (m : FlatState) (least : ℕ) : Type 0 where
  pub classes : List ℕ
  pub count : ℕ
  pub many : least ≤ count
  pub states : AreStates m classes count

-- If a search gives up because of too many states, there are at least `limit` states.
abbrev pub IsGivenUp : FlatState → (limit : ℕ) → Refusal → Type 0
IsGivenUp m limit refusal.Memory = Unit {0}
IsGivenUp m limit refusal.States = HasManyStates m limit
IsGivenUp m limit refusal.Stopped = Unit {0}
IsGivenUp m limit refusal.Alone = Unit {0}

-- The results stand only for results of a machine, and none is listed twice. The machine has at least this many states.
pub record ArePartial (IsResult : FinalResult → Type 0) (m : FlatState) (classes : List ℕ) (results : List FinalResult)
    (states : ℕ) : Type 0 where
  pub sound : (r q : FinalResult) → Contains results r → StandsFor classes r q → IsResult q
  pub once : IsOnce results
  pub counted : AreStates m classes states
