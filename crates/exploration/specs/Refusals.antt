-- Why a search gives up.
use Rattle.std.specs.Prelude.{◌≡◌, ℕ, List, Contains, length}
use Rattle.flat_machine.specs.State.{FlatState}
use Rattle.local_reduction.specs.Results.{FinalResult}
use Rattle.state_search.specs.declared.refusal.Refusal.{Refusal as SearchRefusal}
use Rattle.state_search.specs.declared.refusal.Refusal.TheVariants as search
use Rattle.state_search.specs.state_store.declared.refusal.MoveRefusal.{MoveRefusal}
use Rattle.state_search.specs.state_store.declared.refusal.MoveRefusal.TheVariants as move
use Rattle.state_search.specs.state_store.declared.state_tables.Extent.{Extent}
use Rattle.state_search.specs.state_store.StateTables.{TableLists}
use Rattle.exploration.specs.declared.refusal.GivenUp.{GivenUp}
use Rattle.exploration.specs.declared.refusal.GivenUp.TheVariants as given_up
use Rattle.exploration.specs.declared.refusal.PartialResults.{PartialResults}
use Rattle.exploration.specs.declared.refusal.Refusal.{Refusal}
use Rattle.exploration.specs.declared.refusal.Refusal.TheVariants as refusal
use Rattle.exploration.specs.declared.refusal.SearchEnd.{SearchEnd}
use Rattle.exploration.specs.declared.refusal.SearchEnd.TheVariants as end
use Rattle.exploration.specs.Endings.{IsEnding, IsOnce}
use Rattle.exploration.specs.States.{ArePartial, IsGivenUp}

-- why a search without exchanges gives up
abbrev pub refused_by_search : SearchRefusal → Refusal
refused_by_search search.Memory = refusal.Memory
refused_by_search search.States = refusal.States
refused_by_search search.Stopped = refusal.Stopped
refused_by_search search.Alone = refusal.Alone
refused_by_search search.Asks = refusal.Memory

-- why a search gives up, without its results
abbrev pub why_of : GivenUp → Refusal
why_of given_up.Memory = refusal.Memory
why_of (given_up.States found) = refusal.States
why_of (given_up.Stopped found) = refusal.Stopped
why_of given_up.Alone = refusal.Alone

-- how a search ends if a move cannot be made
abbrev pub stop_of_move : MoveRefusal → SearchEnd
stop_of_move move.Memory = end.GivenUp given_up.Memory
stop_of_move move.Alone = end.GivenUp given_up.Alone
stop_of_move move.Asks = end.Asks

-- The results that a search has found before it gave up have this property.
abbrev pub IfFound : (PartialResults → Type 0) → GivenUp → Type 0
IfFound P given_up.Memory = Unit {0}
IfFound P (given_up.States found) = P found
IfFound P (given_up.Stopped found) = P found
IfFound P given_up.Alone = Unit {0}

-- The results that a search has found are results of the flat machine.
abbrev pub HasFoundSome : (IsResult : FinalResult → Type 0) → FlatState → GivenUp → Type 0
HasFoundSome IsResult m =
    IfFound (λ found. ArePartial IsResult m found.classes.items found.results.items found.states)

-- A search ends in this way because it gives up for a reason, with what it has found, or because a processor asks for
-- its own number.
abbrev pub IsSearchEnd : (IsResult : FinalResult → Type 0) → FlatState → (limit : ℕ) → SearchEnd → Type 0
IsSearchEnd IsResult m limit end.Asks = Unit {0}
IsSearchEnd IsResult m limit (end.GivenUp g) = IsGivenUp m limit (why_of g) × HasFoundSome IsResult m g

-- ---- the rows that a search has found

module _ (e : Extent) (classes : List ℕ) (t : TableLists) (rows : List (List ℕ)) where
  -- The results are those of the rows in which no processor runs, and there are as many states as rows.
  pub record AreOfRows (found : PartialResults) : Type 0 where
    pub same : found.classes.items ≡ classes
    pub sound : (r : FinalResult) → Contains found.results.items r → IsEnding e classes t rows r
    pub once : IsOnce found.results.items
    pub states : found.states ≡ length rows

  -- A search that gives up for this reason ends in this way, with the results of the rows, if it has any.
  abbrev pub IsEndAtRows : SearchRefusal → SearchEnd → Type 0
  IsEndAtRows why end.Asks = Unit {0}
  IsEndAtRows why (end.GivenUp given_up.Memory) = Unit {0}
  IsEndAtRows why (end.GivenUp (given_up.States found)) = (why ≡ search.States) × AreOfRows found
  IsEndAtRows why (end.GivenUp (given_up.Stopped found)) = (why ≡ search.Stopped) × AreOfRows found
  IsEndAtRows why (end.GivenUp given_up.Alone) = Unit {0}
