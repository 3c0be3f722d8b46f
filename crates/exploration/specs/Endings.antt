-- The results of the states in which no processor runs.
use Rattle.std.specs.Prelude.{◌≡◌, ◌⊎◌, ℕ, ◌<◌, Bool, true, false, List, [], ◌∷◌, ◌++◌, Some, Contains, length}
use Rattle.std.specs.Prelude.{slice_get, slice_index, slice_index_or}
use Rattle.local_reduction.specs.Closing.{MacroState}
use Rattle.local_reduction.specs.Exchanging.{AreAlike}
use Rattle.local_reduction.specs.Results.{FinalResult, HaveStopped, StandsFor, result_at}
use Rattle.exploration.specs.Results.{IsMachineResult}
use Rattle.machine_steps.specs.Machines.{MachineLists}
use Rattle.state_search.specs.state_store.declared.state_tables.Extent.{Extent}
use Rattle.state_search.specs.Ends.{AreRows}
use Rattle.state_search.specs.state_store.StateTables.{TableLists}
use Rattle.state_search.specs.Search.{state_at}

-- One of the results stands for this one.
abbrev pub IsStoodFor : (classes : List ℕ) → List FinalResult → FinalResult → Type 0
IsStoodFor classes results q = (r : FinalResult) × Contains results r × StandsFor classes r q

-- The result is an exchange of the result of a row in which no processor runs.
pub record IsEnding (e : Extent) (classes : List ℕ) (t : TableLists) (rows : List (List ℕ))
    (r : FinalResult) : Type 0 where
  pub place : ℕ
  pub within : place < length rows
  pub stopped : HaveStopped (state_at e t rows place)
  pub is : StandsFor classes (result_at (state_at e t rows place)) r

-- In the state at a place no processor runs, and the result is an exchange of its result.
pub record IsResultOf (classes : List ℕ) (state : ℕ → MacroState) (place : ℕ) (r : FinalResult) : Type 0 where
  pub stopped : HaveStopped (state place)
  pub is : StandsFor classes (result_at (state place)) r

-- One of the first `count` results stands for this one.
abbrev pub IsStoodForBefore : (classes : List ℕ) → List FinalResult → (count : ℕ) → FinalResult → Type 0
IsStoodForBefore classes results count q =
    (j : ℕ) × (j < count) × (r : FinalResult) × (slice_get results j ≡ Some r) × StandsFor classes r q

-- The results come in the order of the first `count` states. Each is the result of a later state than those before it,
-- and those before it stand for the results of all earlier states in which no processor runs.
pub record AreInOrder (classes : List ℕ) (state : ℕ →
    MacroState) (count : ℕ) (results : List FinalResult) : Type 0 where
  pub places : List ℕ
  pub all : length places ≡ length results
  pub within : (i : ℕ) → i < length places → slice_index places i < count
  pub each : (i : ℕ) (r : FinalResult) → slice_get results i ≡ Some r →
      IsResultOf classes state (slice_index places i) r
  pub rising : (i j : ℕ) → i < j → j < length places → slice_index places i < slice_index places j
  pub first : (i k : ℕ) → i < length places → k < slice_index places i → HaveStopped (state k) →
      IsStoodForBefore classes results i (result_at (state k))

-- No result is listed twice.
abbrev pub IsOnce : List FinalResult → Type 0
IsOnce results =
    (i j : ℕ) (r : FinalResult) → slice_get results i ≡ Some r → slice_get results j ≡ Some r → i ≡ j

-- The result is appended, unless it was there before.
abbrev pub IsAdded : (old : List FinalResult) → FinalResult → (new : List FinalResult) → Type 0
IsAdded old r new = (Contains old r × (new ≡ old)) ⊎ ((Contains old r → ⊥) × (new ≡ old ++ r ∷ []))

-- The rows, each of `count` numbers, mean states in which no processor runs, and the results are theirs, in the same
-- order.
pub record AreShown (count : ℕ) (e : Extent) (t : TableLists) (rows : List (List ℕ))
    (results : List FinalResult) : Type 0 where
  pub all : length rows ≡ length results
  pub wide : (i : ℕ) → i < length rows → length (slice_index_or rows i []) ≡ count
  pub are : AreRows e t rows
  pub stopped : (i : ℕ) → i < length rows → HaveStopped (state_at e t rows i)
  pub each : (i : ℕ) → i < length rows → slice_get results i ≡ Some (result_at (state_at e t rows i))

-- The row is appended if it is new, and was there before otherwise.
abbrev pub IsRowAdded : (old : List (List ℕ)) → (row : List ℕ) → (is_new : Bool) → (new : List (List ℕ)) → Type 0
IsRowAdded old row true new = (Contains old row → ⊥) × (new ≡ old ++ row ∷ [])
IsRowAdded old row false new = Contains old row × (new ≡ old)

-- If no processor runs in the state, an exchange of its result is added; otherwise the results stay the same.
abbrev pub IsEndingAdded : (classes : List ℕ) → MacroState → (old new : List FinalResult) → Type 0
IsEndingAdded classes s old new =
    (HaveStopped s × (r : FinalResult) × StandsFor classes (result_at s) r × IsAdded old r new)
    ⊎ ((HaveStopped s → ⊥) × (new ≡ old))

-- ---- the results of a machine

-- The results stand for exactly the results of the machine.
pub record AreResultsUpTo (m : MachineLists) (classes : List ℕ) (results : List FinalResult) : Type 0 where
  pub sound : (r q : FinalResult) → Contains results r → StandsFor classes r q → IsMachineResult m q
  pub complete : (q : FinalResult) → IsMachineResult m q → IsStoodFor classes results q

-- Each processor has a class of its own, so a result stands only for itself.
abbrev pub AreSingle : (processors : ℕ) → (classes : List ℕ) → Type 0
AreSingle processors classes = (j k : ℕ) → k < processors → AreAlike classes j k → j ≡ k
