-- Laws of results up to exchanges.
use Rattle.std.specs.Prelude.{ℕ, ◌↔◌, List}
use Rattle.local_reduction.specs.Results.{FinalResult, StandsFor}
use Rattle.exploration.specs.Results.{IsMachineResult}
use Rattle.machine_steps.specs.Machines.{MachineLists}
use Rattle.exploration.specs.Endings.{AreResultsUpTo, IsStoodFor}

-- An exchange of processors of one class makes a result of the machine again a result of it.
abbrev pub ResultsAreClosedUnderExchange : Type 0
ResultsAreClosedUnderExchange =
    (m : MachineLists) (classes : List ℕ) (results : List FinalResult) (q p : FinalResult) →
    AreResultsUpTo m classes results → IsMachineResult m q → StandsFor classes q p → IsMachineResult m p

-- Results found with one list of classes stand for the same results as those found with any other list.
abbrev pub ExploringEitherWayStandsForTheSame : Type 0
ExploringEitherWayStandsForTheSame =
    (m : MachineLists) (classes others : List ℕ) (some more : List FinalResult) (q : FinalResult) →
    AreResultsUpTo m classes some → AreResultsUpTo m others more →
    IsStoodFor classes some q ↔ IsStoodFor others more q
