-- The law of results.
use Rattle.std.specs.Prelude.{◌↔◌}
use Rattle.machine_steps.specs.Machines.{MachineLists, IsIdle, IsMachine}
use Rattle.machine_steps.specs.Openings.{flat_state}
use Rattle.local_reduction.specs.Results.{FinalResult, IsFlatResult}
use Rattle.exploration.specs.Results.{IsMachineResult}

-- A machine in which no reference is open has exactly the results of its flat machine.
abbrev pub ResultsAreThoseOfTheFlatMachine : Type 0
ResultsAreThoseOfTheFlatMachine =
    (m : MachineLists) (r : FinalResult) → IsMachine m → IsIdle m → IsMachineResult m r ↔ IsFlatResult (flat_state m) r
