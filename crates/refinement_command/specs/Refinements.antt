-- All results of a machine, and when a machine refines another.
use Rattle.std.specs.Prelude.{◌≡◌, ◌⊎◌, ℕ, List, Bool, Option, Contains}
use Rattle.flat_machine.specs.declared.config.Config.{Config}
use Rattle.flat_machine.specs.State.{FlatState}
use Rattle.elf_image.specs.Images.{ImageContents}
use Rattle.machine_steps.specs.Machines.{MachineLists}
use Rattle.machine_steps.specs.Openings.{flat_state}
use Rattle.machine_steps.specs.Runs.{IsOpening}
use Rattle.command_io.specs.declared.fault.Fault.{Fault}
use Rattle.command_io.specs.declared.fault.Fault.TheVariants as fault
use Rattle.command_io.specs.Files.{IsFaultOfImage, IsFaultOfSize, IsImageOf}
use Rattle.exploration.specs.Endings.{IsOnce}
use Rattle.exploration.specs.Results.{IsMachineResult}
use Rattle.exploration.specs.States.{IsGivenUp}
use Rattle.exploration.specs.declared.refusal.Refusal.{Refusal}
use Rattle.exploration.specs.declared.refusal.Refusal.TheVariants as search
use Rattle.exploration.specs.local_reduction.Results.{FinalResult}
use Rattle.observed_results.specs.Outcomes.{outcome_of}

-- ---- refinement

-- Each result of the machine has the outcome of a result of the other.
abbrev pub Refines : (marks : List Bool) → (m other : MachineLists) → Type 0
Refines marks m other = (r : FinalResult) → IsMachineResult m r →
    (q : FinalResult) × IsMachineResult other q × (outcome_of marks r ≡ outcome_of marks q)

-- ---- all results

-- These are the final results of the machine, each once.
pub record AreResults (m : MachineLists) (results : List FinalResult) : Type 0 where
  pub sound : (r : FinalResult) → Contains results r → IsMachineResult m r
  pub complete : (r : FinalResult) → IsMachineResult m r → Contains results r
  pub once : IsOnce results

-- A machine of this size that opens on the image in a file, of whose bytes this is known, has these final results.
pub record HasResults (c : Config) (bytes : Option (List ℕ)) (results : List FinalResult) : Type 0 where
  pub image : ImageContents
  pub meant : IsImageOf c.shared_words bytes image
  pub opening : MachineLists
  pub opens : IsOpening c image opening
  pub all : AreResults opening results

-- ---- why results are not found

-- the fault that reports why a search gave up
abbrev pub fault_of_search : Refusal → Fault
fault_of_search search.Memory = fault.Memory
fault_of_search search.States = fault.States
fault_of_search search.Stopped = fault.Budget
fault_of_search search.Alone = fault.Alone

-- The search of a machine gives up: there are as many states as the limit, or more; or a processor ran alone for too
-- long, or there is no memory, of which no more is said.
abbrev pub IsNotSearched : FlatState → (limit : ℕ) → Fault → Type 0
IsNotSearched m limit f = (refusal : Refusal) × (f ≡ fault_of_search refusal) × IsGivenUp m limit refusal

-- A machine opens on the image, and its search gives up.
pub record IsGivenUpAt (c : Config) (limit : ℕ) (bytes : Option (List ℕ)) (f : Fault) : Type 0 where
  pub image : ImageContents
  pub meant : IsImageOf c.shared_words bytes image
  pub opening : MachineLists
  pub opens : IsOpening c image opening
  pub given_up : IsNotSearched (flat_state opening) limit f

-- Why the results are not found: the image is refused, the size is out of limits, or the search gives up.
abbrev pub IsNotFound : Config → (limit : ℕ) → (bytes : Option (List ℕ)) → Fault → Type 0
IsNotFound c limit bytes f =
    IsFaultOfImage c.shared_words bytes f ⊎ (IsFaultOfSize c f ⊎ IsGivenUpAt c limit bytes f)
