-- Steps of a round that are skipped.
use Rattle.std.specs.Prelude.{◌≡◌, ℕ, ◌+◌, ◌≤◌, ◌<◌, [], Some, slice_get}
use Rattle.steps.specs.declared.step.Step.{Step}
use Rattle.steps.specs.declared.step.Outcome.TheVariants.{Stalled}
use Rattle.machine_steps.specs.machine_theory.Steps.{outcome_of}
use Rattle.machine_steps.specs.Machines.{MachineLists, machine_of}
use Rattle.schedules.specs.Rounds.{place_of, round, row_start}

-- The step at a place of the round stalls.
abbrev pub IsQuiet : MachineLists → (place : ℕ) → Type 0
IsQuiet m place = (s : Step) → slice_get (round m.config.k) place ≡ Some s →
    outcome_of m.config m.code (machine_of m (λ p. [])) s ≡ Stalled

-- The steps from one place up to another stall.
abbrev pub AreQuiet : MachineLists → (from to : ℕ) → Type 0
AreQuiet m from to = (place : ℕ) → from ≤ place → place < to → IsQuiet m place

-- The steps of a row from one wire up to another stall.
abbrev pub AreQuietInRow : MachineLists → (row from to : ℕ) → Type 0
AreQuietInRow m row from to = AreQuiet m (place_of m.config.k row from) (place_of m.config.k row to)

-- The steps of a row from a wire on stall.
abbrev pub IsRestQuiet : MachineLists → (row from : ℕ) → Type 0
IsRestQuiet m row from = AreQuiet m (place_of m.config.k row from) (row_start m.config.k (row + 1))

-- The step is the next one in the round after `passed` steps. The steps skipped before it stall.
pub record IsNext (m : MachineLists) (passed : ℕ) (s : Step) (passed' : ℕ) : Type 0 where
  pub place : ℕ
  pub there : slice_get (round m.config.k) place ≡ Some s
  pub reached : passed ≤ place
  pub next : passed' ≡ place + 1
  pub quiet : AreQuiet m passed place
