-- What a list observes of steps.
use Rattle.std.specs.Prelude.{◌≡◌, ℕ, List, [], ◌∷◌, ◌++◌}
use Rattle.steps.specs.declared.step.Step.{Step}

-- The list has one more step, at its end, and the same capacity.
abbrev pub IsListed : (old : List Step) (capacity : ℕ) → Step → (new : List Step) (capacity' : ℕ) → Type 0
IsListed old capacity s new capacity' = (new ≡ old ++ s ∷ []) × (capacity' ≡ capacity)
