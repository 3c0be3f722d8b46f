-- What processors have shown.
use Rattle.std.specs.Prelude.{ℕ, ◌+◌, ◌≤◌, All, List, [], Option, Some, None, slice_get, slice_set}
use Rattle.flat_machine.specs.declared.event.Retired as retirement
pub use Rattle.flat_machine.specs.Turns.{with_byte}
use Rattle.steps.specs.declared.step.Step.{Step}
use Rattle.steps.specs.declared.step.Step.TheVariants.{Turn}
use Rattle.steps.specs.declared.step.Outcome.{Outcome}
use Rattle.steps.specs.declared.step.Outcome.TheVariants.{Retired}

-- How many instructions a processor has retired, and the bytes that it wrote to the console.
pub record ShownBy : Type 0 where
  pub retired : ℕ
  pub console : List ℕ

-- a processor that has shown nothing
abbrev pub nothing_shown : ShownBy
nothing_shown = record { retired = 0; console = [] }

-- what has been shown after one more instruction has retired
abbrev pub with_retired : ShownBy → (out : Option ℕ) → ShownBy
with_retired s out = record { retired = s.retired + 1; console = with_byte s.console out }

-- What the processors of a machine have shown in the `observed` steps.
pub record TallyState : Type 0 where
  pub shown : List ShownBy
  pub observed : ℕ

-- No processor has retired more instructions than there were steps.
abbrev pub AreFew : TallyState → Type 0
AreFew t = All (λ (s : ShownBy). s.retired ≤ t.observed) t.shown

abbrev pub retired_at : List ShownBy → ℕ → (out : Option ℕ) → Option ShownBy → List ShownBy
retired_at shown p out None = shown
retired_at shown p out (Some s) = slice_set shown p (with_retired s out)

-- what has been shown after a step with this outcome
abbrev pub shown_after : List ShownBy → Step → Outcome → List ShownBy
shown_after shown (Turn p) (Retired retired) = retired_at shown p retired.out (slice_get shown p)
shown_after shown _ _ = shown

abbrev pub noted_after : TallyState → Step → Outcome → TallyState
noted_after t s o = record { shown = shown_after t.shown s o; observed = t.observed + 1 }
