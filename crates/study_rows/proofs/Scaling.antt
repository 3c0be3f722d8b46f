-- The step of an axis, among the powers from one on.
use Rattle.std.proofs.Common.{◌≡◌, ℕ, ◌+◌, ◌<◌, List, Option, None, Some, drop, length, sym, ap, ◌∙◌}
use Rattle.std.specs.Prelude.{slice_index, unwrap_or}
use Rattle.std.proofs.lemmas.List.{drop_more}
use Rattle.study_rows.specs.Scales.{step_at, step_in}

module _ (powers : List ℕ) (i number : ℕ) (within : i < length powers) where
  -- The step is that of the next power, if it has one, and else that of the powers after it.
  at_next : (found : Option ℕ) → step_at (slice_index powers i) number ≡ found →
      step_in (drop i powers) number ≡ unwrap_or found (step_in (drop (i + 1) powers) number)
  unfolding step_in
  at_next found is =
      ap (λ ps. step_in ps number) (drop_more powers i 0 within) ∙ ap (λ o. unwrap_or o (step_in (drop (i + 1) powers) number)) is

  -- The step of the next power is the step.
  pub step_found : (step : ℕ) → step_at (slice_index powers i) number ≡ Some step → step_in (drop i powers) number ≡ step
  step_found step is = at_next (Some step) is

  -- If the next power has no step, the step is that of the powers after it.
  pub step_passed : step_at (slice_index powers i) number ≡ None → step_in (drop (i + 1) powers) number ≡ step_in (drop i powers) number
  step_passed is = sym (at_next None is)
