-- Steps that find no message stall.
use Rattle.std.proofs.Common.{◌≡◌, ℕ, suc, ◌+◌, ◌-◌, ◌*◌, ◌^◌, ◌<◌, ◌≤◌, false, [], Some, sym, ap, ◌∙◌, subst, arith}
use Rattle.std.specs.Prelude.{is_some, slice_get}
use Rattle.machine_steps.specs.omega_network.Networks.{net_of}
use Rattle.steps.specs.declared.step.Step.{Step}
use Rattle.steps.specs.declared.step.Step.TheVariants as step
use Rattle.steps.specs.declared.step.Outcome.{Outcome}
use Rattle.steps.specs.declared.step.Outcome.TheVariants.{Stalled}
use Rattle.machine_steps.specs.machine_theory.Steps.{outcome_of}
use Rattle.machine_steps.specs.Machines.{MachineLists, machine_of}
use Rattle.machine_steps.proofs.Lemmas.{down_stalls, none_there, serve_stalls, up_stalls}
use Rattle.schedules.specs.Rounds.{round}
use Rattle.schedules.proofs.Places.{up_at, serve_at, down_at}
use Rattle.schedules.specs.Skips.{IsQuiet}

-- ---- places of a round

module _ (m : MachineLists) (few : m.config.k ≤ 6) where
  abbrev k : ℕ
  k = m.config.k

  abbrev answer : Step → Outcome
  answer = outcome_of m.config m.code (machine_of m (λ p. []))

  quiet_by : (place : ℕ) (s : Step) → slice_get (round k) place ≡ Some s → answer s ≡ Stalled → IsQuiet m place
  quiet_by place s there e t found = (let is : s ≡ t = (let f = sym there ∙ found in cc) in ap answer (sym is) ∙ e)

  -- If a wire has no request before stage k - row, the step of the row at this wire stalls.
  pub up_quiet : (row w : ℕ) → 0 < row → row ≤ k → w < 2 ^ k → is_some (slice_get ((net_of m.network).requests (k - row) w) 0) ≡ false →
      IsQuiet m (row * 2 ^ k + w)
  up_quiet row w some at_most within none =
      quiet_by (row * 2 ^ k + w) (step.Up (k - row) w) (up_at k row w few (omega (arith, at_most)) within some at_most)
      (up_stalls m (k - row) w (none_there ((net_of m.network).requests (k - row) w) none))

  -- If a module has no request, the step of the row of services at its wire stalls.
  pub serve_quiet : (row w : ℕ) → row ≡ k + 1 → w < 2 ^ k → is_some (slice_get ((net_of m.network).requests k w) 0) ≡ false → IsQuiet m (row * 2 ^ k + w)
  serve_quiet row w is within none =
      quiet_by (row * 2 ^ k + w) (step.Serve w) (serve_at k row w few (omega (arith, is)) within is)
      (serve_stalls m w (none_there ((net_of m.network).requests k w) none))

  -- If a wire has no reply at depth row - (k + 1), the step of the row at this wire stalls.
  pub down_quiet : (row w : ℕ) → k + 1 < row → row < 2 * k + 2 → w < 2 ^ k → is_some (slice_get ((net_of m.network).replies (row - (k + 1)) w) 0) ≡ false →
      IsQuiet m (row * 2 ^ k + w)
  down_quiet row w behind at_most within none =
      let depth : row - (k + 1) ≡ suc (row - (k + 2)) = omega (arith, behind) in
      quiet_by (row * 2 ^ k + w) (step.Down (row - (k + 2)) w) (down_at k row w few at_most within behind)
      (down_stalls m (row - (k + 2)) w
      (none_there ((net_of m.network).replies (suc (row - (k + 2))) w)
      (subst (λ d. is_some (slice_get ((net_of m.network).replies d w) 0) ≡ false) depth none)))
