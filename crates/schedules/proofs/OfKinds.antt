-- Rows by their kinds: their steps, and that those that find no message stall.
use Rattle.std.proofs.Common.{◌≡◌, ℕ, ◌+◌, ◌-◌, ◌*◌, ◌^◌, ◌<◌, ◌≤◌, false, Some, refl, ◌∙◌, subst, ap, arith}
use Rattle.std.specs.Prelude.{is_some, slice_get}
use Rattle.steps.specs.declared.step.Step.TheVariants as step
use Rattle.machine_steps.specs.omega_network.Networks.{net_of}
use Rattle.machine_steps.specs.Machines.{MachineLists}
use Rattle.schedules.specs.Rounds.{round}
use Rattle.schedules.specs.Skips.{IsQuiet}
use Rattle.schedules.proofs.Places.{turn_at, up_at, serve_at, down_at}
use Rattle.schedules.proofs.Quiet.{up_quiet, down_quiet}

module _ (k wire : ℕ) (few : k ≤ 6) (within : wire < 2 ^ k) where
  -- In row 0 of a round, the step at a wire is the turn of its processor.
  pub turn_there : slice_get (round k) (0 * 2 ^ k + wire) ≡ Some (step.Turn wire)
  turn_there = turn_at k 0 wire few (omega arith) within refl

  -- In row k - stage of a round, the step at a wire is the move up of a request before the stage.
  pub up_there : (stage : ℕ) → stage < k → slice_get (round k) ((k - stage) * 2 ^ k + wire) ≡ Some (step.Up stage wire)
  up_there stage less =
      let same : k - (k - stage) ≡ stage = omega (arith, less) in
      up_at k (k - stage) wire few (omega (arith, less)) within (omega (arith, less)) (omega arith) ∙ ap (λ s. Some (step.Up s wire)) same

  -- In row k + 1 of a round, the step at a wire is the service by its module.
  pub serve_there : slice_get (round k) ((k + 1) * 2 ^ k + wire) ≡ Some (step.Serve wire)
  serve_there = serve_at k (k + 1) wire few (omega arith) within refl

  -- In row k + 2 + stage of a round, the step at a wire is the move down of a reply after the stage.
  pub down_there : (stage : ℕ) → stage < k → slice_get (round k) ((k + 2 + stage) * 2 ^ k + wire) ≡ Some (step.Down stage wire)
  down_there stage less =
      let same : k + 2 + stage - (k + 2) ≡ stage = omega arith in
      down_at k (k + 2 + stage) wire few (omega (arith, less)) within (omega arith) ∙ ap (λ s. Some (step.Down s wire)) same

module _ (m : MachineLists) (few : m.config.k ≤ 6) (stage : ℕ) (less : stage < m.config.k) where
  abbrev k : ℕ
  k = m.config.k

  -- If a wire has no request before a stage, its step in the row of moves up of the stage stalls.
  pub ups_quiet : (w : ℕ) → w < 2 ^ k → is_some (slice_get ((net_of m.network).requests stage w) 0) ≡ false → IsQuiet m ((k - stage) * 2 ^ k + w)
  ups_quiet w within none =
      let same : stage ≡ k - (k - stage) = omega (arith, less) in
      up_quiet m few (k - stage) w (omega (arith, less)) (omega arith) within
      (subst (λ s. is_some (slice_get ((net_of m.network).requests s w) 0) ≡ false) same none)

  -- If a wire has no reply after a stage, its step in the row of moves down of the stage stalls.
  pub downs_quiet : (w : ℕ) → w < 2 ^ k → is_some (slice_get ((net_of m.network).replies (stage + 1) w) 0) ≡ false → IsQuiet m ((k + 2 + stage) * 2 ^ k + w)
  downs_quiet w within none =
      let same : stage + 1 ≡ k + 2 + stage - (k + 1) = omega arith in
      down_quiet m few (k + 2 + stage) w (omega arith) (omega (arith, less)) within
      (subst (λ d. is_some (slice_get ((net_of m.network).replies d w) 0) ≡ false) same none)
