-- Steps that find no message stall.
use Rattle.std.proofs.Common.{◌≡◌, ℕ, suc, ◌^◌, Bool, true, false, nat_lt, List, [], ◌∷◌, ◌∙◌, refl, ap}
use Rattle.std.specs.Prelude.{is_some, slice_get, if◌then◌else◌}
use Rattle.std.proofs.lemmas.Bool.{true≢false}
use Rattle.flat_machine.specs.declared.config.Config.{Config}
use Rattle.messages.specs.declared.moves.UpMove.TheVariants as up
use Rattle.messages.specs.declared.moves.DownMove.TheVariants as down
use Rattle.messages.specs.Moves.{moved_up, moved_down, up_from, down_from}
use Rattle.machine_theory.specs.serialization.Machine.{retire_from, turned}
use Rattle.machine_theory.specs.Theory.{stalled, went_up, went_down, serve_from}
use Rattle.machine_theory.specs.Theory as theory
use Rattle.machine_theory.specs.Processors.{ObservedCore, sizes_of, next, open_at, program}
use Rattle.machine_theory.specs.Steps.{answer_of, outcome_of, machine_of_parts}
use Rattle.omega_network.specs.Networks.{net_of}
use Rattle.machine_steps.specs.Machines.{MachineLists, machine_of}
use Rattle.steps.specs.declared.step.Step.TheVariants as step
use Rattle.steps.specs.declared.step.Outcome.{Outcome}
use Rattle.steps.specs.declared.step.Outcome.TheVariants.{Stalled}

module _ (c : Config) (code : List ℕ) (M : theory.Machine ObservedCore) where
  abbrev answers : theory.Outcome → Outcome
  answers = answer_of (λ p. next c code p (M.core p).state)

  same : (b : Bool) → answers (if b then stalled M else stalled M).outcome ≡ Stalled
  same true = refl
  same false = refl

  up_same : (b a : Bool) → answers (if b then went_up M (if a then (up.Stalled, M.net) else (up.Stalled, M.net)) else stalled M).outcome ≡ Stalled
  up_same true true = refl
  up_same true false = refl
  up_same false a = refl

  down_same : (b a : Bool) → answers (if b then went_down M (if a then (down.Stalled, M.net) else (down.Stalled, M.net)) else stalled M).outcome ≡ Stalled
  down_same true true = refl
  down_same true false = refl
  down_same false a = refl

  turn_from_none : (p : ℕ) → M.is_open p ≡ true → M.net.replies 0 p ≡ [] → outcome_of c code M (step.Turn p) ≡ Stalled
  unfolding outcome_of
  turn_from_none p opened none =
      ap (λ b. answers (if nat_lt p (2 ^ c.k) then turned (program c code) M p b else stalled M).outcome) opened
      ∙ ap (λ ys. answers (if nat_lt p (2 ^ c.k) then retire_from (program c code) M p ys else stalled M).outcome) none
      ∙ same (nat_lt p (2 ^ c.k))

  up_from_none : (s w : ℕ) → M.net.requests s w ≡ [] → outcome_of c code M (step.Up s w) ≡ Stalled
  unfolding outcome_of moved_up
  up_from_none s w none =
      ap (λ xs. answers (if nat_lt w (2 ^ c.k) then went_up M (if nat_lt s c.k then up_from (sizes_of c) M.net s w xs else (up.Stalled, M.net))
      else stalled M).outcome) none
      ∙ up_same (nat_lt w (2 ^ c.k)) (nat_lt s c.k)

  serve_from_none : (m : ℕ) → M.net.requests c.k m ≡ [] → outcome_of c code M (step.Serve m) ≡ Stalled
  unfolding outcome_of
  serve_from_none m none =
      ap (λ xs. answers (if nat_lt m (2 ^ c.k) then serve_from (sizes_of c) M m xs (M.net.replies c.k m) else stalled M).outcome) none
      ∙ same (nat_lt m (2 ^ c.k))

  down_from_none : (s w : ℕ) → M.net.replies (suc s) w ≡ [] → outcome_of c code M (step.Down s w) ≡ Stalled
  unfolding outcome_of moved_down
  down_from_none s w none =
      ap (λ xs. answers (if nat_lt w (2 ^ c.k) then went_down M (if nat_lt s c.k then down_from (sizes_of c) M.net s w xs else (down.Stalled, M.net))
      else stalled M).outcome) none
      ∙ down_same (nat_lt w (2 ^ c.k)) (nat_lt s c.k)

module _ (m : MachineLists) where
  -- If a processor has a reference open and no reply on its wire, its turn stalls.
  pub turn_stalls : (p : ℕ) → open_at m.ports p ≡ true → (net_of m.network).replies 0 p ≡ [] →
      outcome_of m.config m.code (machine_of m (λ p. [])) (step.Turn p) ≡ Stalled
  unfolding machine_of_parts
  turn_stalls p opened none = turn_from_none m.config m.code (machine_of m (λ p. [])) p opened none

  -- If no request is on the wire, a move up from it stalls.
  pub up_stalls : (s w : ℕ) → (net_of m.network).requests s w ≡ [] → outcome_of m.config m.code (machine_of m (λ p. [])) (step.Up s w) ≡ Stalled
  unfolding machine_of_parts
  up_stalls s w none = up_from_none m.config m.code (machine_of m (λ p. [])) s w none

  -- If no request is at a module, its service stalls.
  pub serve_stalls : (w : ℕ) → (net_of m.network).requests m.config.k w ≡ [] → outcome_of m.config m.code (machine_of m (λ p. [])) (step.Serve w) ≡ Stalled
  unfolding machine_of_parts
  serve_stalls w none = serve_from_none m.config m.code (machine_of m (λ p. [])) w none

  -- If no reply is on the wire after the stage, a move down from it stalls.
  pub down_stalls : (s w : ℕ) → (net_of m.network).replies (suc s) w ≡ [] → outcome_of m.config m.code (machine_of m (λ p. [])) (step.Down s w) ≡ Stalled
  unfolding machine_of_parts
  down_stalls s w none = down_from_none m.config m.code (machine_of m (λ p. [])) s w none

-- A list without a first element is empty.
pub none_there : {X : Type 0} (xs : List X) → is_some (slice_get xs 0) ≡ false → xs ≡ []
none_there [] e = refl
none_there (x ∷ xs) e = absurd (true≢false e)
