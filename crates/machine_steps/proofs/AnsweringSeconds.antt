-- The outcome of a step that splits a reply names all seconds.
use Rattle.std.proofs.Common.{◌≡◌, ◌≤◌, ℕ, suc, ◌^◌, [], Bool, true, false, map, length, nat_lt, Some, sym, ap, ◌∙◌, arith}
use Rattle.std.specs.Prelude.{if◌then◌else◌, slice_get}
use Rattle.messages.specs.declared.message.Record.{Record}
use Rattle.messages.specs.declared.message.Reply.{Reply}
use Rattle.messages.specs.declared.moves.DownMove.{DownMove}
use Rattle.messages.specs.declared.moves.DownMove.TheVariants as down
use Rattle.messages.specs.declared.seconds.Seconds.{Seconds}
use Rattle.messages.specs.Laws.{SecondsAreAnswered}
use Rattle.messages.specs.Moves.{moved_down}
use Rattle.messages.specs.Network.{Net}
use Rattle.messages.specs.Queues.{records_of}
use Rattle.messages.specs.Seconds.{seconds_of}
use Rattle.flat_machine.specs.Turns.{Turn}
use Rattle.omega_network.specs.Networks.{net_of}
use Rattle.machine_theory.specs.Processors.{ObservedCore, next, sizes_of}
use Rattle.machine_theory.specs.Steps.{answer_of, machine_of_parts, outcome_of}
use Rattle.machine_theory.specs.Theory as theory
use Rattle.machine_theory.specs.Theory.{stalled, went_down}
use Rattle.steps.specs.declared.step.Step.{Step}
use Rattle.steps.specs.declared.step.Step.TheVariants as step
use Rattle.steps.specs.declared.step.Outcome.{Outcome}
use Rattle.steps.specs.declared.step.Outcome.TheVariants.{Retired, Issued, Stopped, Moved, Combined, Served, Answered, Poked, Stalled}
use Rattle.machine_steps.specs.Machines.{MachineLists, machine_of, IsMachine}
use Rattle.machine_steps.specs.AnsweringSeconds.{AnswersAllSeconds}

module _ (turns : ℕ → Turn) (M : theory.Machine ObservedCore) (to : Seconds) where
  by_move : (r : DownMove × Net) → Answered to ≡ answer_of turns (went_down M r).outcome → r.0 ≡ down.Answered to
  by_move (down.Stalled, net) e = absurd (let no : Answered to ≡ Stalled = e in cc)
  by_move (down.Moved, net) e = absurd (let no : Answered to ≡ Moved = e in cc)
  by_move (down.Answered v, net) e =
      let fact : Answered to ≡ Answered v = e in
      let same : to ≡ v = cc in
      ap down.Answered (sym same)

  by_wire : (b : Bool) (r : DownMove × Net) → Answered to ≡ answer_of turns (if b then went_down M r else stalled M).outcome → r.0 ≡ down.Answered to
  by_wire true r e = by_move r e
  by_wire false r e = absurd (let no : Answered to ≡ Stalled = e in cc)

module _ (m : MachineLists) (is : IsMachine m) (law : SecondsAreAnswered) where
  went : (s w : ℕ) (to : Seconds) → Answered to ≡ outcome_of m.config m.code (machine_of m (λ p. [])) (step.Down s w)
      → (moved_down (sizes_of m.config) (net_of m.network) s w).0 ≡ down.Answered to
  unfolding outcome_of machine_of_parts
  went s w to e =
      let M : theory.Machine ObservedCore = machine_of m (λ p. []) in
      by_wire (λ p. next m.config m.code p (M.core p).state) M to (nat_lt w (2 ^ m.config.k)) (moved_down (sizes_of m.config) (net_of m.network) s w) e

  few : (p s w : ℕ) → length (records_of p ((net_of m.network).records s w)) ≤ 3
  unfolding machine_of_parts
  few p s w = omega (arith, is.steady.few p s w, is.limits.combinations)

  down_tells : (s w : ℕ) (o : Outcome) → o ≡ outcome_of m.config m.code (machine_of m (λ p. [])) (step.Down s w) → AnswersAllSeconds m (step.Down s w) o
  down_tells s w (Answered to) e = λ x first. law (sizes_of m.config) (net_of m.network) s w x to first (few x.leader s w) (went s w to e)
  down_tells s w (Retired retired) e = tt
  down_tells s w Issued e = tt
  down_tells s w (Stopped cause) e = tt
  down_tells s w Moved e = tt
  down_tells s w (Combined first second) e = tt
  down_tells s w (Served leader) e = tt
  down_tells s w Poked e = tt
  down_tells s w Stalled e = tt

  -- The outcome of a step that splits a reply names the seconds of all records of the reply's leader.
  pub tells_all : (s : Step) (o : Outcome) → o ≡ outcome_of m.config m.code (machine_of m (λ p. [])) s → AnswersAllSeconds m s o
  tells_all (step.Turn p) o e = tt
  tells_all (step.Up s w) o e = tt
  tells_all (step.Serve i) o e = tt
  tells_all (step.Down s w) o e = down_tells s w o e
  tells_all (step.Poke poke) o e = tt
