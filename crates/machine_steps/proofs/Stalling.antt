-- A step that stalls changes nothing.
use Rattle.std.proofs.Common.{◌≡◌, ℕ, ◌^◌, Bool, true, false, List, [], ◌∷◌, nat_lt, refl, sym, ap, ◌∙◌}
use Rattle.std.specs.Prelude.{◌&&◌, if◌then◌else◌}
use Rattle.flat_machine.specs.declared.config.Config.{Config}
use Rattle.flat_machine.specs.declared.event.Event.{Event}
use Rattle.flat_machine.specs.State.{is_running}
use Rattle.flat_machine.specs.Turns.{Turn, Retires, Reaches, Stops}
use Rattle.hart.specs.Deciding.{after_reply}
use Rattle.messages.specs.declared.message.Request.{Request}
use Rattle.messages.specs.declared.message.Reply.{Reply}
use Rattle.messages.specs.declared.moves.UpMove.{UpMove}
use Rattle.messages.specs.declared.moves.UpMove.TheVariants as up
use Rattle.messages.specs.declared.moves.DownMove.{DownMove}
use Rattle.messages.specs.declared.moves.DownMove.TheVariants as down
use Rattle.messages.specs.Network.{Net}
use Rattle.messages.specs.Moves.{moved_up, moved_down}
use Rattle.omega_network.specs.Networks.{net_of}
use Rattle.machine_theory.specs.serialization.Program.{Kind, Rests, Alone, Refers}
use Rattle.machine_theory.specs.Theory.{Result, stalled, went_up, went_down, serve_from}
use Rattle.machine_theory.specs.Theory as theory
use Rattle.machine_theory.specs.serialization.Machine.{Machine, retire_from, begin, turned, poked, all_shut}
use Rattle.steps.specs.declared.step.Step.{Step}
use Rattle.steps.specs.declared.step.Step.TheVariants as step
use Rattle.steps.specs.declared.step.Outcome.{Outcome}
use Rattle.steps.specs.declared.step.Outcome.TheVariants.{Stalled}
use Rattle.machine_theory.specs.Processors.{ObservedCore, sizes_of, kind_of, next, program, may_poke}
use Rattle.machine_theory.specs.Steps.{taken, answer_of, outcome_of_turn, outcome_of_reply, outcome_of, after, with_shown, machine_of_parts}
use Rattle.machine_theory.proofs.Lemmas.{reaches_of, runs_by}
use Rattle.machine_steps.specs.Machines.{MachineLists, machine_of, IsMachine, IsStep}

-- If the outcome is a stall, the machine is as before.
abbrev pub Keeps : (answer : theory.Outcome → Outcome) → Machine ObservedCore → Result ObservedCore → Type 0
Keeps answer M r = answer r.outcome ≡ Stalled → r.machine ≡ M

module _ (c : Config) (code : List ℕ) (M : Machine ObservedCore) (refers : (p : ℕ) → M.is_open p ≡ true → (program c code).kind p (M.core p) ≡ Refers) where
  abbrev pub turns : ℕ → Turn
  turns p = next c code p (M.core p).state

  abbrev pub answer : theory.Outcome → Outcome
  answer = answer_of turns

  either : (b : Bool) (r : Result ObservedCore) → Keeps answer M r → Keeps answer M (if b then r else stalled M)
  either true r k = k
  either false r k = λ e. refl

  retired : (p : ℕ) (ys : List Reply) → M.is_open p ≡ true → Keeps answer M (retire_from (program c code) M p ys)
  retired p [] opened e = refl
  retired p (y ∷ ys) opened e =
      let runs = runs_by (is_running (M.core p).state.status) (turns p) Refers (refers p opened) (λ no. cc) in
      let r = reaches_of (turns p) runs.1 in
      let fact : outcome_of_reply (after_reply (Reaches r.word r.change r.after) y.value) ≡ Stalled =
      ap (λ t. outcome_of_reply (after_reply t y.value)) (sym r.is) ∙ e in
      absurd (cc)

  alone : (runs : Bool) (t : Turn) → kind_of runs t ≡ Alone → outcome_of_turn t ≡ Stalled → ⊥
  alone true (Retires after retired) k e = cc
  alone true (Stops cause) k e = cc
  alone true (Reaches word change after) k e = cc
  alone false t k e = cc

  begun : (p : ℕ) (k : Kind) → kind_of (is_running (M.core p).state.status) (turns p) ≡ k → Keeps answer M (begin (program c code) M p k)
  begun p Rests e s = refl
  begun p Alone e s = absurd (alone (is_running (M.core p).state.status) (turns p) e s)
  begun p Refers e s = absurd (cc)

  turn : (p : ℕ) (b : Bool) → M.is_open p ≡ b → Keeps answer M (turned (program c code) M p b)
  turn p true e = retired p (M.net.replies 0 p) e
  turn p false e = begun p (kind_of (is_running (M.core p).state.status) (turns p)) refl

  goes_up : (r : UpMove × Net) → Keeps answer M (went_up M r)
  goes_up (up.Stalled, net) e = refl
  goes_up (up.Moved, net) e = absurd (cc)
  goes_up (up.Combined first second, net) e = absurd (cc)

  goes_down : (r : DownMove × Net) → Keeps answer M (went_down M r)
  goes_down (down.Stalled, net) e = refl
  goes_down (down.Moved, net) e = absurd (cc)
  goes_down (down.Answered to, net) e = absurd (cc)

  serves : (m : ℕ) (xs : List Request) (ys : List Reply) → Keeps answer M (serve_from (sizes_of c) M m xs ys)
  serves m [] ys e = refl
  serves m (x ∷ rest) (y ∷ ys) e = refl
  serves m (x ∷ rest) [] e = absurd (cc)

  -- A step that stalls leaves the theory's machine as it is.
  pub keeps : (s : Step) → Keeps answer M (taken c code M s)
  keeps (step.Turn p) = either (nat_lt p (2 ^ c.k)) (turned (program c code) M p (M.is_open p)) (turn p (M.is_open p) refl)
  keeps (step.Up s w) = either (nat_lt w (2 ^ c.k)) (went_up M (moved_up (sizes_of c) M.net s w)) (goes_up (moved_up (sizes_of c) M.net s w))
  keeps (step.Serve m) = either (nat_lt m (2 ^ c.k)) (serve_from (sizes_of c) M m (M.net.requests c.k m) (M.net.replies c.k m))
      (serves m (M.net.requests c.k m) (M.net.replies c.k m))
  keeps (step.Down s w) = either (nat_lt w (2 ^ c.k)) (went_down M (moved_down (sizes_of c) M.net s w)) (goes_down (moved_down (sizes_of c) M.net s w))
  keeps (step.Poke q) = either (all_shut (2 ^ c.k) M.is_open && may_poke c M.core q) (poked (program c code) M q) (λ e. absurd (cc))

shown_stalled : (shown : ℕ → List Event) (s : Step) → with_shown shown s Stalled ≡ shown
shown_stalled shown (step.Turn p) = refl
shown_stalled shown (step.Up s w) = refl
shown_stalled shown (step.Serve m) = refl
shown_stalled shown (step.Down s w) = refl
shown_stalled shown (step.Poke q) = refl

-- a machine whose processors have shown other events
abbrev pub observe_as : (shown : ℕ → List Event) → Machine ObservedCore → Machine ObservedCore
observe_as shown M = record { net = M.net; mem = M.mem; core = λ p. record { state = (M.core p).state; events = shown p }; is_open = M.is_open }

-- A machine that has shown nothing, given these events, is the machine that has shown them.
pub observed_again : (m : MachineLists) (shown : ℕ → List Event) → observe_as shown (machine_of m (λ p. [])) ≡ machine_of m shown
unfolding machine_of_parts
observed_again m shown = refl

-- A step that stalls leaves a machine as it is, with any events shown.
pub stalled_keeps : (old new : MachineLists) (s : Step) (o : Outcome) → IsMachine old → IsStep old s o new → o ≡ Stalled → (shown : ℕ → List Event) →
    machine_of new shown ≡ machine_of old shown
unfolding outcome_of after
stalled_keeps old new s o is st e shown =
    let M : Machine ObservedCore = machine_of old (λ p. []) in
    let leaves : machine_of new (with_shown (λ p. []) s o) ≡ (taken old.config old.code M s).machine =
    ap (λ c. machine_of_parts c (net_of new.network) new.ports new.modules (with_shown (λ p. []) s o)) st.config ∙ st.step.after (λ p. []) in
    let same : machine_of new (λ p. []) ≡ M =
    ap (machine_of new) (sym (ap (with_shown (λ p. []) s) e ∙ shown_stalled (λ p. []) s)) ∙ leaves
    ∙ keeps old.config old.code M is.steady.refers s (sym st.step.outcome ∙ e) in
    sym (observed_again new shown) ∙ ap (observe_as shown) same ∙ observed_again old shown
