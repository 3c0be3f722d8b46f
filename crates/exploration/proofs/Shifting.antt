-- The steps of a machine do not depend on what its processors have shown before.
use Rattle.std.proofs.Common.{◌≡◌, ◌⊎◌, inl, inr, ℕ, ◌^◌, Bool, true, false, cond, eqb, eq-eqb, ne_eqb, List}
use Rattle.std.proofs.Common.{[], ◌∷◌, ◌++◌, Option, Some, None, refl, sym, ap, ◌∙◌, nat_lt, append_assoc, true≢false}
use Rattle.std.specs.Prelude.{if◌then◌else◌}
use Rattle.std.proofs.lemmas.Bool.{cases_eq}
use Rattle.std.proofs.lemmas.List.{append-nil}
use mathlib.Core.Path.{fun_ext}
use Rattle.flat_machine.specs.declared.config.Config.{Config}
use Rattle.flat_machine.specs.declared.event.Event.{Event}
use Rattle.flat_machine.specs.declared.event.Event.TheVariants as event
use Rattle.flat_machine.specs.declared.event.Retired as retirement
use Rattle.flat_machine.specs.State.{Processor, status_of}
use Rattle.flat_machine.specs.Turns.{Turn, Retires, Reaches, Stops}
use Rattle.hart.specs.Deciding.{after_reply}
use Rattle.machine_steps.specs.messages.declared.message.Request.{Request}
use Rattle.machine_steps.specs.messages.declared.message.Reply.{Reply}
use Rattle.machine_steps.specs.messages.declared.moves.UpMove.{UpMove}
use Rattle.machine_steps.specs.messages.declared.moves.UpMove.TheVariants as up
use Rattle.machine_steps.specs.messages.declared.moves.DownMove.{DownMove}
use Rattle.machine_steps.specs.messages.declared.moves.DownMove.TheVariants as down
use Rattle.machine_steps.specs.messages.Moves.{moved_up, moved_down, port_taken}
use Rattle.machine_steps.specs.messages.Network.{Net}
use Rattle.machine_steps.specs.messages.Places.{put}
use Rattle.machine_steps.specs.serialization.Program.{Kind, Rests, Alone, Refers}
use Rattle.machine_steps.specs.steps.declared.step.Step.{Step}
use Rattle.machine_steps.specs.steps.declared.step.Step.TheVariants as step
use Rattle.machine_steps.specs.machine_theory.Theory as theory
use Rattle.machine_steps.specs.machine_theory.Processors.{ObservedCore, sizes_of, next, alone_by, retired_by, program}
use Rattle.machine_steps.specs.machine_theory.Steps.{after}
use Rattle.machine_steps.specs.machine_theory.Flatness.{with_events}
use Rattle.machine_steps.specs.Runs.{all_after, events_of}
use Rattle.machine_steps.specs.steps.Kinds.{is_poke, no_poke}
use Rattle.machine_steps.proofs.Lemmas.steps.{no_poke_parts}

-- ---- events put before others

put_shifted : {X Y : Type 0} (shift : ℕ → X → Y) (core : ℕ → X) (p : ℕ) (x : X) → put (λ q. shift q (core q)) p (shift p x) ≡ (λ q. shift q (put core p x q))
unfolding put
put_shifted shift core p x = fun_ext (λ q. by q (cases_eq q p))
  where
    by : (q : ℕ) → (q ≡ p) ⊎ (q ≡ p → ⊥) → cond (eqb q p) (shift p x) (shift q (core q)) ≡ shift q (cond (eqb q p) x (core q))
    by q (inl same) =
        ap (λ b. cond b (shift p x) (shift q (core q))) (eq-eqb q p same) ∙ ap (λ j. shift j x) (sym same)
        ∙ sym (ap (λ b. shift q (cond b x (core q))) (eq-eqb q p same))
    by q (inr other) =
        ap (λ b. cond b (shift p x) (shift q (core q))) (ne_eqb q p other) ∙ sym (ap (λ b. shift q (cond b x (core q))) (ne_eqb q p other))

-- What is shown after two lists of events is what the second list adds to what is shown after the first.
pub events_join : (first second : List (ℕ × Event)) (shown : ℕ → List Event) →
    with_events shown (first ++ second) ≡ with_events (with_events shown first) second
events_join [] second shown = refl
events_join ((p, x) ∷ first) second shown = events_join first second (put shown p (shown p ++ x ∷ []))

-- A processor has shown what it had shown before, followed by its own of these events.
pub events_after : (events : List (ℕ × Event)) (shown : ℕ → List Event) (k : ℕ) → with_events shown events k ≡ shown k ++ with_events (λ j. []) events k
events_after [] shown k = sym (append-nil (shown k))
events_after ((p, x) ∷ events) shown k =
    events_after events (put shown p (shown p ++ x ∷ [])) k
    ∙ ap (λ (core : ℕ → List Event). put core p (shown p ++ x ∷ []) k ++ with_events (λ j. []) events k) (fun_ext (λ q. sym (append-nil (shown q))))
    ∙ ap (λ (f : ℕ → List Event). f k ++ with_events (λ j. []) events k) (put_shifted (λ q es. shown q ++ es) (λ q. []) p (x ∷ []))
    ∙ append_assoc (shown k) (put (λ j. []) p (x ∷ []) k) (with_events (λ j. []) events k)
    ∙ sym (ap (λ es. shown k ++ es) (events_after events (put (λ j. []) p (x ∷ [])) k))

abbrev pub shift : (ℕ → List Event) → ℕ → ObservedCore → ObservedCore
shift e p g = record { state = g.state; events = e p ++ g.events }

-- the machine with these events put before those of its processors
abbrev pub shift_all : (ℕ → List Event) → theory.Machine ObservedCore → theory.Machine ObservedCore
shift_all e N = record { net = N.net; mem = N.mem; core = λ p. shift e p (N.core p); is_open = N.is_open }

-- the machine as if its processors had shown nothing
abbrev pub forget : theory.Machine ObservedCore → theory.Machine ObservedCore
forget N = record { net = N.net; mem = N.mem; core = λ p. record { state = (N.core p).state; events = [] }; is_open = N.is_open }

-- A machine that forgets its events, and then has them put back, is as it was.
pub as_before : (N : theory.Machine ObservedCore) → shift_all (events_of N) (forget N) ≡ N
as_before N =
    let cores : (λ p. shift (events_of N) p (record { state = (N.core p).state; events = [] })) ≡ N.core =
    fun_ext (λ p. ap (λ es. record { state = (N.core p).state; events = es }) (append-nil (N.core p).events)) in
    λ i. record { net = N.net; mem = N.mem; core = cores i; is_open = N.is_open }

module _ (c : Config) (code : List ℕ) (e : ℕ → List Event) where
  alone_shifted : (p : ℕ) (g : ObservedCore) (t : Turn) → alone_by (shift e p g) t ≡ shift e p (alone_by g t)
  alone_shifted p g (Retires q r) = ap (λ es. record { state = q; events = es }) (append_assoc (e p) g.events (event.Retired r ∷ []))
  alone_shifted p g (Stops cause) =
      ap (λ es. record { state = record g.state { status = status_of cause }; events = es }) (append_assoc (e p) g.events (event.Stopped cause ∷ []))
  alone_shifted p g (Reaches word change later) = refl

  retired_shifted : (p : ℕ) (g : ObservedCore) (o : Option (Processor × retirement.Retired)) → retired_by (shift e p g) o ≡ shift e p (retired_by g o)
  retired_shifted p g None = refl
  retired_shifted p g (Some done) = ap (λ es. record { state = done.0; events = es }) (append_assoc (e p) g.events (event.Retired done.1 ∷ []))

  module _ (N : theory.Machine ObservedCore) where
    abbrev Same : theory.Result ObservedCore → theory.Result ObservedCore → Type 0
    Same r s = r.machine ≡ shift_all e s.machine

    put_observed : (p : ℕ) (x y : ObservedCore) → x ≡ shift e p y → put (λ q. shift e q (N.core q)) p x ≡ (λ q. shift e q (put N.core p y q))
    put_observed p x y same = ap (put (λ q. shift e q (N.core q)) p) same ∙ put_shifted (shift e) N.core p y

    either : (b : Bool) (r s : theory.Result ObservedCore) → Same r s → Same (if b then r else theory.stalled (shift_all e N))
        (if b then s else theory.stalled N)
    either true r s h = h
    either false r s h = refl

    by_reply : (p : ℕ) (ys : List Reply) → Same (theory.retire_from (program c code) (shift_all e N) p ys) (theory.retire_from (program c code) N p ys)
    by_reply p [] = refl
    by_reply p (y ∷ ys) =
        ap (λ (core : ℕ → ObservedCore). record { net = port_taken N.net p; mem = N.mem; core = core; is_open = put N.is_open p false })
        (put_observed p (retired_by (shift e p (N.core p)) (after_reply (next c code p (N.core p).state) y.value))
        (retired_by (N.core p) (after_reply (next c code p (N.core p).state) y.value))
        (retired_shifted p (N.core p) (after_reply (next c code p (N.core p).state) y.value)))

    by_kind : (p : ℕ) (kind : Kind) → Same (theory.begin (program c code) (shift_all e N) p kind) (theory.begin (program c code) N p kind)
    by_kind p Rests = refl
    by_kind p Alone =
        ap (λ (core : ℕ → ObservedCore). record { net = N.net; mem = N.mem; core = core; is_open = N.is_open })
        (put_observed p (alone_by (shift e p (N.core p)) (next c code p (N.core p).state)) (alone_by (N.core p) (next c code p (N.core p).state))
        (alone_shifted p (N.core p) (next c code p (N.core p).state)))
    by_kind p Refers = refl

    by_turn : (p : ℕ) (b : Bool) → Same (theory.turned (program c code) (shift_all e N) p b) (theory.turned (program c code) N p b)
    by_turn p true = by_reply p (N.net.replies 0 p)
    by_turn p false = by_kind p ((program c code).kind p (N.core p))

    by_up : (r : UpMove × Net) → Same (theory.went_up (shift_all e N) r) (theory.went_up N r)
    by_up (up.Stalled, net) = refl
    by_up (up.Moved, net) = refl
    by_up (up.Combined first second, net) = refl

    by_down : (r : DownMove × Net) → Same (theory.went_down (shift_all e N) r) (theory.went_down N r)
    by_down (down.Stalled, net) = refl
    by_down (down.Moved, net) = refl
    by_down (down.Answered to, net) = refl

    by_serving : (i : ℕ) (xs : List Request) (ys : List Reply) →
        Same (theory.serve_from (sizes_of c) (shift_all e N) i xs ys) (theory.serve_from (sizes_of c) N i xs ys)
    by_serving i [] ys = refl
    by_serving i (x ∷ xs) [] = refl
    by_serving i (x ∷ xs) (y ∷ ys) = refl

    step_shifted : (s : Step) → is_poke s ≡ false → after c code (shift_all e N) s ≡ shift_all e (after c code N s)
    unfolding after
    step_shifted (step.Turn p) h = either (nat_lt p (2 ^ c.k)) (theory.turned (program c code) (shift_all e N) p (N.is_open p))
        (theory.turned (program c code) N p (N.is_open p)) (by_turn p (N.is_open p))
    step_shifted (step.Up s w) h =
        either (nat_lt w (2 ^ c.k)) (theory.went_up (shift_all e N) (moved_up (sizes_of c) N.net s w)) (theory.went_up N (moved_up (sizes_of c) N.net s w))
        (by_up (moved_up (sizes_of c) N.net s w))
    step_shifted (step.Serve i) h =
        either (nat_lt i (2 ^ c.k)) (theory.serve_from (sizes_of c) (shift_all e N) i (N.net.requests c.k i) (N.net.replies c.k i))
        (theory.serve_from (sizes_of c) N i (N.net.requests c.k i) (N.net.replies c.k i)) (by_serving i (N.net.requests c.k i) (N.net.replies c.k i))
    step_shifted (step.Down s w) h =
        either (nat_lt w (2 ^ c.k)) (theory.went_down (shift_all e N) (moved_down (sizes_of c) N.net s w))
        (theory.went_down N (moved_down (sizes_of c) N.net s w))
        (by_down (moved_down (sizes_of c) N.net s w))
    step_shifted (step.Poke q) h = absurd (true≢false h)

  -- The machine's steps do the same whatever was shown before, and append their events to it.
  pub all_shifted : (steps : List Step) (N : theory.Machine ObservedCore) → no_poke steps ≡ true →
      all_after c code (shift_all e N) steps ≡ shift_all e (all_after c code N steps)
  unfolding all_after
  all_shifted [] N all = refl
  all_shifted (s ∷ steps) N all =
      let parts = no_poke_parts s steps all in
      ap (λ M. all_after c code M steps) (step_shifted N s parts.0) ∙ all_shifted steps (after c code N s) parts.1
