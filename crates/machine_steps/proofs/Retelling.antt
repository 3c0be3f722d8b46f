-- What processors have shown before changes no outcome, and of the machine after a step only what they have shown.
use Rattle.std.proofs.Common.{cond, eqb, Option, Some, None, ◌≡◌, ℕ, ◌^◌, Bool, true, false, List, [], ◌∷◌, nat_lt, refl, ap}
use Rattle.std.specs.Prelude.{◌&&◌, if◌then◌else◌}
use Rattle.flat_machine.specs.declared.config.Config.{Config}
use Rattle.flat_machine.specs.declared.event.Event.{Event}
use Rattle.flat_machine.specs.declared.event.Retired as retirement
use Rattle.flat_machine.specs.declared.poke.Poke.{Poke}
use Rattle.flat_machine.specs.declared.poke.Poke.TheVariants as poke
use Rattle.flat_machine.specs.State.{Processor, is_running, status_of}
use Rattle.flat_machine.specs.Turns.{Turn, Retires, Reaches, Stops}
use Rattle.flat_machine.specs.Flat.{with_poked_register, with_poked_byte}
use Rattle.messages.specs.Places.{put}
use Rattle.hart.specs.Deciding.{after_reply}
use Rattle.messages.specs.declared.message.Request.{Request}
use Rattle.messages.specs.declared.message.Reply.{Reply}
use Rattle.messages.specs.declared.moves.UpMove.{UpMove}
use Rattle.messages.specs.declared.moves.UpMove.TheVariants as up
use Rattle.messages.specs.declared.moves.DownMove.{DownMove}
use Rattle.messages.specs.declared.moves.DownMove.TheVariants as down
use Rattle.messages.specs.Network.{Net}
use Rattle.messages.specs.Moves.{moved_up, moved_down, port_taken}
use Rattle.machine_theory.specs.serialization.Program.{Kind, Rests, Alone, Refers}
use Rattle.machine_theory.specs.serialization.Machine.{Machine, retire_from, begin, turned, poked, all_shut}
use Rattle.steps.specs.declared.step.Step.{Step}
use Rattle.steps.specs.declared.step.Step.TheVariants as step
use Rattle.machine_theory.specs.Theory.{Result, stalled, went_up, went_down, serve_from}
use Rattle.machine_theory.specs.Processors.{ObservedCore, sizes_of, kind_of, next, program, may_poke, retired_by, alone_by, poked_processors, poked_words}
use Rattle.machine_theory.specs.Steps.{taken, answer_of, outcome_of, after}
use Rattle.machine_steps.proofs.Stalling.{observe_as}

-- ---- processors whose states are the same

abbrev SameStates : (ℕ → ObservedCore) → (ℕ → ObservedCore) → Type 0
SameStates f g = (q : ℕ) → (f q).state ≡ (g q).state

picked : (t : Bool) (a b f g : ObservedCore) → a.state ≡ b.state → f.state ≡ g.state → (cond t a f).state ≡ (cond t b g).state
picked true a b f g e h = e
picked false a b f g e h = h

states_put : (f g : ℕ → ObservedCore) (p : ℕ) (a b : ObservedCore) → SameStates f g → a.state ≡ b.state → SameStates (put f p a) (put g p b)
unfolding put
states_put f g p a b same e q = picked (eqb q p) a b (f q) (g q) e (same q)

retired_state : (a b : ObservedCore) (o : Option (Processor × retirement.Retired)) → a.state ≡ b.state → (retired_by a o).state ≡ (retired_by b o).state
retired_state a b None e = e
retired_state a b (Some done) e = refl

alone_state : (a b : ObservedCore) (t : Turn) → a.state ≡ b.state → (alone_by a t).state ≡ (alone_by b t).state
alone_state a b (Retires after retired) e = refl
alone_state a b (Stops cause) e = ap (λ (p : Processor). record p { status = status_of cause }) e
alone_state a b (Reaches word change after) e = e

poked_states : (q : Poke) (f g : ℕ → ObservedCore) → SameStates f g → SameStates (poked_processors q f) (poked_processors q g)
poked_states (poke.Register p register value) f g same = states_put f g p _ _ same (ap (with_poked_register register value) (same p))
poked_states (poke.Local p address value) f g same = states_put f g p _ _ same (ap (with_poked_byte address value) (same p))
poked_states (poke.Shared address value) f g same = same

-- Machines that differ in shown events alone are the same after they are given the same events.
retell_cores : (fact : ℕ → List Event) (net : Net) (mem : ℕ → ℕ) (is_open : ℕ → Bool) (f g : ℕ → ObservedCore) → SameStates f g →
    observe_as fact (record { net = net; mem = mem; core = f; is_open = is_open })
    ≡ observe_as fact (record { net = net; mem = mem; core = g; is_open = is_open })
retell_cores fact net mem is_open f g same = λ i. record { net = net; mem = mem; core = λ q. record { state = same q i; events = fact q }; is_open = is_open }

module _ (c : Config) (code : List ℕ) (M : Machine ObservedCore) (shown fact : ℕ → List Event) where
  abbrev R : Machine ObservedCore
  R = observe_as shown M

  -- The results have the same outcome, and machines that differ in shown events alone.
  abbrev Alike : Result ObservedCore → Result ObservedCore → Type 0
  Alike r s = (r.outcome ≡ s.outcome) × (observe_as fact r.machine ≡ observe_as fact s.machine)

  either : (b : Bool) (r s : Result ObservedCore) → Alike r s → Alike (if b then r else stalled R) (if b then s else stalled M)
  either true r s e = e
  either false r s e = (refl, refl)

  retires : (p : ℕ) (ys : List Reply) → Alike (retire_from (program c code) R p ys) (retire_from (program c code) M p ys)
  retires p [] = (refl, refl)
  retires p (y ∷ ys) =
      let a : ObservedCore = (program c code).retire p (R.core p) y.value in
      let b : ObservedCore = (program c code).retire p (M.core p) y.value in
      let e : a.state ≡ b.state = retired_state (R.core p) (M.core p) (after_reply (next c code p (M.core p).state) y.value) refl in (
        refl,
        retell_cores fact (port_taken M.net p) M.mem (put M.is_open p false) (put R.core p a) (put M.core p b) (states_put R.core M.core p a b (λ q. refl) e),
      )

  begins : (p : ℕ) (k : Kind) → Alike (begin (program c code) R p k) (begin (program c code) M p k)
  begins p Rests = (refl, refl)
  begins p Alone =
      let a : ObservedCore = (program c code).alone p (R.core p) in
      let b : ObservedCore = (program c code).alone p (M.core p) in
      let e : a.state ≡ b.state = alone_state (R.core p) (M.core p) (next c code p (M.core p).state) refl in
      (refl, retell_cores fact M.net M.mem M.is_open (put R.core p a) (put M.core p b) (states_put R.core M.core p a b (λ q. refl) e))
  begins p Refers = (refl, refl)

  turns : (p : ℕ) (b : Bool) → Alike (turned (program c code) R p b) (turned (program c code) M p b)
  turns p true = retires p (M.net.replies 0 p)
  turns p false = begins p (kind_of (is_running (M.core p).state.status) (next c code p (M.core p).state))

  goes_up : (r : UpMove × Net) → Alike (went_up R r) (went_up M r)
  goes_up (up.Stalled, net) = (refl, refl)
  goes_up (up.Moved, net) = (refl, refl)
  goes_up (up.Combined first second, net) = (refl, refl)

  goes_down : (r : DownMove × Net) → Alike (went_down R r) (went_down M r)
  goes_down (down.Stalled, net) = (refl, refl)
  goes_down (down.Moved, net) = (refl, refl)
  goes_down (down.Answered to, net) = (refl, refl)

  serves : (m : ℕ) (xs : List Request) (ys : List Reply) → Alike (serve_from (sizes_of c) R m xs ys) (serve_from (sizes_of c) M m xs ys)
  serves m [] ys = (refl, refl)
  serves m (x ∷ rest) (y ∷ ys) = (refl, refl)
  serves m (x ∷ rest) [] = (refl, refl)

  same : (s : Step) → Alike (taken c code R s) (taken c code M s)
  same (step.Turn p) =
      either (nat_lt p (2 ^ c.k)) (turned (program c code) R p (M.is_open p)) (turned (program c code) M p (M.is_open p)) (turns p (M.is_open p))
  same (step.Up s w) = either (nat_lt w (2 ^ c.k)) (went_up R (moved_up (sizes_of c) M.net s w)) (went_up M (moved_up (sizes_of c) M.net s w))
      (goes_up (moved_up (sizes_of c) M.net s w))
  same (step.Serve m) = either (nat_lt m (2 ^ c.k)) (serve_from (sizes_of c) R m (M.net.requests c.k m) (M.net.replies c.k m))
      (serve_from (sizes_of c) M m (M.net.requests c.k m) (M.net.replies c.k m)) (serves m (M.net.requests c.k m) (M.net.replies c.k m))
  same (step.Down s w) = either (nat_lt w (2 ^ c.k)) (went_down R (moved_down (sizes_of c) M.net s w)) (went_down M (moved_down (sizes_of c) M.net s w))
      (goes_down (moved_down (sizes_of c) M.net s w))
  same (step.Poke q) = either (all_shut (2 ^ c.k) M.is_open && may_poke c M.core q) (poked (program c code) R q) (poked (program c code) M q) (
    refl,
    retell_cores fact M.net (poked_words q M.mem) M.is_open (poked_processors q R.core) (poked_processors q M.core)
        (poked_states q R.core M.core (λ p. refl)),
  )

  -- Events shown before a step change the shown events alone of the machine after it.
  pub after_alike : (s : Step) → observe_as fact (after c code R s) ≡ observe_as fact (after c code M s)
  unfolding after
  after_alike s = (same s).1

-- Events shown before a step do not change its outcome.
pub outcome_same : (c : Config) (code : List ℕ) (M : Machine ObservedCore) (shown : ℕ → List Event) (s : Step) →
    outcome_of c code (observe_as shown M) s ≡ outcome_of c code M s
unfolding outcome_of
outcome_same c code M shown s = ap (answer_of (λ p. next c code p (M.core p).state)) (same c code M shown shown s).0
