-- The events of which outcomes tell are those that processors have shown, and the flat machine shows the same.
use Rattle.std.proofs.Common.{◌≡◌, ℕ, ◌^◌, ◌≤◌, cond, eqb, Bool, true, false, List, [], ◌∷◌, ◌++◌, length}
use Rattle.std.proofs.Common.{nat_lt, inl, inr, Option, Some, None, refl, sym, ap, ◌∙◌, arith}
use Rattle.std.specs.Prelude.{◌&&◌, map, if◌then◌else◌}
use Rattle.std.proofs.lemmas.Bool.{cases_eq}
use Rattle.std.proofs.lemmas.List.{append-nil}
use mathlib.Core.Path.{fun_ext}
use Rattle.flat_machine.specs.declared.config.Config.{Config}
use Rattle.flat_machine.specs.declared.event.Event.{Event}
use Rattle.flat_machine.specs.declared.event.Event.TheVariants as event
use Rattle.flat_machine.specs.declared.event.Retired as retirement
use Rattle.flat_machine.specs.declared.poke.Poke.{Poke}
use Rattle.flat_machine.specs.declared.poke.Poke.TheVariants as poke
use Rattle.flat_machine.specs.State.{Processor, is_running}
use Rattle.flat_machine.specs.Turns.{Turn, Retires, Reaches, Stops}
use Rattle.flat_machine.specs.Flat.{with_poked_register, with_poked_byte}
use Rattle.hart.specs.Deciding.{after_reply}
use Rattle.messages.specs.declared.message.Request.{Request}
use Rattle.messages.specs.declared.message.Reply.{Reply}
use Rattle.messages.specs.declared.moves.UpMove.{UpMove}
use Rattle.messages.specs.declared.moves.UpMove.TheVariants as up
use Rattle.messages.specs.declared.moves.DownMove.{DownMove}
use Rattle.messages.specs.declared.moves.DownMove.TheVariants as down
use Rattle.messages.specs.Places.{put}
use Rattle.messages.specs.Network.{Net}
use Rattle.messages.specs.Moves.{moved_up, moved_down}
use Rattle.messages.proofs.Lemmas.{put_other, put_same}
use Rattle.machine_theory.specs.serialization.Program.{Kind, Rests, Alone, Refers}
use Rattle.machine_theory.specs.Theory.{Result, stalled, went_up, went_down, serve_from}
use Rattle.machine_theory.specs.Order.{Passed}
use Rattle.machine_theory.specs.Theory as theory
use Rattle.machine_theory.specs.serialization.Machine.{Machine, retire_from, begin, turned, poked, all_shut}
use Rattle.machine_theory.specs.serialization.Order.{from_machine}
use Rattle.steps.specs.declared.step.Step.{Step}
use Rattle.steps.specs.declared.step.Step.TheVariants as step
use Rattle.steps.specs.declared.step.Outcome.{Outcome}
use Rattle.machine_theory.specs.Processors.{ObservedCore, sizes_of, kind_of, next, program, may_poke, retired_by, alone_by, changed}
use Rattle.machine_theory.specs.Steps.{named, taken, answer_of, outcome_of_turn, outcome_of_reply, outcome_of, after, with_shown}
use Rattle.machine_theory.specs.Explained.{IsExplained, flat_after}
use Rattle.machine_theory.proofs.Lemmas.{runs_are_explained}
use Rattle.machine_steps.specs.Machines.{MachineLists, machine_of, IsIdle, IsMachine}
use Rattle.machine_steps.specs.Openings.{flat_state}
use Rattle.machine_steps.specs.Runs.{all_after, events_of, IsRun, passed}
use Rattle.machine_steps.specs.Laws.{shown_after, events_of_steps, shown_in_order, AreShown}
use Rattle.machine_steps.proofs.IdleMachines.{opens}
use Rattle.machine_steps.proofs.Running.{passes_machine, shown_is}
use Rattle.machine_steps.proofs.Whole.{open_same}

-- ---- one step

abbrev shown_by : (ℕ → ObservedCore) → ℕ → List Event
shown_by f q = (f q).events

picked : (b : Bool) (g h : ObservedCore) → (cond b g h).events ≡ cond b g.events h.events
picked true g h = refl
picked false g h = refl

put_shown : (f : ℕ → ObservedCore) (p : ℕ) (g : ObservedCore) → shown_by (put f p g) ≡ put (shown_by f) p g.events
unfolding put
put_shown f p g = fun_ext (λ q. picked (eqb q p) g (f q))

put_own : (f : ℕ → List Event) (p : ℕ) → put f p (f p) ≡ f
put_own f p =
    fun_ext (λ q. elim (cases_eq q p) [ inl same ↦ ap (put f p (f p)) same ∙ put_same f p (f p) ∙ ap f (sym same) | inr other ↦ put_other f p (f p) q other ])

-- If one processor changes and shows nothing new, the shown events are as before.
put_silent : (f : ℕ → ObservedCore) (p : ℕ) (g : ObservedCore) → g.events ≡ (f p).events → shown_by (put f p g) ≡ shown_by f
put_silent f p g e = put_shown f p g ∙ ap (put (shown_by f) p) e ∙ put_own (shown_by f) p

module _ (c : Config) (code : List ℕ) (M : Machine ObservedCore) where
  abbrev answer : theory.Outcome → Outcome
  answer = answer_of (λ p. next c code p (M.core p).state)

  abbrev Tells : Step → Result ObservedCore → Type 0
  Tells s r = events_of r.machine ≡ with_shown (events_of M) s (answer r.outcome)

  still : (s : Step) → Tells s (stalled M)
  still (step.Turn p) = refl
  still (step.Up s w) = refl
  still (step.Serve m) = refl
  still (step.Down s w) = refl
  still (step.Poke q) = refl

  either : (s : Step) (b : Bool) (r : Result ObservedCore) → Tells s r → Tells s (if b then r else stalled M)
  either s true r t = t
  either s false r t = still s

  replied : (p : ℕ) (o : Option (Processor × retirement.Retired)) →
      shown_by (put M.core p (retired_by (M.core p) o)) ≡ with_shown (events_of M) (step.Turn p) (outcome_of_reply o)
  replied p None = put_silent M.core p (M.core p) refl
  replied p (Some done) = put_shown M.core p (retired_by (M.core p) (Some done))

  retires : (p : ℕ) (ys : List Reply) → Tells (step.Turn p) (retire_from (program c code) M p ys)
  retires p [] = refl
  retires p (y ∷ ys) = replied p (after_reply (next c code p (M.core p).state) y.value)

  alone : (p : ℕ) (t : Turn) → shown_by (put M.core p (alone_by (M.core p) t)) ≡ with_shown (events_of M) (step.Turn p) (outcome_of_turn t)
  alone p (Retires later retired) = put_shown M.core p (alone_by (M.core p) (Retires later retired))
  alone p (Stops cause) = put_shown M.core p (alone_by (M.core p) (Stops cause))
  alone p (Reaches word change later) = put_silent M.core p (M.core p) refl

  begins : (p : ℕ) (k : Kind) → Tells (step.Turn p) (begin (program c code) M p k)
  begins p Rests = refl
  begins p Alone = alone p (next c code p (M.core p).state)
  begins p Refers = refl

  turns : (p : ℕ) (b : Bool) → Tells (step.Turn p) (turned (program c code) M p b)
  turns p true = retires p (M.net.replies 0 p)
  turns p false = begins p (kind_of (is_running (M.core p).state.status) (next c code p (M.core p).state))

  goes_up : (s w : ℕ) (r : UpMove × Net) → Tells (step.Up s w) (went_up M r)
  goes_up s w (up.Stalled, net) = refl
  goes_up s w (up.Moved, net) = refl
  goes_up s w (up.Combined first second, net) = refl

  goes_down : (s w : ℕ) (r : DownMove × Net) → Tells (step.Down s w) (went_down M r)
  goes_down s w (down.Stalled, net) = refl
  goes_down s w (down.Moved, net) = refl
  goes_down s w (down.Answered to, net) = refl

  serves : (m : ℕ) (xs : List Request) (ys : List Reply) → Tells (step.Serve m) (serve_from (sizes_of c) M m xs ys)
  serves m [] ys = refl
  serves m (x ∷ rest) (y ∷ ys) = refl
  serves m (x ∷ rest) [] = refl

  pokes : (q : Poke) → Tells (step.Poke q) (poked (program c code) M q)
  pokes (poke.Register p register value) = put_silent M.core p (changed (with_poked_register register value) (M.core p)) refl
  pokes (poke.Local p address value) = put_silent M.core p (changed (with_poked_byte address value) (M.core p)) refl
  pokes (poke.Shared address value) = refl

  taken_tells : (s : Step) → Tells s (taken c code M s)
  taken_tells (step.Turn p) = either (step.Turn p) (nat_lt p (2 ^ c.k)) (turned (program c code) M p (M.is_open p)) (turns p (M.is_open p))
  taken_tells (step.Up s w) =
      either (step.Up s w) (nat_lt w (2 ^ c.k)) (went_up M (moved_up (sizes_of c) M.net s w)) (goes_up s w (moved_up (sizes_of c) M.net s w))
  taken_tells (step.Serve m) =
      either (step.Serve m) (nat_lt m (2 ^ c.k)) (serve_from (sizes_of c) M m (M.net.requests c.k m) (M.net.replies c.k m))
      (serves m (M.net.requests c.k m) (M.net.replies c.k m))
  taken_tells (step.Down s w) =
      either (step.Down s w) (nat_lt w (2 ^ c.k)) (went_down M (moved_down (sizes_of c) M.net s w)) (goes_down s w (moved_down (sizes_of c) M.net s w))
  taken_tells (step.Poke q) = either (step.Poke q) (all_shut (2 ^ c.k) M.is_open && may_poke c M.core q) (poked (program c code) M q) (pokes q)

  step_tells : (s : Step) → events_of (after c code M s) ≡ with_shown (events_of M) s (outcome_of c code M s)
  unfolding after outcome_of
  step_tells s = taken_tells s

-- ---- a list of steps

-- The events shown before some steps, followed by those of which their outcomes tell, are those shown after the steps.
pub steps_tell : (c : Config) (code : List ℕ) (M : Machine ObservedCore) (steps : List Step) →
    shown_after c code M steps (events_of M) ≡ events_of (all_after c code M steps)
unfolding shown_after all_after
steps_tell c code M [] = refl
steps_tell c code M (s ∷ ss) = ap (shown_after c code (after c code M s) ss) (sym (step_tells c code M s)) ∙ steps_tell c code (after c code M s) ss

module _ (opening : MachineLists) (steps : List Step) (machine : MachineLists) (is : IsMachine opening) (idle : IsIdle opening)
    (r : IsRun opening steps machine) where
  abbrev h : Passed ObservedCore
  h = passed opening steps

  events_are_these : (p : ℕ) → events_of_steps opening steps p ≡ events_of h.machine p
  events_are_these p =
      let M : Machine ObservedCore = machine_of opening (λ q. []) in
      ap (λ shown. shown_after opening.config opening.code M steps shown p) (sym (shown_is opening (λ q. [])))
      ∙ ap (λ (f : ℕ → List Event). f p) (steps_tell opening.config opening.code M steps)
      ∙ ap (λ (K : Machine ObservedCore). events_of K p) (sym (passes_machine opening.config opening.code steps (from_machine M)))

  explained : IsExplained opening.config opening.code (flat_state opening) h
  explained =
      (runs_are_explained opening.config opening.code).moments (machine_of opening (λ p. [])) (flat_state opening) (map named steps) (opens opening is idle)

  unserved_same : (p : ℕ) → h.served p ≡ None → events_of_steps opening steps p ≡ shown_in_order opening steps p
  unserved_same p none = events_are_these p ∙ ap (λ (g : ObservedCore). g.events) (explained.unserved p none)

  -- The flat machine has shown of processor p what the outcomes tell, and at most one more event.
  abbrev Later : ℕ → Type 0
  Later p = (later : List Event) × (shown_in_order opening steps p ≡ events_of_steps opening steps p ++ later) × (length later ≤ 1)

  retired_later : (p : ℕ) (o : Option (Processor × retirement.Retired)) →
      (flat_after opening.config opening.code (flat_state opening) h.order).core p ≡ retired_by (h.machine.core p) o → Later p
  retired_later p None e = (
    [],
    ap (λ (g : ObservedCore). g.events) e ∙ sym (events_are_these p)
        ∙ sym (append-nil (events_of_steps opening steps p)),
    omega arith,
  )
  retired_later p (Some done) e =
      (event.Retired done.1 ∷ [], ap (λ (g : ObservedCore). g.events) e ∙ ap (λ es. es ++ event.Retired done.1 ∷ []) (sym (events_are_these p)), omega arith)

  later_at : (p : ℕ) (served : Option ℕ) → h.served p ≡ served → Later p
  later_at p None e = ([], sym (unserved_same p e) ∙ sym (append-nil (events_of_steps opening steps p)), omega arith)
  later_at p (Some place) e =
      let found = explained.served p place e in
      retired_later p (after_reply (next opening.config opening.code p (h.machine.core p).state) found.0) found.2

  -- The outcomes of a run that begins with no open reference tell of the events that the flat machine shows.
  pub events_are_shown : AreShown opening steps machine
  events_are_shown = record {
    shut = λ p shut. unserved_same p (explained.shut p (sym (open_same opening machine steps r p) ∙ shut));
    any = λ p. later_at p (h.served p) refl;
  }
