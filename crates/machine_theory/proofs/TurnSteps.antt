-- Turns are steps of the machine.
use Rattle.std.proofs.Common.{◌≡◌, ℕ, ◌^◌, ◌<◌, ◌≤◌, Bool, true, false, List, [], ◌∷◌, ◌++◌, length}
use Rattle.std.proofs.Common.{Option, Some, refl, sym, ap, ap₂, ◌∙◌, subst, lt-ltb, le-ltb}
use Rattle.std.specs.Prelude.{slice_get, slice_set, if◌then◌else◌}
use Rattle.machine_ports.specs.flat_machine.declared.config.Config.{Config}
use Rattle.machine_ports.specs.flat_machine.declared.event.Event.{Event}
use Rattle.machine_ports.specs.flat_machine.declared.event.Event.TheVariants as event
use Rattle.machine_ports.specs.flat_machine.State.{Processor, is_running, status_of}
use Rattle.machine_ports.specs.flat_machine.Turns.{Turn, Retires, Reaches, Stops, turn_of}
use Rattle.machine_ports.specs.hart.Deciding.{after_reply}
use Rattle.machine_ports.specs.Ports.{PortState, begun, turn, with_state, reference_phi}
use Rattle.serialization.specs.messages.declared.message.Reply.{Reply}
use Rattle.serialization.specs.messages.Places.{put}
use Rattle.serialization.specs.messages.Network.{Net}
use Rattle.serialization.specs.messages.Moves.{injected, port_taken}
use Rattle.serialization.specs.Program.{Alone, Refers}
use Rattle.serialization.specs.Machine.{Machine, retire_from, begin, turned}
use Rattle.steps.specs.declared.step.Step.{Step}
use Rattle.steps.specs.declared.step.Step.TheVariants as step
use Rattle.steps.specs.declared.step.Outcome.{Outcome}
use Rattle.steps.specs.declared.step.Outcome.TheVariants.{Retired, Issued, Stalled}
use Rattle.machine_theory.specs.Theory.{Result, stalled}
use Rattle.machine_theory.specs.Processors.{ObservedCore, shows, setting_of, kind_of, kind_of_turn, alone_by, word_by}
use Rattle.machine_theory.specs.Processors.{retired_by, next, program, port_at, observed_at, open_at, word_at}
use Rattle.machine_theory.specs.Steps.{taken, outcome_of_turn, outcome_of_reply, answer_of, outcome_of, after, with_shown, machine_of_parts, IsStepOf}
use Rattle.machine_theory.specs.Turning.{IsBegun, IsFinished, IsFinishedBy}
use Rattle.machine_theory.proofs.PortSets.{core_set, core_kept, open_set, open_kept}

module _ (c : Config) (code : List ℕ) where
  -- The step has this result, outcome and new parts.
  pub record Takes (net : Net) (ports : List PortState) (modules : List (List ℕ)) (s : Step) (o : Outcome) (net' : Net) (ports' : List PortState)
      (modules' : List (List ℕ)) : Type 0 where
    -- the result of the step, given the events shown before
    pub result : (shown : ℕ → List Event) → Result ObservedCore
    -- from the old parts, the step has that result
    pub is : (shown : ℕ → List Event) → taken c code (machine_of_parts c net ports modules shown) s ≡ result shown
    -- the outcome is that of the result
    pub answers : o ≡ answer_of (λ p. next c code p (port_at ports p).core.state) (result (λ p. [])).outcome
    -- the new parts, with the event of the step, are the machine of the result
    pub leaves : (shown : ℕ → List Event) → machine_of_parts c net' ports' modules' (with_shown shown s o) ≡ (result shown).machine

  -- A step with this result is the machine step: its outcome and new parts are as defined.
  pub step_of : (net net' : Net) (ports ports' : List PortState) (modules modules' : List (List ℕ)) (s : Step) (o : Outcome) →
      Takes net ports modules s o net' ports' modules' → IsStepOf c code net ports modules s o net' ports' modules'
  unfolding outcome_of after machine_of_parts
  step_of net net' ports ports' modules modules' s o t = record {
    outcome = t.answers ∙ ap (λ (r : Result ObservedCore). answer_of (λ p. next c code p (port_at ports p).core.state) r.outcome) (sym (t.is (λ p. [])));
    after = λ shown. t.leaves shown ∙ ap (λ (r : Result ObservedCore). r.machine) (sym (t.is shown));
  }

  none_shown : (s : Step) (shown : ℕ → List Event) → with_shown shown s Stalled ≡ shown
  none_shown (step.Turn p) shown = refl
  none_shown (step.Up st w) shown = refl
  none_shown (step.Serve m) shown = refl
  none_shown (step.Down st w) shown = refl
  none_shown (step.Poke poke) shown = refl

  -- A step that stalls in the theory is a machine step that stalls.
  pub stalls : (net : Net) (ports : List PortState) (modules : List (List ℕ)) (s : Step) →
      ((shown : ℕ → List Event) → taken c code (machine_of_parts c net ports modules shown) s ≡ stalled (machine_of_parts c net ports modules shown)) →
      IsStepOf c code net ports modules s Stalled net ports modules
  stalls net ports modules s is = step_of net net ports ports modules modules s Stalled (record {
    result = λ shown. stalled (machine_of_parts c net ports modules shown);
    is = is;
    answers = refl;
    leaves = λ shown. ap (machine_of_parts c net ports modules) (none_shown s shown);
  })

  module _ (net : Net) (ports : List PortState) (modules : List (List ℕ)) where
    abbrev M : (ℕ → List Event) → Machine ObservedCore
    M shown = machine_of_parts c net ports modules shown

    -- ---- a number that names no processor, and one that rests

    -- A turn of a number that names no processor stalls.
    pub unnamed : (p : ℕ) → 2 ^ c.k ≤ p → IsStepOf c code net ports modules (step.Turn p) Stalled net ports modules
    unfolding machine_of_parts
    unnamed p past = stalls net ports modules (step.Turn p)
        (λ shown. ap (λ b. if b then turned (program c code) (M shown) p ((M shown).is_open p) else stalled (M shown)) (le-ltb p (2 ^ c.k) past))

    -- A turn of a processor that neither runs nor is open stalls.
    pub rests : (p : ℕ) → p < 2 ^ c.k → (port_at ports p).is_open ≡ false → is_running (port_at ports p).core.state.status ≡ false →
        IsStepOf c code net ports modules (step.Turn p) Stalled net ports modules
    unfolding machine_of_parts
    rests p within shut rest = stalls net ports modules (step.Turn p) (λ shown.
        ap (λ b. if b then turned (program c code) (M shown) p ((M shown).is_open p) else stalled (M shown)) (lt-ltb p (2 ^ c.k) within)
        ∙ ap (turned (program c code) (M shown) p) shut
        ∙ ap (λ b. begin (program c code) (M shown) p (kind_of b (next c code p (port_at ports p).core.state))) rest)

    -- ---- a turn begins

    module _ (p : ℕ) (within : p < 2 ^ c.k) (inside : p < length ports) (shut : (port_at ports p).is_open ≡ false)
        (runs : is_running (port_at ports p).core.state.status ≡ true) where
      abbrev state : Processor
      state = (port_at ports p).core.state

      turned_is : (t : Turn) → next c code p state ≡ t → (shown : ℕ → List Event) →
          taken c code (M shown) (step.Turn p) ≡ begin (program c code) (M shown) p (kind_of_turn t)
      unfolding machine_of_parts
      turned_is t e shown =
          ap (λ b. if b then turned (program c code) (M shown) p ((M shown).is_open p) else stalled (M shown)) (lt-ltb p (2 ^ c.k) within)
          ∙ ap (turned (program c code) (M shown) p) shut
          ∙ ap₂ (λ b t. begin (program c code) (M shown) p (kind_of b t)) runs e

      alone_takes : (t : Turn) (after : Processor) (shown_event : Event) (o : Outcome) → next c code p state ≡ t → kind_of_turn t ≡ Alone →
          ((events : List Event) → alone_by (record { state = state; events = events }) t
          ≡ shows (record { state = state; events = events }) after shown_event) → o ≡ outcome_of_turn t →
          ((shown : ℕ → List Event) → with_shown shown (step.Turn p) o ≡ put shown p (shown p ++ shown_event ∷ [])) →
          (net' : Net) → net' ≡ net → IsStepOf c code net ports modules (step.Turn p) o net' (slice_set ports p (with_state (port_at ports p) after)) modules
      unfolding machine_of_parts
      alone_takes t after shown_event o e alone by answers fact net' same =
          step_of net net' ports (slice_set ports p (with_state (port_at ports p) after)) modules modules (step.Turn p) o (record {
            result = λ shown. begin (program c code) (M shown) p Alone;
            is = λ shown. turned_is t e shown ∙ ap (begin (program c code) (M shown) p) alone;
            answers = answers ∙ ap outcome_of_turn (sym e);
            leaves = λ shown.
                ap₂ (λ n (h : ℕ → List Event). machine_of_parts c n (slice_set ports p (with_state (port_at ports p) after)) modules h) same (fact shown)
                ∙ ap₂ (λ (f : ℕ → ObservedCore) (b : ℕ → Bool). record { net = net; mem = word_at c.k modules; core = f; is_open = b })
                (core_set ports p (with_state (port_at ports p) after) inside shown (shown p ++ shown_event ∷ []))
                (open_kept ports p (with_state (port_at ports p) after) inside refl)
                ∙ ap (λ g. record {
                  net = net;
                  mem = word_at c.k modules;
                  core = put {X = ObservedCore} (observed_at ports shown) p g;
                  is_open = open_at ports;
                })
                (sym (by (shown p)) ∙ ap (alone_by (record { state = state; events = shown p })) (sym e));
          })

      refers_takes : (t : Turn) (word : ℕ) (net' : Net) → next c code p state ≡ t → kind_of_turn t ≡ Refers → word_by t ≡ word →
          net' ≡ injected net (record { leader = p; word = word; phi = reference_phi (setting_of c p) code state; marks = 0 }) →
          IsStepOf c code net ports modules (step.Turn p) Issued net' (slice_set ports p (record { core = (port_at ports p).core; is_open = true })) modules
      unfolding machine_of_parts
      refers_takes t word net' e refers names sent =
          step_of net net' ports (slice_set ports p (record { core = (port_at ports p).core; is_open = true })) modules modules (step.Turn p) Issued (record {
            result = λ shown. begin (program c code) (M shown) p Refers;
            is = λ shown. turned_is t e shown ∙ ap (begin (program c code) (M shown) p) refers;
            answers = refl;
            leaves = λ shown.
                ap (λ n. machine_of_parts c n (slice_set ports p (record { core = (port_at ports p).core; is_open = true })) modules shown)
                (sent ∙ ap (λ w. injected net (record { leader = p; word = w; phi = reference_phi (setting_of c p) code state; marks = 0 }))
                (sym names ∙ ap word_by (sym e)))
                ∙ ap₂ (λ (f : ℕ → ObservedCore) (b : ℕ → Bool). record {
                  net = injected net
                      (record { leader = p; word = word_by (next c code p state); phi = reference_phi (setting_of c p) code state; marks = 0 });
                  mem =
                      word_at c.k modules;
                  core = f;
                  is_open = b;
                })
                (core_kept ports p (record { core = (port_at ports p).core; is_open = true }) inside shown refl)
                (open_set ports p (record { core = (port_at ports p).core; is_open = true }) inside);
          })

      begun_takes : (t : Turn) (o : Outcome) (net' : Net) → next c code p state ≡ t → IsBegun p (port_at ports p) code t net o net' →
          (port_at ports p).core.setting ≡ setting_of c p →
          IsStepOf c code net ports modules (step.Turn p) o net' (slice_set ports p (begun (port_at ports p) code t).1) modules
      begun_takes (Retires later retired) o net' e b setting =
          alone_takes (Retires later retired) later (event.Retired retired) o e refl (λ events. refl) b.0
          (λ shown. ap (with_shown shown (step.Turn p)) b.0) net' b.1
      begun_takes (Stops cause) o net' e b setting =
          alone_takes (Stops cause) (record state { status = status_of cause }) (event.Stopped cause) o e refl (λ events. refl) b.0
          (λ shown. ap (with_shown shown (step.Turn p)) b.0) net' b.1
      begun_takes (Reaches word change later) o net' e b setting =
          subst (λ o. IsStepOf c code net ports modules (step.Turn p) o net'
          (slice_set ports p (record { core = (port_at ports p).core; is_open = true })) modules) (sym b.0)
          (refers_takes (Reaches word change later) word net' e refl refl
          (b.1 ∙ ap (λ s. injected net (record { leader = p; word = word; phi = reference_phi s code state; marks = 0 })) setting))

      -- If the processor runs and is not open, the turn that its port begins is the machine step.
      pub begins : (port port' : PortState) (o : Outcome) (net' : Net) → port ≡ port_at ports p → port.core.setting ≡ setting_of c p →
          port' ≡ (begun port code (turn port code)).1 →
          IsBegun p port code (turn port code) net o net' → IsStepOf c code net ports modules (step.Turn p) o net' (slice_set ports p port') modules
      begins port port' o net' same setting becomes b =
          let s : (port_at ports p).core.setting ≡ setting_of c p = ap (λ (q : PortState). q.core.setting) (sym same) ∙ setting in
          let e : next c code p state ≡ turn (port_at ports p) code = ap (λ s. turn_of s code state) (sym s) in
          let b' = subst (λ (q : PortState). IsBegun p q code (turn q code) net o net') same b in
          let becomes' : port' ≡ (begun (port_at ports p) code (turn (port_at ports p) code)).1 =
          becomes ∙ ap (λ (q : PortState). (begun q code (turn q code)).1) same in
          subst (λ q. IsStepOf c code net ports modules (step.Turn p) o net' (slice_set ports p q) modules) (sym becomes')
          (begun_takes (turn (port_at ports p) code) o net' e b' s)

    -- ---- a turn is finished

    first_of : (xs : List Reply) → Option Reply → Type 0
    first_of xs r = slice_get xs 0 ≡ r

    module _ (p : ℕ) (within : p < 2 ^ c.k) (inside : p < length ports) (opened : (port_at ports p).is_open ≡ true) where
      finished_is : (xs : List Reply) → net.replies 0 p ≡ xs → (shown : ℕ → List Event) →
          taken c code (M shown) (step.Turn p) ≡ retire_from (program c code) (M shown) p xs
      unfolding machine_of_parts
      finished_is xs e shown =
          ap (λ b. if b then turned (program c code) (M shown) p ((M shown).is_open p) else stalled (M shown)) (lt-ltb p (2 ^ c.k) within)
          ∙ ap (turned (program c code) (M shown) p) opened
          ∙ ap (retire_from (program c code) (M shown) p) e

      retires_takes : (y : Reply) (rest : List Reply) (port' : PortState) (o : Outcome) (net' : Net) → net.replies 0 p ≡ y ∷ rest →
          (port_at ports p).core.setting ≡ setting_of c p →
          IsFinished p (turn (port_at ports p) code) (port_at ports p) net y o port' net' →
          IsStepOf c code net ports modules (step.Turn p) o net' (slice_set ports p port') modules
      unfolding machine_of_parts
      retires_takes y rest port' o net' e setting f =
          let port : PortState = port_at ports p in
          let by : after_reply (next c code p port.core.state) y.value ≡ Some f.done =
          ap (λ s. after_reply (turn_of s code port.core.state) y.value) (sym setting) ∙ f.by in
          let new : PortState = record { core = record { setting = port.core.setting; state = f.done.0 }; is_open = false } in
          subst (λ q. IsStepOf c code net ports modules (step.Turn p) o net' (slice_set ports p q) modules) (sym f.port)
          (subst (λ o. IsStepOf c code net ports modules (step.Turn p) o net' (slice_set ports p new) modules) (sym f.outcome)
          (step_of net net' ports (slice_set ports p new) modules modules (step.Turn p) (Retired f.done.1) (record {
            result = λ shown. retire_from (program c code) (M shown) p (y ∷ rest);
            is = λ shown. finished_is (y ∷ rest) e shown;
            answers = ap outcome_of_reply (sym by);
            leaves = λ shown.
                ap (λ n. machine_of_parts c n (slice_set ports p new) modules (put shown p (shown p ++ event.Retired f.done.1 ∷ []))) f.network
                ∙ ap₂ (λ (g : ℕ → ObservedCore) (b : ℕ → Bool). record { net = port_taken net p; mem = word_at c.k modules; core = g; is_open = b })
                (core_set ports p new inside shown (shown p ++ event.Retired f.done.1 ∷ []))
                (open_set ports p new inside)
                ∙ ap (λ r. record {
                  net = port_taken net p;
                  mem = word_at c.k modules;
                  core = put {X = ObservedCore} (observed_at ports shown) p (retired_by (record { state = port.core.state; events = shown p }) r);
                  is_open =
                      put {X = Bool} (open_at ports) p false;
                }) (sym by);
          })))

      waits : (port' : PortState) (o : Outcome) (net' : Net) → net.replies 0 p ≡ [] → o ≡ Stalled → port' ≡ port_at ports p → net' ≡ net →
          IsStepOf c code net ports modules (step.Turn p) o net' (slice_set ports p port') modules
      unfolding machine_of_parts
      waits port' o net' e is stays kept =
          subst (λ o. IsStepOf c code net ports modules (step.Turn p) o net' (slice_set ports p port') modules) (sym is)
          (step_of net net' ports (slice_set ports p port') modules modules (step.Turn p) Stalled (record {
            result = λ shown. stalled (M shown);
            is = λ shown. finished_is [] e shown;
            answers = refl;
            leaves = λ shown.
                ap (λ n. machine_of_parts c n (slice_set ports p port') modules shown) kept
                ∙ ap₂ (λ (g : ℕ → ObservedCore) (b : ℕ → Bool). record { net = net; mem = word_at c.k modules; core = g; is_open = b })
                (core_kept ports p port' inside shown (ap (λ (q : PortState). q.core.state) stays))
                (open_kept ports p port' inside (ap (λ (q : PortState). q.is_open) stays));
          }))

      -- If the processor is open, the turn that its port finishes, or in which it waits for its reply, is the machine
      -- step.
      pub finishes : (port port' : PortState) (o : Outcome) (net' : Net) → port ≡ port_at ports p → port.core.setting ≡ setting_of c p →
          IsFinishedBy p (turn port code) port net (slice_get (net.replies 0 p) 0) o port' net' →
          IsStepOf c code net ports modules (step.Turn p) o net' (slice_set ports p port') modules
      finishes port port' o net' same setting f =
          let s : (port_at ports p).core.setting ≡ setting_of c p = ap (λ (q : PortState). q.core.setting) (sym same) ∙ setting in
          by_replies (net.replies 0 p) refl (subst (λ (q : PortState). IsFinishedBy p (turn q code) q net (slice_get (net.replies 0 p) 0) o port' net') same f)
          s
        where
          by_replies : (xs : List Reply) → net.replies 0 p ≡ xs →
              IsFinishedBy p (turn (port_at ports p) code) (port_at ports p) net (slice_get (net.replies 0 p) 0) o port' net' →
              (port_at ports p).core.setting ≡ setting_of c p →
              IsStepOf c code net ports modules (step.Turn p) o net' (slice_set ports p port') modules
          by_replies [] e f s = let g = subst (λ (xs : List Reply). IsFinishedBy p (turn (port_at ports p) code) (port_at ports p) net
              (slice_get xs 0) o port' net') e f in waits port' o net' e g.0 g.1 g.2
          by_replies (y ∷ rest) e f s = let g = subst (λ (xs : List Reply). IsFinishedBy p (turn (port_at ports p) code) (port_at ports p) net
              (slice_get xs 0) o port' net') e f in retires_takes y rest port' o net' e s g
