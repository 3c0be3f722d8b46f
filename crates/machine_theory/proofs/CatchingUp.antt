-- Local turns, one after another, of a processor without an open reference.
use Rattle.std.proofs.Common.{◌≡◌, ℕ, ◌^◌, ◌<◌, Bool, true, false, List, [], ◌∷◌, map, length, nat_lt}
use Rattle.std.proofs.Common.{refl, sym, ap, ap₂, ◌∙◌, subst, lt-ltb, append_assoc, append-nil}
use Rattle.std.specs.Prelude.{if◌then◌else◌}
use Rattle.machine_ports.specs.flat_machine.declared.config.Config.{Config}
use Rattle.machine_ports.specs.flat_machine.declared.event.Event.TheVariants as event
use Rattle.machine_ports.specs.flat_machine.declared.event.Retired as retirement
use Rattle.machine_ports.specs.flat_machine.State.{Processor, is_running}
use Rattle.serialization.specs.messages.Places.{put}
use Rattle.serialization.specs.Machine.{Machine, Advanced, begin, turned, stalled}
use Rattle.machine_theory.specs.Theory as theory
use Rattle.machine_theory.specs.Processors.{ObservedCore, alone_by, kind_of, next, program, setting_of, shows}
use Rattle.machine_theory.specs.Steps.{answer_of, taken, outcome_of_turn, outcome_of, after}
use Rattle.serialization.proofs.Lemmas.messages.{put_same}
use Rattle.steps.specs.declared.step.Step.{Step}
use Rattle.steps.specs.declared.step.Step.TheVariants as step
use Rattle.steps.specs.declared.step.Outcome.TheVariants as outcome
use Rattle.machine_ports.specs.hart.LocalRuns.{TakesOne, TakesLocal}
use Rattle.machine_theory.specs.Loans.{with_core, away, without, gone_on, turns_of, after_all, answers_of, outcomes_of}
use Rattle.machine_theory.proofs.Putting.{last_counts, stays_put}

module _ (c : Config) (code : List ℕ) (p : ℕ) where
  -- ---- one turn

  -- A turn of a processor without an open reference begins as its kind says.
  begun : (M : theory.Machine ObservedCore) → p < 2 ^ c.k → M.is_open p ≡ false →
      taken c code M (step.Turn p) ≡ begin (program c code) M p (kind_of (is_running (M.core p).state.status) (next c code p (M.core p).state))
  begun M there shut =
      ap (λ b. if b then turned (program c code) M p (M.is_open p) else stalled M) (lt-ltb p (2 ^ c.k) there)
      ∙ ap (turned (program c code) M p) shut

  advances : (M : theory.Machine ObservedCore) (retired : retirement.Retired) (last : Processor) → p < 2 ^ c.k → M.is_open p ≡ false →
      TakesOne (setting_of c p) code (M.core p).state retired last →
      taken c code M (step.Turn p)
      ≡ record { machine = with_core M p (shows (M.core p) last (event.Retired retired)); outcome = Advanced p }
  advances M retired last there shut one =
      begun M there shut
      ∙ ap₂ (λ b t. begin (program c code) M p (kind_of b t)) one.runs one.turn
      ∙ ap (λ t. record { machine = with_core M p (alone_by (M.core p) t); outcome = Advanced p }) one.turn

  pub turn_retires : (M : theory.Machine ObservedCore) (retired : retirement.Retired) (last : Processor) → p < 2 ^ c.k → M.is_open p ≡ false →
      TakesOne (setting_of c p) code (M.core p).state retired last →
      (outcome_of c code M (step.Turn p) ≡ outcome.Retired retired)
      × (after c code M (step.Turn p) ≡ with_core M p (gone_on (M.core p) (retired ∷ []) last))
  unfolding outcome_of after
  turn_retires M retired last there shut one = (
    ap (λ (r : theory.Result ObservedCore). answer_of (λ q. next c code q (M.core q).state) r.outcome) (advances M retired last there shut one)
        ∙ ap outcome_of_turn one.turn,
    ap (λ (r : theory.Result ObservedCore). r.machine) (advances M retired last there shut one),
  )

  -- ---- many

  step_first : (M : theory.Machine ObservedCore) (ss : List Step) → after_all c code M (step.Turn p ∷ ss) ≡ after_all c code (after c code M (step.Turn p)) ss
  unfolding after theory.machine_after
  step_first M ss = refl

  gone_further : (g : ObservedCore) (retired : retirement.Retired) (between : Processor) (later : List retirement.Retired) (last : Processor) →
      gone_on (gone_on g (retired ∷ []) between) later last ≡ gone_on g (retired ∷ later) last
  gone_further g retired between later last =
      ap (λ es. record { state = last; events = es }) (append_assoc g.events (event.Retired retired ∷ []) (map event.Retired later))

  gone_nowhere : (g : ObservedCore) → gone_on g [] g.state ≡ g
  gone_nowhere g = ap (λ es. record { state = g.state; events = es }) (append-nil g.events)

  -- If p has no reference open and its next instructions are local, as many turns of p retire them, and leave the core
  -- that they leave.
  pub catch_up : (M : theory.Machine ObservedCore) (taken : List retirement.Retired) (last : Processor) → p < 2 ^ c.k → M.is_open p ≡ false →
      TakesLocal (setting_of c p) code (M.core p).state taken last →
      (answers_of c code M (turns_of p (length taken)) ≡ outcomes_of taken)
      × (after_all c code M (turns_of p (length taken)) ≡ with_core M p (gone_on (M.core p) taken last))
  unfolding theory.machine_after
  catch_up M [] last there shut run =
      (refl, sym (stays_put M p) ∙ ap (with_core M p) (sym (gone_nowhere (M.core p)) ∙ ap (gone_on (M.core p) []) (sym run)))
  catch_up M (retired ∷ later) last there shut (between, one, run) =
      let once = turn_retires M retired between there shut one in
      let g : ObservedCore = gone_on (M.core p) (retired ∷ []) between in
      let here : put M.core p g p ≡ g = put_same M.core p g in
      let rest = catch_up (with_core M p g) later last there shut
      (subst (λ (h : ObservedCore). TakesLocal (setting_of c p) code h.state later last) (sym here) run) in (
        ap₂ (λ o m. o ∷ answers_of c code m (turns_of p (length later))) once.0 once.1 ∙ ap (λ os. outcome.Retired retired ∷ os) rest.0,
        step_first M (turns_of p (length later)) ∙ ap (λ m. after_all c code m (turns_of p (length later))) once.1 ∙ rest.1
            ∙ ap (λ h. with_core (with_core M p g) p (gone_on h later last)) here ∙ last_counts M p g (gone_on g later last)
            ∙ ap (with_core M p) (gone_further (M.core p) retired between later last),
      )

  -- ---- a turn of a core that is away

  -- A turn of a core that is away and not open stalls, and changes nothing.
  pub rests : (M : theory.Machine ObservedCore) → M.is_open p ≡ false →
      (outcome_of c code (without M p) (step.Turn p) ≡ outcome.Stalled) × (after c code (without M p) (step.Turn p) ≡ without M p)
  unfolding outcome_of after
  rests M shut = (
    ap (λ (r : theory.Result ObservedCore). answer_of (λ q. next c code q ((without M p).core q).state) r.outcome) stalls,
    ap (λ (r : theory.Result ObservedCore). r.machine) stalls,
  )
    where
      here : (without M p).core p ≡ away (M.core p)
      here = put_same M.core p (away (M.core p))

      by : (b : Bool) → (if b then turned (program c code) (without M p) p (M.is_open p) else stalled (without M p)) ≡ stalled (without M p)
      by true =
          ap (turned (program c code) (without M p) p) shut
          ∙ ap (λ (g : ObservedCore). begin (program c code) (without M p) p (kind_of (is_running g.state.status) (next c code p g.state))) here
      by false = refl

      stalls : taken c code (without M p) (step.Turn p) ≡ stalled (without M p)
      stalls = by (nat_lt p (2 ^ c.k))
