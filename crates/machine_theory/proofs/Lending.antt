-- Lists of steps of others, and a whole loan.
use Rattle.std.proofs.Common.{◌≡◌, ◌≢◌, ℕ, ◌^◌, ◌<◌, false, List, [], ◌∷◌, ◌++◌, length, refl, sym, ap, ap₂, ◌∙◌, subst}
use Rattle.std.proofs.Common.{eq-eqb}
use Rattle.std.proofs.lemmas.Bool.{true≢false}
use Rattle.machine_ports.specs.flat_machine.declared.config.Config.{Config}
use Rattle.machine_ports.specs.flat_machine.declared.event.Retired as retirement
use Rattle.machine_ports.specs.flat_machine.State.{Processor}
use Rattle.machine_ports.specs.flat_machine.Turns.{Turn}
use Rattle.serialization.specs.messages.Places.{put}
use Rattle.serialization.specs.Machine.{Advanced, Answered, Combined, Issued, Machine, Moved, Poked, Retired, Served, Stalled}
use Rattle.machine_theory.specs.Theory as theory
use Rattle.machine_theory.specs.Processors.{ObservedCore, next, program, setting_of, sizes_of}
use Rattle.machine_theory.specs.Steps.{named, answer_of, taken, outcome_of, after}
use Rattle.serialization.proofs.Lemmas.messages.{put_other}
use Rattle.steps.specs.declared.step.Step.{Step}
use Rattle.steps.specs.declared.step.Step.TheVariants as step
use Rattle.machine_ports.specs.hart.LocalRuns.{TakesLocal}
use Rattle.machine_theory.specs.Loans.{with_core, with_cores, away, without, gone_on, IsOfOthers, AreOfOthers}
use Rattle.machine_theory.specs.Loans.{AreOfAllOthers, turns_of, after_all, answers_of, outcomes_of}
use Rattle.machine_theory.proofs.Putting.{last_counts}
use Rattle.machine_theory.proofs.Noticing.{IsAnothers, TellsNotOf, not_noticed, tells_not, open_kept, core_kept}
use Rattle.machine_theory.proofs.CatchingUp.{catch_up}

module _ (c : Config) (code : List ℕ) (p : ℕ) where
  others_named : (s : Step) → IsOfOthers p s → IsAnothers p (named s)
  others_named (step.Turn q) other = λ same. true≢false (sym (eq-eqb q p same) ∙ other.0)
  others_named (step.Up s w) other = tt
  others_named (step.Serve m) other = tt
  others_named (step.Down s w) other = tt
  others_named (step.Poke poke) other = absurd (true≢false other.1)

  -- ---- one step

  -- The answer of an outcome that tells nothing of p does not depend on p's turn.
  fact_so : (f g : ℕ → Turn) → ((q : ℕ) → q ≢ p → f q ≡ g q) → (o : theory.Outcome) → TellsNotOf p o → answer_of f o ≡ answer_of g o
  fact_so f g same (Issued q) apart = refl
  fact_so f g same (Advanced q) apart = ap (λ t. answer_of (λ j. t) (Advanced q)) (same q apart)
  fact_so f g same (Retired q value) apart = ap (λ t. answer_of (λ j. t) (Retired q value)) (same q apart)
  fact_so f g same Moved apart = refl
  fact_so f g same (Combined first second) apart = refl
  fact_so f g same (Served leader) apart = refl
  fact_so f g same (Answered to) apart = refl
  fact_so f g same (Poked poke) apart = refl
  fact_so f g same Stalled apart = refl

  -- A step of others has the same outcome and leaves the same with any core of p, and leaves that core.
  pub step_not_noticed : (M : theory.Machine ObservedCore) (core : ObservedCore) (s : Step) → IsOfOthers p s →
      (outcome_of c code (with_core M p core) s ≡ outcome_of c code M s) × (after c code (with_core M p core) s ≡ with_core (after c code M s) p core)
  unfolding outcome_of after
  step_not_noticed M core s other = (
    ap (λ (r : theory.Result ObservedCore). answer_of (λ q. next c code q (put M.core p core q).state) r.outcome) same
        ∙ fact_so (λ q. next c code q (put M.core p core q).state) (λ q. next c code q (M.core q).state)
        (λ q apart. ap (λ (g : ObservedCore). next c code q g.state) (put_other M.core p core q apart)) (taken c code M s).outcome
        (tells_not (sizes_of c) (program c code) M p (named s) (others_named s other)),
    ap (λ (r : theory.Result ObservedCore). r.machine) same,
  )
    where
      same : taken c code (with_core M p core) s
          ≡ record { machine = with_core (taken c code M s).machine p core; outcome = (taken c code M s).outcome }
      same = not_noticed (sizes_of c) (program c code) M p core (named s) (others_named s other)

  -- ---- many

  step_first : (M : theory.Machine ObservedCore) (s : Step) (ss : List Step) → after_all c code M (s ∷ ss) ≡ after_all c code (after c code M s) ss
  unfolding after theory.machine_after
  step_first M s ss = refl

  -- Steps of others have the same outcomes and leave the same with any core of p, and leave that core.
  pub run_not_noticed : (M : theory.Machine ObservedCore) (core : ObservedCore) (ss : List Step) → AreOfOthers p ss →
      (answers_of c code (with_core M p core) ss ≡ answers_of c code M ss)
      × (after_all c code (with_core M p core) ss ≡ with_core (after_all c code M ss) p core)
  unfolding theory.machine_after
  run_not_noticed M core [] others = (refl, refl)
  run_not_noticed M core (s ∷ ss) others =
      let once = step_not_noticed M core s others.0 in
      let rest = run_not_noticed (after c code M s) core ss others.1 in (
        ap₂ (λ o m. o ∷ answers_of c code m ss) once.0 once.1 ∙ ap (λ os. outcome_of c code M s ∷ os) rest.0,
        step_first (with_core M p core) s ss ∙ ap (λ m. after_all c code m ss) once.1 ∙ rest.1
            ∙ ap (λ m. with_core m p core) (sym (step_first M s ss)),
      )

  -- Steps of others leave p's core as it is, and p open if and only if it was.
  pub kept : (M : theory.Machine ObservedCore) (ss : List Step) → AreOfOthers p ss →
      ((after_all c code M ss).core p ≡ M.core p) × ((after_all c code M ss).is_open p ≡ M.is_open p)
  unfolding theory.machine_after after
  kept M [] others = (refl, refl)
  kept M (s ∷ ss) others =
      let rest = kept (after c code M s) ss others.1 in
      let other = others_named s others.0 in (
        rest.0 ∙ core_kept (sizes_of c) (program c code) M p (named s) other,
        rest.1 ∙ open_kept (sizes_of c) (program c code) M p (named s) other,
      )

  joined : (M : theory.Machine ObservedCore) (ss more : List Step) →
      (after_all c code M (ss ++ more) ≡ after_all c code (after_all c code M ss) more)
      × (answers_of c code M (ss ++ more) ≡ answers_of c code M ss ++ answers_of c code (after_all c code M ss) more)
  unfolding theory.machine_after after
  joined M [] more = (refl, refl)
  joined M (s ∷ ss) more =
      let rest = joined (after c code M s) ss more in
      (rest.0, ap (λ os. outcome_of c code M s ∷ os) rest.1)

  -- ---- a loan

  -- If p has no reference open and its next instructions are local, they may be taken while others take steps: with the
  -- core put back, the machine is the one after those steps and then p's turns, and the outcomes are the same.
  pub loans : (M : theory.Machine ObservedCore) (ss : List Step) (taken : List retirement.Retired) (last : Processor) → p < 2 ^ c.k → M.is_open p ≡ false →
      AreOfOthers p ss → TakesLocal (setting_of c p) code (M.core p).state taken last →
      (after_all c code M (ss ++ turns_of p (length taken)) ≡ with_core (after_all c code (without M p) ss) p (gone_on (M.core p) taken last))
      × (answers_of c code M (ss ++ turns_of p (length taken)) ≡ answers_of c code (without M p) ss ++ outcomes_of taken)
  loans M ss taken last there shut others run =
      let turns = turns_of p (length taken) in
      let then : theory.Machine ObservedCore = after_all c code M ss in
      let g : ObservedCore = gone_on (M.core p) taken last in
      let stays = kept M ss others in
      let both = joined M ss turns in
      let lent = run_not_noticed M (away (M.core p)) ss others in
      let caught = catch_up c code p then taken last there (stays.1 ∙ shut)
      (subst (λ (h : ObservedCore). TakesLocal (setting_of c p) code h.state taken last) (sym stays.0) run) in (
        both.0 ∙ caught.1 ∙ ap (λ h. with_core then p (gone_on h taken last)) stays.0
            ∙ sym (last_counts then p (away (M.core p)) g) ∙ ap (λ m. with_core m p g) (sym lent.1),
        both.1 ∙ ap₂ (λ os more. os ++ more) (sym lent.0) caught.0,
      )

-- Steps of others have the same outcomes and leave the same with any cores of several processors.
pub several_not_noticed : (c : Config) (code : List ℕ) (M : theory.Machine ObservedCore) (cores : List (ℕ × ObservedCore)) (ss : List Step) →
    AreOfAllOthers cores ss →
    (answers_of c code (with_cores M cores) ss ≡ answers_of c code M ss)
    × (after_all c code (with_cores M cores) ss ≡ with_cores (after_all c code M ss) cores)
several_not_noticed c code M [] ss others = (refl, refl)
several_not_noticed c code M ((p, core) ∷ more) ss others =
    let rest = several_not_noticed c code M more ss others.1 in
    let one = run_not_noticed c code p (with_cores M more) core ss others.0 in
    (one.0 ∙ rest.0, one.1 ∙ ap (λ m. with_core m p core) rest.1)
