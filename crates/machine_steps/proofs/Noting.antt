-- Steps that an observer sees as they are taken: one after another, those of a drain, and those of a whole instruction.
use Rattle.std.proofs.Common.{◌≡◌, ℕ, ◌+◌, ◌<◌, ◌≤◌, List, [], ◌∷◌, ◌++◌, length, Some, None, refl, sym, ap, ◌∙◌, subst}
use Rattle.std.proofs.lemmas.List.{append-nil, append_assoc}
use Rattle.flat_machine.specs.declared.config.Config.{Config}
use Rattle.omega_network.specs.Networks.{net_of}
use Rattle.machine_theory.specs.Theory as theory
use Rattle.machine_theory.specs.Processors.{ObservedCore}
use Rattle.machine_theory.specs.Steps.{outcome_of, after, machine_of_parts}
use Rattle.steps.specs.declared.step.Step.{Step}
use Rattle.steps.specs.declared.step.Step.TheVariants as step
use Rattle.steps.specs.declared.step.Outcome.{Outcome}
use Rattle.steps.specs.declared.step.Outcome.TheVariants.{Retired, Issued, Stopped, Moved, Combined, Served, Answered, Poked, Stalled}
use Rattle.steps.specs.StepObserver.{IsListed}
use Rattle.machine_steps.specs.Machines.{MachineLists, machine_of, IsIdle, IsMachine, IsStep}
use Rattle.machine_steps.specs.Runs.{all_after, IsRun, IsReplay}
use Rattle.machine_steps.specs.Draining.{drain_step, BringsNearer, drain_bound, drain_steps, IsDrained}
use Rattle.machine_steps.specs.Whole.{steps_from, one_steps, IsOne, IsSent}
use Rattle.machine_steps.specs.Noting.{AreNoted, AreNotedFrom}
use Rattle.machine_steps.proofs.Cutting.{Alikes, after_alikes, outcome_alike, run_alike}
use Rattle.machine_steps.proofs.Replaying.{outcome_there, replay_begins, replay_more}
use Rattle.machine_steps.proofs.Whole.{IsGoingHome, home_begins, home_goes_on, home_in_time, home_now, steps_back}

-- ---- one after another

module _ {N : Type 0} (R : N → Step → Outcome → N → Type 0) where
  more_from : (c : Config) (code : List ℕ) (M : theory.Machine ObservedCore) (xs : List Step) (s : Step) (n mid n' : N) → AreNotedFrom R c code M xs n mid →
      R mid s (outcome_of c code (all_after c code M xs) s) n' → AreNotedFrom R c code M (xs ++ s ∷ []) n n'
  unfolding all_after
  more_from c code M [] s n mid n' none one = (n', subst (λ x. R x s (outcome_of c code M s) n') none one, refl)
  more_from c code M (x ∷ xs) s n mid n' all one = (all.0, all.1, more_from c code (after c code M x) xs s all.0 mid n' all.2 one)

  -- If an observer sees the steps of a run and the step that is taken next, it sees the steps of the longer run.
  pub noted_more : (old m new : MachineLists) (done : List Step) (s : Step) (o : Outcome) (n mid n' : N) → IsRun old done m → IsStep m s o new →
      AreNoted R old done n mid → R mid s o n' → AreNoted R old (done ++ s ∷ []) n n'
  noted_more old m new done s o n mid n' r is all one =
      more_from old.config old.code (machine_of old (λ p. [])) done s n mid n' all
      (subst (λ x. R mid s x n') (is.step.outcome ∙ sym (outcome_there old m done r s)) one)

  -- If machines differ only in shown events, an observer sees the same of both.
  noted_alike : (c : Config) (code : List ℕ) (M K : theory.Machine ObservedCore) (xs : List Step) (n n' : N) → Alikes M K → AreNotedFrom R c code M xs n n' →
      AreNotedFrom R c code K xs n n'
  noted_alike c code M K [] n n' alike none = none
  noted_alike c code M K (x ∷ xs) n n' alike all = (
    all.0,
    subst (λ o. R n x o all.0) (outcome_alike c code M K x alike) all.1,
    noted_alike c code (after c code M x) (after c code K x) xs all.0 n' (after_alikes c code M K x alike) all.2,
  )

  -- What an observer sees of steps from where a run ends, it sees of them after the steps of the run.
  pub noted_after_run : (opening mid : MachineLists) (steps more : List Step) (n n' : N) → IsRun opening steps mid → AreNoted R mid more n n' →
      AreNotedFrom R opening.config opening.code (all_after opening.config opening.code (machine_of opening (λ p. [])) steps) more n n'
  noted_after_run opening mid steps more n n' r all =
      noted_alike opening.config opening.code (machine_of mid (λ p. [])) (all_after opening.config opening.code (machine_of opening (λ p. [])) steps) more n n'
      (run_alike opening mid steps r (λ p. []))
      (subst (λ (k : Config × List ℕ). AreNotedFrom R k.0 k.1 (machine_of mid (λ p. [])) more n n') (λ i. (r.config i, r.code i)) all)

-- ---- the steps of an instruction

turn_steps : (m : MachineLists) (s : Step) (o : Outcome) → (o ≡ Stalled → ⊥) → (o ≡ Issued → ⊥) →
    steps_from m.config m.code (machine_of m (λ q. [])) s o ≡ s ∷ []
turn_steps m s Issued moves other = absurd (other refl)
turn_steps m s Stalled moves other = absurd (moves refl)
turn_steps m s (Retired retired) moves other = refl
turn_steps m s (Stopped cause) moves other = refl
turn_steps m s Moved moves other = refl
turn_steps m s (Combined first second) moves other = refl
turn_steps m s (Served leader) moves other = refl
turn_steps m s (Answered to) moves other = refl
turn_steps m s Poked moves other = refl

-- If the turn does something and sends no request, the instruction's steps are the turn alone.
pub turn_alone : (m new : MachineLists) (p : ℕ) (o : Outcome) → IsStep m (step.Turn p) o new → (o ≡ Stalled → ⊥) → (o ≡ Issued → ⊥) →
    one_steps m p ≡ step.Turn p ∷ []
turn_alone m new p o st moves other =
    ap (steps_from m.config m.code (machine_of m (λ q. [])) (step.Turn p)) (sym st.step.outcome) ∙ turn_steps m (step.Turn p) o moves other

-- If the turn stalls, the instruction has no steps.
pub stall_alone : (m new : MachineLists) (p : ℕ) → IsStep m (step.Turn p) Stalled new → one_steps m p ≡ []
stall_alone m new p st = ap (steps_from m.config m.code (machine_of m (λ q. [])) (step.Turn p)) (sym st.step.outcome)

-- ---- a list

-- Observed in a list, steps come at its end, and its capacity stays.
module _ {N : Type 0} (items : N → List Step) (capacity : N → ℕ) where
  abbrev Lists : N → Step → Outcome → N → Type 0
  Lists n s o n' = IsListed (items n) (capacity n) s (items n') (capacity n')

  listed_from : (c : Config) (code : List ℕ) (M : theory.Machine ObservedCore) (xs : List Step) (n n' : N) → AreNotedFrom Lists c code M xs n n' →
      (items n' ≡ items n ++ xs) × (capacity n' ≡ capacity n)
  listed_from c code M [] n n' same = (ap items same ∙ sym (append-nil (items n)), ap capacity same)
  listed_from c code M (x ∷ xs) n n' all =
      let rest = listed_from c code (after c code M x) xs all.0 n' all.2 in
      (rest.0 ∙ ap (λ l. l ++ xs) all.1.0 ∙ append_assoc (items n) (x ∷ []) xs, rest.1 ∙ all.1.1)

  -- If steps are observed in a list, they are appended, and its capacity is the same.
  pub listed : (m : MachineLists) (xs : List Step) (n n' : N) → AreNoted Lists m xs n n' → (items n' ≡ items n ++ xs) × (capacity n' ≡ capacity n)
  listed m xs n n' all = listed_from m.config m.code (machine_of m (λ p. [])) xs n n' all

module _ {N : Type 0} (R : N → Step → Outcome → N → Type 0) where
  -- ---- a drain

  -- i steps of a drain were taken and observed.
  pub record IsNotedHome (old : MachineLists) (n : N) (i : ℕ) (m : MachineLists) (last : Outcome) (n' : N) : Type 0 where
    -- the steps that were taken
    pub tail : List Step
    -- they are the steps of a drain that is under way
    pub home : IsGoingHome old tail i m last
    -- each of them did something
    pub replay : IsReplay old tail m
    -- each of them is observed
    pub observed : AreNoted R old tail n n'

  -- A drain begins with no step taken, and none observed.
  pub noting_begins : (m : MachineLists) (n : N) → IsMachine m → IsNotedHome m n 0 m Issued n
  noting_begins m n is = record { tail = []; home = home_begins m is; replay = replay_begins m; observed = refl }

  module _ (old : MachineLists) (n : N) (i : ℕ) (m : MachineLists) (last : Outcome) (n' : N) (b : IsNotedHome old n i m last n') where
    -- If the next step of a drain is taken and observed, one more step of the drain is taken and observed.
    pub noting_goes_on : (s : Step) (o : Outcome) (new : MachineLists) (n2 : N) → IsMachine new → i < drain_bound old.config → drain_step m ≡ Some s →
        BringsNearer m s → IsStep m s o new → R n' s o n2 → IsNotedHome old n (i + 1) new o n2
    noting_goes_on s o new n2 is within names goes st one = record {
      tail = b.tail ++ s ∷ [];
      home = home_goes_on old b.tail i m last b.home s o new is within names st;
      replay = replay_more old m new b.tail s o b.replay st (λ stalls. goes.moves (sym st.step.outcome ∙ stalls));
      observed = noted_more R old m new b.tail s o n n' n2 b.replay.run st b.observed one;
    }

    pub record IsNotedAtHome : Type 0 where
      -- the machine is drained
      pub drained : IsDrained old i m
      -- if p alone had sent a request, its instruction is whole
      pub home : (before : MachineLists) (p : ℕ) → IsSent before p old → IsOne before p last m
      -- each step of the drain did something
      pub replay : IsReplay old (drain_steps old) m
      -- each step of the drain is observed
      pub observed : AreNoted R old (drain_steps old) n n'

    at_home : (drain_steps old ≡ b.tail) × IsDrained old i m × ((before : MachineLists) (p : ℕ) → IsSent before p old → IsOne before p last m) → IsNotedAtHome
    at_home e = record {
      drained = e.1;
      home = e.2;
      replay = subst (λ xs. IsReplay old xs m) (sym e.0) b.replay;
      observed = subst (λ xs. AreNoted R old xs n n') (sym e.0) b.observed;
    }

    -- A drain is at its end, with all steps observed, if it names no further step.
    pub noting_stops : drain_step m ≡ None → IsIdle m → IsNotedAtHome
    noting_stops none idle = at_home (home_now old b.tail i m last b.home none idle)

    -- A drain is at its end, with all steps observed, if at least as many were taken as it has.
    pub noting_is_over : IsMachine old → length (drain_steps old) ≤ i → IsNotedAtHome
    noting_is_over is few = at_home (home_in_time old b.tail i m last b.home is few)

  -- ---- a whole instruction

  -- If a turn sends a request, its step and those of the drain after it are observed as the instruction's steps.
  pub sent_noted : (m : MachineLists) (p : ℕ) (sent : MachineLists) (n mid n' : N) → IsSent m p sent → R n (step.Turn p) Issued mid →
      AreNoted R sent (drain_steps sent) mid n' → AreNoted R m (one_steps m p) n n'
  sent_noted m p sent n mid n' s one rest =
      let M : theory.Machine ObservedCore = machine_of m (λ q. []) in
      let there : machine_of sent (λ q. []) ≡ after m.config m.code M (step.Turn p) =
      ap (λ c. machine_of_parts c (net_of sent.network) sent.ports sent.modules (λ q. [])) s.turn.config ∙ s.turn.step.after (λ q. []) in
      let tail : AreNotedFrom R m.config m.code (after m.config m.code M (step.Turn p)) (drain_steps sent) mid n' =
      subst (λ (x : Config × List ℕ × theory.Machine ObservedCore). AreNotedFrom R x.0 x.1 x.2 (drain_steps sent) mid n')
      (λ i. (s.turn.config i, s.turn.code i, there i)) rest in
      subst (λ xs. AreNoted R m xs n n') (sym (steps_back m p sent s))
      (mid, subst (λ x. R n (step.Turn p) x mid) s.turn.step.outcome one, tail)

  -- If a turn does something and sends no request, its step is observed as the instruction's.
  pub turn_noted : (m new : MachineLists) (p : ℕ) (o : Outcome) (n n' : N) → IsStep m (step.Turn p) o new → (o ≡ Stalled → ⊥) → (o ≡ Issued → ⊥) →
      R n (step.Turn p) o n' → AreNoted R m (one_steps m p) n n'
  turn_noted m new p o n n' st moves other one =
      subst (λ xs. AreNoted R m xs n n') (sym (turn_alone m new p o st moves other)) (n', subst (λ x. R n (step.Turn p) x n') st.step.outcome one, refl)

  -- If a turn stalls, no step of the instruction is observed.
  pub stall_noted : (m new : MachineLists) (p : ℕ) (n : N) → IsStep m (step.Turn p) Stalled new → AreNoted R m (one_steps m p) n n
  stall_noted m new p n st = subst (λ xs. AreNoted R m xs n n) (sym (stall_alone m new p st)) refl
