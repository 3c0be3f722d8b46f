-- The next step of a drain, and where a drain ends.
use Rattle.std.proofs.Common.{◌≡◌, ℕ, zero, suc, ◌+◌, ◌^◌, ◌<◌, ◌≤◌, List, [], ◌∷◌, ◌++◌, length, Option, Some, None, refl, sym, ap, ap₂, ◌∙◌, subst, arith}
use Rattle.std.specs.Prelude.{map, IfSome}
use Rattle.std.proofs.lemmas.List.{length-append, length-map, append-nil, append_assoc}
use Rattle.omega_network.specs.Networks.{net_of}
use Rattle.machine_theory.specs.Theory as theory
use Rattle.machine_theory.specs.serialization.Machine.{Turn, Serve}
use Rattle.machine_theory.specs.serialization.Steadiness.{total}
use Rattle.machine_theory.specs.serialization.Draining.{first_wire, or_else, down_step, up_step, AreDistances, DrainIs}
use Rattle.machine_theory.specs.serialization.Draining as draining
use Rattle.machine_theory.proofs.Lemmas.serialization.{bound as distances_bound, distances_are, drain_is}
use Rattle.machine_theory.proofs.Lemmas.serialization.{drain_is_short, drained, idle_names_none, steady_after}
use Rattle.steps.specs.declared.step.Step.{Step}
use Rattle.steps.specs.declared.step.Outcome.{Outcome}
use Rattle.machine_theory.specs.Processors.{ObservedCore, sizes_of, program}
use Rattle.machine_theory.specs.Steps.{named, outcome_of, after, machine_of_parts}
use Rattle.machine_steps.specs.Machines.{MachineLists, machine_of, IsIdle, IsMachine, IsStep}
use Rattle.machine_steps.specs.Runs.{all_after, events_of, IsRun}
use Rattle.machine_steps.specs.Draining.{step_of, some_step, step_in, network_step, drain_step, BringsNearer, drain_bound, first_steps, drain_steps, IsDrained}
use Rattle.machine_steps.proofs.Running.{all_after_more, run_begins, run_more}
use Rattle.machine_steps.proofs.Stalling.{keeps}

-- ---- the next step

pub some_none : (o : Option theory.Step) → some_step o ≡ None → o ≡ None
some_none None e = refl
some_none (Some st) e = absurd (cc)

-- If an option of the theory's steps turns into a step, it has a step of the theory that turns into that step.
pub named_step : (o : Option theory.Step) (s : Step) → some_step o ≡ Some s → (st : theory.Step) × (o ≡ Some st) × (step_of st ≡ s)
named_step None s e = absurd (cc)
named_step (Some st) s e = (st, refl, (let same : step_of st ≡ s = cc in same))

-- A step of the theory is the same after it is turned into a machine's step and back.
pub named_again : (st : theory.Step) → named (step_of st) ≡ st
named_again (theory.Turn p) = refl
named_again (theory.Up s w) = refl
named_again (theory.Serve m) = refl
named_again (theory.Down s w) = refl
named_again (theory.Poke q) = refl

module _ (m : MachineLists) (is : IsMachine m) where
  -- The step found in the network is the next step of the machine's drain.
  pub step_is : network_step m.network ≡ drain_step m
  unfolding machine_of_parts
  step_is = ap (λ z. step_in z (net_of m.network)) is.sizes

  room : m.config.r < m.config.c
  room = is.limits.answers

  -- The next step of a drain does something, and lowers the sum of the distances.
  pub goes_on : (s : Step) → drain_step m ≡ Some s → BringsNearer m s
  unfolding outcome_of after machine_of_parts
  goes_on s names =
      let M : theory.Machine ObservedCore = machine_of m (λ p. []) in
      let n = named_step (draining.drain_step (sizes_of m.config) M) s names in
      let d = subst (DrainIs (sizes_of m.config) (program m.config m.code) M) n.1
      (drain_is (sizes_of m.config) (program m.config m.code) M is.role is.steady room) in
      let same : n.0 ≡ named s = sym (named_again n.0) ∙ ap named n.2 in
      let nearer = subst (λ st. (f g : ℕ → ℕ) → AreDistances (sizes_of m.config) M f →
      AreDistances (sizes_of m.config) (theory.step (sizes_of m.config) (program m.config m.code) M st).machine g →
      total g (2 ^ m.config.k) < total f (2 ^ m.config.k)) same d.1 in
      let f = distances_are (sizes_of m.config) (program m.config m.code) M is.role is.steady in
      record {
        moves = λ e.
            let kept = keeps m.config m.code M is.steady.refers s e in
            let less = nearer f.0 f.0 f.1 (subst (λ N. AreDistances (sizes_of m.config) N f.0) (sym kept) f.1) in omega (arith, less);
        nearer = nearer;
      }

  -- The next step of a drain, if there is one, does something and brings open references nearer to their ends.
  pub named_goes_on : (o : Option Step) → o ≡ drain_step m → IfSome o (BringsNearer m)
  named_goes_on None e = tt
  named_goes_on (Some s) e = goes_on s (sym e)

  -- If a drain has no next step, no reference is open.
  pub none_idle : drain_step m ≡ None → IsIdle m
  unfolding machine_of_parts
  none_idle e =
      let d = drain_is (sizes_of m.config) (program m.config m.code) (machine_of m (λ p. [])) is.role is.steady room in
      let none : draining.drain_step (sizes_of m.config) (machine_of m (λ p. [])) ≡ None =
      some_none (draining.drain_step (sizes_of m.config) (machine_of m (λ p. []))) e in
      let shut = subst (DrainIs (sizes_of m.config) (program m.config m.code) (machine_of m (λ p. []))) none d in
      λ p within. shut p

  -- If no reference is open, a drain has no next step.
  pub idle_none : IsIdle m → drain_step m ≡ None
  unfolding machine_of_parts
  idle_none idle = ap some_step (idle_names_none (sizes_of m.config) (program m.config m.code) (machine_of m (λ p. [])) is.role is.steady idle)

-- ---- a drain under way

no_tail : (xs ys : List Step) → length (xs ++ ys) ≤ length xs → xs ++ ys ≡ xs
no_tail xs [] few = append-nil xs
no_tail xs (y ∷ ys) few = let all = length-append xs (y ∷ ys) in absurd (omega (arith, all, few))

-- A drain of at most `bound` steps has taken these. The steps to come are those of a drain from the machine as it is
-- now.
pub record IsUnderWay (old : MachineLists) (bound : ℕ) (done : List Step) (m : MachineLists) : Type 0 where
  -- how many steps may still come
  pub left : ℕ
  -- taken and to come, they are the bound
  pub split : length done + left ≡ bound
  -- the steps that were taken are a run
  pub run : IsRun old done m
  -- the steps of the drain are those taken, followed by those from where they lead
  pub rest : first_steps bound old ≡ done ++ map step_of
      (draining.drain_steps (sizes_of old.config) (program old.config old.code) left (all_after old.config old.code (machine_of old (λ p. [])) done))

-- A drain begins with no step taken.
pub drain_begins : (bound : ℕ) (m : MachineLists) → IsUnderWay m bound [] m
unfolding all_after
drain_begins bound m = record { left = bound; split = omega arith; run = run_begins m; rest = refl }

module _ (old m : MachineLists) (bound : ℕ) (done : List Step) (d : IsUnderWay old bound done m) where
  abbrev M0 : theory.Machine ObservedCore
  M0 = machine_of old (λ p. [])

  abbrev here : theory.Machine ObservedCore
  here = all_after old.config old.code M0 done

  -- The next step of the machine's drain is that of the theory's drain.
  same_next : theory.drain_step (sizes_of old.config) here ≡ draining.drain_step (sizes_of m.config) (machine_of m (λ p. []))
  unfolding machine_of_parts
  same_next = ap (draining.drain_step (sizes_of old.config)) (sym (d.run.after (λ p. [])))
      ∙ ap (λ c. draining.drain_step (sizes_of c) (machine_of m (events_of here))) (sym d.run.config)

  abbrev after_named : theory.Step → theory.Machine ObservedCore
  after_named st = (theory.step (sizes_of old.config) (program old.config old.code) here st).machine

  next_rest : (st : theory.Step) (n : ℕ) → draining.drain_step (sizes_of old.config) here ≡ Some st →
      draining.drain_steps (sizes_of old.config) (program old.config old.code) (suc n) here
      ≡ st ∷ draining.drain_steps (sizes_of old.config) (program old.config old.code) n (after_named st)
  unfolding draining.drain_steps
  next_rest st n e =
      ap (λ o. elim o [ Some st ↦ st ∷ draining.drain_steps (sizes_of old.config) (program old.config old.code) n (after_named st) | None ↦ [] ]) e

  no_rest : (n : ℕ) → theory.drain_step (sizes_of old.config) here ≡ None → draining.drain_steps (sizes_of old.config) (program old.config old.code) n here ≡ []
  unfolding draining.drain_steps
  no_rest zero e = refl
  no_rest (suc n) e =
      ap (λ o. elim o [ Some st ↦ st ∷ draining.drain_steps (sizes_of old.config) (program old.config old.code) n (after_named st) | None ↦ [] ]) e

  none_left : draining.drain_steps (sizes_of old.config) (program old.config old.code) zero here ≡ []
  unfolding draining.drain_steps
  none_left = refl

  after_is : (st : theory.Step) (s : Step) → step_of st ≡ s → after_named st ≡ all_after old.config old.code M0 (done ++ s ∷ [])
  unfolding after
  after_is st s e =
      ap after_named (sym (named_again st)) ∙ ap (λ t. after_named (named t)) e ∙ sym (all_after_more old.config old.code M0 done s)

  -- If the next step of a drain is taken within its bound, the drain is under way with that step last.
  pub drain_goes_on : (s : Step) (o : Outcome) (new : MachineLists) → length done < bound → drain_step m ≡ Some s → IsStep m s o new →
      IsUnderWay old bound (done ++ s ∷ []) new
  drain_goes_on s o new within names is =
      let n = named_step (draining.drain_step (sizes_of m.config) (machine_of m (λ p. []))) s names in
      by n.0 (same_next ∙ n.1) n.2 d.left refl
    where
      by : (st : theory.Step) → draining.drain_step (sizes_of old.config) here ≡ Some st → step_of st ≡ s → (left : ℕ) → left ≡ d.left →
          IsUnderWay old bound (done ++ s ∷ []) new
      by st e same zero l = let split = d.split in absurd (omega (arith, within, split, l))
      by st e same (suc n) l = record {
        left = n;
        split = (let split = d.split in let more = length-append done (s ∷ []) in omega (arith, split, l, more));
        run = run_more old m new done s o d.run is;
        rest =
            d.rest
            ∙ ap (λ n. done ++ map step_of (draining.drain_steps (sizes_of old.config) (program old.config old.code) n here)) (sym l)
            ∙ ap (λ xs. done ++ map step_of xs) (next_rest st n e)
            ∙ ap₂ (λ a M. done ++ a ∷ map step_of (draining.drain_steps (sizes_of old.config) (program old.config old.code) n M)) same (after_is st s same)
            ∙ sym (append_assoc done (s ∷ []) (map step_of
            (draining.drain_steps (sizes_of old.config) (program old.config old.code) n (all_after old.config old.code M0 (done ++ s ∷ [])))));
      }

  ended : draining.drain_steps (sizes_of old.config) (program old.config old.code) d.left here ≡ [] → first_steps bound old ≡ done
  ended e = d.rest ∙ ap (λ xs. done ++ map step_of xs) e ∙ append-nil done

  -- All steps are taken if no further step is named.
  pub all_taken : drain_step m ≡ None → first_steps bound old ≡ done
  all_taken none = ended (no_rest d.left (same_next ∙ some_none (draining.drain_step (sizes_of m.config) (machine_of m (λ p. []))) none))

  -- All steps are taken if as many were taken as there are.
  pub none_more : length (first_steps bound old) ≤ length done → first_steps bound old ≡ done
  none_more few =
      let rest : List Step = map step_of (draining.drain_steps (sizes_of old.config) (program old.config old.code) d.left here) in
      d.rest ∙ no_tail done rest (subst (λ xs. length xs ≤ length done) d.rest few)

  machine_is : (ts : List theory.Step) (M : theory.Machine ObservedCore) →
      all_after old.config old.code M (map step_of ts) ≡ theory.machine_after (sizes_of old.config) (program old.config old.code) ts M
  unfolding all_after after theory.machine_after
  machine_is [] M = refl
  machine_is (t ∷ ts) M =
      ap (λ u. all_after old.config old.code (theory.step (sizes_of old.config) (program old.config old.code) M u).machine (map step_of ts)) (named_again t)
      ∙ machine_is ts (theory.step (sizes_of old.config) (program old.config old.code) M t).machine

  -- the steps of a drain of at most n steps
  abbrev drained_from : ℕ → theory.Machine ObservedCore → List theory.Step
  drained_from n K = draining.drain_steps (sizes_of old.config) (program old.config old.code) n K

  abbrev after_theory : theory.Machine ObservedCore → theory.Step → theory.Machine ObservedCore
  after_theory K st = (theory.step (sizes_of old.config) (program old.config old.code) K st).machine

  abbrev drained_by : ℕ → theory.Machine ObservedCore → Option theory.Step → List theory.Step
  drained_by n K o = elim o [ Some st ↦ st ∷ drained_from n (after_theory K st) | None ↦ [] ]

  abbrev Ended : List theory.Step → theory.Machine ObservedCore → Type 0
  Ended steps K = theory.drain_step (sizes_of old.config) (theory.machine_after (sizes_of old.config) (program old.config old.code) steps K) ≡ None

  all_longer : (n N : ℕ) (M : theory.Machine ObservedCore) → n ≤ N → Ended (drained_from n M) M → drained_from N M ≡ drained_from n M
  unfolding draining.drain_steps theory.machine_after
  all_longer zero zero M few e = refl
  all_longer zero (suc N) M few e = ap (drained_by N M) e
  all_longer (suc n) zero M few e = absurd (omega (arith, few))
  all_longer (suc n) (suc N) M few e =
      by (λ st. all_longer n N (after_theory M st) (omega (arith, few))) (draining.drain_step (sizes_of old.config) M) e
    where
      by : ((st : theory.Step) → Ended (drained_from n (after_theory M st)) (after_theory M st) →
          drained_from N (after_theory M st) ≡ drained_from n (after_theory M st)) →
          (o : Option theory.Step) → Ended (drained_by n M o) M → drained_by N M o ≡ drained_by n M o
      by later None e = refl
      by later (Some st) e = ap (λ xs. st ∷ xs) (later st e)

  -- After all steps, no reference is open if the sum of the distances is at most the bound.
  pub taken_idle : IsMachine old → first_steps bound old ≡ done → (f : ℕ → ℕ) → AreDistances (sizes_of old.config) M0 f → total f (2 ^ old.config.k) ≤ bound →
      IsIdle m
  unfolding machine_of_parts
  taken_idle is e f are enough =
      let all = draining.drain_steps (sizes_of old.config) (program old.config old.code) bound M0 in
      let there : here ≡ theory.machine_after (sizes_of old.config) (program old.config old.code) all M0 =
      ap (all_after old.config old.code M0) (sym e) ∙ machine_is all M0 in
      let shut = drained (sizes_of old.config) (program old.config old.code) bound M0 is.role f is.steady (room old is) are enough in
      λ p within. ap (λ (M : theory.Machine ObservedCore). M.is_open p) (d.run.after (λ p. []) ∙ there) ∙ shut p

-- ---- a whole drain

module _ (old m : MachineLists) (done : List Step) (d : IsUnderWay old (drain_bound old.config) done m) where
  is_drained : drain_steps old ≡ done → IsIdle m → IsDrained old (length done) m
  is_drained e idle = record {
    run = subst (λ steps. IsRun old steps m) (sym e) d.run;
    moves = ap length (sym e);
    bound = (let split = d.split in omega (arith, split));
    idle = idle;
  }

  -- If no step is named, the machine is drained.
  pub drain_stops : drain_step m ≡ None → IsIdle m → IsDrained old (length done) m
  drain_stops none idle = is_drained (all_taken old m (drain_bound old.config) done d none) idle

  -- If all steps are taken, the machine is drained.
  pub drain_is_whole : IsMachine old → drain_steps old ≡ done → IsDrained old (length done) m
  drain_is_whole is e =
      let M = machine_of old (λ p. []) in
      let f = distances_are (sizes_of old.config) (program old.config old.code) M is.role is.steady in
      is_drained e (taken_idle old m (drain_bound old.config) done d is e f.0 f.1
      (distances_bound (sizes_of old.config) (program old.config old.code) M is.role is.steady f.0 f.1))

-- ---- how many steps a drain takes

-- A drain takes no more steps than its bound.
pub drain_is_bounded : (m : MachineLists) → length (drain_steps m) ≤ drain_bound m.config
drain_is_bounded m =
    let all = draining.drain_steps (sizes_of m.config) (program m.config m.code) (drain_bound m.config) (machine_of m (λ p. [])) in
    let same = length-map all step_of in
    let few = drain_is_short (sizes_of m.config) (program m.config m.code) (drain_bound m.config) (machine_of m (λ p. [])) in
    omega (arith, same, few)

-- A drain takes at most as many steps as the sum of the distances.
pub steps_short : (m : MachineLists) → IsMachine m → (n : ℕ) (f : ℕ → ℕ) → AreDistances (sizes_of m.config) (machine_of m (λ p. [])) f →
    total f (2 ^ m.config.k) ≤ n → n ≤ drain_bound m.config →
    length (drain_steps m) ≤ n
steps_short m is n f are enough few =
    let z = sizes_of m.config in
    let P = program m.config m.code in
    let M : theory.Machine ObservedCore = machine_of m (λ p. []) in
    let some = draining.drain_steps z P n M in
    let all = draining.drain_steps z P (drain_bound m.config) M in
    let s = steady_after z P some M is.role is.steady in
    let shut = drained z P n M is.role f is.steady (room m is) are enough in
    let ended = idle_names_none z P (theory.machine_after z P some M) s.0 s.1 (λ p within. shut p) in
    let same : all ≡ some = all_longer m m n [] (drain_begins n m) n (drain_bound m.config) M few ended in
    let count : length (drain_steps m) ≡ length some = length-map all step_of ∙ ap length same in
    let short = drain_is_short z P n M in
    omega (arith, count, short)
