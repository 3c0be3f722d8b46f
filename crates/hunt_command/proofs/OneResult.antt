-- The machine's size, the image, the run's number and the limit on steps and turns determine the result of a run.
use Rattle.std.proofs.Common.{◌≡◌, ℕ, zero, suc, ◌+◌, ◌^◌, ◌<◌, ◌≤◌, ◌⊎◌, inl, inr, Bool, true, false, Option, Some, None, List, [], ◌∷◌, ◌++◌}
use Rattle.std.proofs.Common.{length, take, refl, sym, ap, ap₂, ◌∙◌, subst, arith}
use Rattle.std.specs.Prelude.{slice_index_or}
use Rattle.std.proofs.lemmas.Bool.{cases_eq}
use Rattle.std.proofs.lemmas.List.{append-nil, length-append, take_at}
use Rattle.flat_machine.specs.declared.config.Config.{Config}
use Rattle.flat_machine.specs.State.{Processor}
use Rattle.elf_image.specs.Images.{ImageContents}
use Rattle.steps.specs.declared.step.Step.{Step}
use Rattle.machine_steps.specs.machine_theory.Processors.{ObservedCore, word_at}
use Rattle.machine_steps.specs.machine_theory.Steps.{machine_of_parts, outcome_of}
use Rattle.machine_steps.specs.machine_theory.Theory as theory
use Rattle.machine_steps.specs.Machines.{MachineLists, machine_of}
use Rattle.machine_steps.specs.Runs.{IsOpening, all_after, answer_after, events_of}
use Rattle.machine_steps.specs.Standing.{HasFaulted, IsFaulted, processor_of}
use Rattle.machine_steps.proofs.Lemmas.{alike, same_code, same_config}
use Rattle.machine_log.specs.Logs.{Log, entered}
use Rattle.schedules.specs.Sweeps.{IsFault, IsOver, RunsAfter, entered_of, most_of}
use Rattle.schedules.specs.declared.sweeping.SweepEnd.{SweepEnd}
use Rattle.schedules.specs.declared.sweeping.SweepEnd.TheVariants.{Over, Budget}
use Rattle.schedules.proofs.Lemmas.{GoesOnFrom, asked_append, longer}
use Rattle.command_io.specs.Events.{shown_by}
use Rattle.command_io.specs.Lines.{word_lines}
use Rattle.command_io.specs.Tallies.{ShownBy, nothing_shown}
use Rattle.run_reports.specs.Reports.{IsExitOf, shared_lines}
use Rattle.observed_results.specs.Lines.{observed_line}
use Rattle.hunt_command.specs.declared.policy.Policy.{Policy}
use Rattle.hunt_command.specs.Hunts.{IsResultOf, ResultState}
use Rattle.hunt_command.specs.Lines.{end_line, observed_lines, outcome_line, outcome_lines, result_of}
use Rattle.hunt_command.specs.Runs.{IsRandomRun}
use Rattle.hunt_command.proofs.OneRun.{either_goes_on, one_run, plan_is}

-- ---- two machines that open on one image

module _ (c : Config) (image : ImageContents) (m n : MachineLists) (one : IsOpening c image m) (two : IsOpening c image n) where
  same_answer : (done : List Step) (s : Step) → answer_after m done s ≡ answer_after n done s
  same_answer done s i =
      outcome_of (same_config c image m n one two i) (same_code c image m n one two i) (alike c image m n one two done (λ p. []) i) s

  same_entered : (done asked : List Step) → entered_of m done asked ≡ entered_of n done asked
  unfolding entered_of
  same_entered done [] = refl
  same_entered done (s ∷ ss) = ap (λ o. entered_of m (entered done s o) ss) (same_answer done s) ∙ same_entered (entered done s (answer_after n done s)) ss

  runs_there : (done : List Step) → RunsAfter n done → RunsAfter m done
  runs_there done (p, within, runs) = (
    p,
    subst (λ (d : Config). p < 2 ^ d.k) (sym (same_config c image m n one two)) within,
    ap (λ (M : theory.Machine ObservedCore). (M.core p).state.status) (alike c image m n one two done (λ p. [])) ∙ runs,
  )

  -- If a run is over on one of them, it is over on the other.
  over_there : (done : List Step) → IsOver m 0 done → IsOver n 0 done
  over_there done (inl f) =
      inl (record { before = f.before; last = f.last; is = f.is; after = f.after; fault = subst IsFault (same_answer f.before f.last) f.fault })
  over_there done (inr none) = inr (λ runs. none (runs_there done runs))

-- ---- how two runs with one number end

-- One run is over, and the other has used up its budget: that cannot be.
module _ (c : Config) (image : ImageContents) (number : ℕ) (policy : Policy) (a b : Log) (one : IsRandomRun c image number policy Over a)
    (two : IsRandomRun c image number policy Budget b) where
  abbrev xs : List Step
  xs = one.ran.middle.steps

  abbrev ys : List Step
  ys = two.ran.middle.steps

  over : IsOver b.opening 0 xs
  over = over_there c image a.opening b.opening one.opens two.opens xs one.ran.asked.ends

  -- They do not have the same steps before they are drained.
  not_same : ys ≡ xs → ⊥
  not_same is = two.ran.asked.ends.1 (subst (IsOver b.opening 0) (sym is) over)

  -- The second does not go on after the first.
  not_after : (s : Step) (ss : List Step) → ys ≡ xs ++ s ∷ ss → ⊥
  not_after s ss is =
      let count = length-append xs (s ∷ ss) in
      let more : length xs < length ys = (let long = ap length is in omega (arith, count, long)) in
      two.ran.asked.first (length xs) (omega arith) more
      (subst (IsOver b.opening 0) (sym (ap (take (length xs)) is ∙ take_at xs (s ∷ ss) (length xs) refl)) over)

  -- If the second was asked for its whole schedule, it has as many steps as the first.
  as_many : two.ran.asked.unasked ≡ [] → length xs ≤ length ys
  as_many none =
      let f = one.ran.asked in
      let g = two.ran.asked in
      let whole : f.asked ++ f.unasked ≡ g.asked =
      sym (plan_is c image number policy Over a one) ∙ plan_is c image number policy Budget b two
      ∙ ap (λ zs. g.asked ++ zs) none ∙ append-nil g.asked in
      let first : xs ≡ entered_of b.opening [] f.asked =
      f.steps ∙ same_entered c image a.opening b.opening one.opens two.opens [] f.asked in
      let there : ys ≡ entered_of b.opening xs f.unasked =
      g.steps ∙ ap (entered_of b.opening []) (sym whole) ∙ asked_append b.opening [] f.asked f.unasked
      ∙ ap (λ done. entered_of b.opening done f.unasked) (sym first) in
      subst (λ zs. length xs ≤ length zs) (sym there) (longer b.opening xs f.unasked)

  -- The first does not go on after the second.
  not_before : (s : Step) (ss : List Step) → xs ≡ ys ++ s ∷ ss → ⊥
  not_before s ss is = by two.ran.asked.ends.0
    where
      less : length ys < length xs
      less = (let count = length-append ys (s ∷ ss) in let long = ap length is in omega (arith, count, long))

      by : (length ys ≡ 0 + most_of policy.budget) ⊎ (two.ran.asked.unasked ≡ []) → ⊥
      by (inl used) = (let few = one.ran.asked.few in absurd (omega (arith, few, used, less)))
      by (inr none) = (let many = as_many none in absurd (omega (arith, many, less)))

  apart : ⊥
  apart = by (either_goes_on xs _ ys _ (sym one.ran.steps ∙ one_run c image number policy Over Budget a b one two ∙ two.ran.steps))
    where
      by : GoesOnFrom xs ys ⊎ GoesOnFrom ys xs → ⊥
      by (inl ([], is)) = not_same (is ∙ append-nil xs)
      by (inl (s ∷ ss, is)) = not_after s ss is
      by (inr ([], is)) = not_same (sym (is ∙ append-nil ys))
      by (inr (s ∷ ss, is)) = not_before s ss is

-- Two runs with one number end in the same way.
same_end : (c : Config) (image : ImageContents) (number : ℕ) (policy : Policy) (e d : SweepEnd) (a b : Log) → IsRandomRun c image number policy e a →
    IsRandomRun c image number policy d b → e ≡ d
same_end c image number policy Over Over a b one two = refl
same_end c image number policy Over Budget a b one two = absurd (apart c image number policy a b one two)
same_end c image number policy Budget Over a b one two = absurd (apart c image number policy b a two one)
same_end c image number policy Budget Budget a b one two = refl

-- ---- exit statuses

-- An exit status that is not 0 is 1.
failed : (m : MachineLists) (status : ℕ) → IsExitOf m status → (status ≡ 0 → ⊥) → status ≡ 1
failed m status e some = at (cases_eq status 1)
  where
    at : (status ≡ 1) ⊎ (status ≡ 1 → ⊥) → status ≡ 1
    at (inl is) = is
    at (inr other) = absurd (some (e.sound (λ h. other (e.faulted h))))

-- If the exit status is 0, no fault has stopped a processor.
clean : (m : MachineLists) (status : ℕ) → IsExitOf m status → status ≡ 0 → HasFaulted m → ⊥
clean m status e none h = let wrong : status ≡ 1 = e.faulted h in absurd (omega (arith, none, wrong))

-- If a fault has stopped a processor of both machines or of neither, they have the same exit status.
one_exit : (m n : MachineLists) (s t : ℕ) → IsExitOf m s → IsExitOf n t → (HasFaulted m → HasFaulted n) → (HasFaulted n → HasFaulted m) → s ≡ t
one_exit m n s t a b to from = by (cases_eq s 0) (cases_eq t 0)
  where
    by : (s ≡ 0) ⊎ (s ≡ 0 → ⊥) → (t ≡ 0) ⊎ (t ≡ 0 → ⊥) → s ≡ t
    by (inl p) (inl q) = p ∙ sym q
    by (inl p) (inr q) = absurd (q (b.sound (λ h. clean m s a p (from h))))
    by (inr p) (inl q) = absurd (p (a.sound (λ h. clean n t b q (to h))))
    by (inr p) (inr q) = failed m s a p ∙ sym (failed n t b q)

faulted_alike : (m n : MachineLists) → m.config ≡ n.config → ((p : ℕ) → processor_of m p ≡ processor_of n p) → HasFaulted m → HasFaulted n
faulted_alike m n size is h =
    (h.0, subst (λ (d : Config). h.0 < 2 ^ d.k) size h.1, subst (λ (q : Processor). IsFaulted q.status) (is h.0) h.2)

-- ---- results

module _ (observed : Option (List Bool)) (c : Config) (image : ImageContents) (policy : Policy) (number : ℕ) (r s : ResultState)
    (one : IsResultOf observed c image policy number r) (two : IsResultOf observed c image policy number s) where
  abbrev m : MachineLists
  m = one.machine

  abbrev n : MachineLists
  n = two.machine

  abbrev M : theory.Machine ObservedCore
  M = all_after one.opening.config one.opening.code (machine_of one.opening (λ p. [])) one.log.steps

  abbrev N : theory.Machine ObservedCore
  N = all_after two.opening.config two.opening.code (machine_of two.opening (λ p. [])) two.log.steps

  steps_are : one.log.steps ≡ two.log.steps
  steps_are = one_run c image number policy r.end s.end one.log two.log one.ran two.ran

  end_is : r.end ≡ s.end
  end_is = same_end c image number policy r.end s.end one.log two.log one.ran two.ran

  same : M ≡ N
  same =
      alike c image one.opening two.opening one.opens two.opens one.log.steps (λ p. [])
      ∙ ap (all_after two.opening.config two.opening.code (machine_of two.opening (λ p. []))) steps_are

  there : machine_of m (events_of M) ≡ machine_of n (events_of N)
  there = one.replay_counted.replay.run.after (λ p. []) ∙ same ∙ sym (two.replay_counted.replay.run.after (λ p. []))

  first_config : m.config ≡ c
  first_config = one.replay_counted.replay.run.config ∙ one.opens.config

  second_config : n.config ≡ c
  second_config = two.replay_counted.replay.run.config ∙ two.opens.config

  processors : (p : ℕ) → processor_of m p ≡ processor_of n p
  unfolding machine_of_parts
  processors p = ap (λ (X : theory.Machine ObservedCore). (X.core p).state) there

  words : (i : ℕ) → word_at m.config.k m.modules i ≡ word_at n.config.k n.modules i
  unfolding machine_of_parts
  words i = ap (λ (X : theory.Machine ObservedCore). X.mem i) there

  shown : (p : ℕ) → p < 2 ^ c.k → slice_index_or one.tally.shown p nothing_shown ≡ slice_index_or two.tally.shown p nothing_shown
  shown p within =
      one.replay_counted.tally.each p (subst (λ (d : Config). p < 2 ^ d.k) (sym one.opens.config) within)
      ∙ ap (λ (X : theory.Machine ObservedCore). shown_by (events_of X p)) same
      ∙ sym (two.replay_counted.tally.each p (subst (λ (d : Config). p < 2 ^ d.k) (sym two.opens.config) within))

  outcomes : (has_pc : Bool) (count : ℕ) → count ≤ 2 ^ c.k → outcome_lines has_pc m one.tally.shown count ≡ outcome_lines has_pc n two.tally.shown count
  outcomes has_pc zero few = refl
  outcomes has_pc (suc p) few =
      let line : outcome_line has_pc p (processor_of m p).pc (processor_of m p).status (slice_index_or one.tally.shown p nothing_shown)
      ≡ outcome_line has_pc p (processor_of n p).pc (processor_of n p).status (slice_index_or two.tally.shown p nothing_shown) =
      ap₂ (λ (q : Processor) (x : ShownBy). outcome_line has_pc p q.pc q.status x) (processors p) (shown p (omega (arith, few))) in
      ap₂ (λ (xs ys : List ℕ). xs ++ ys) (outcomes has_pc p (omega (arith, few))) line

  all_words : (count : ℕ) → shared_lines m count ≡ shared_lines n count
  all_words zero = refl
  all_words (suc i) = ap₂ (λ (xs ys : List ℕ). xs ++ ys) (all_words i) (ap (word_lines i) (words i))

  chosen_words : (chosen : Option (List Bool)) (count : ℕ) → observed_lines chosen m count ≡ observed_lines chosen n count
  chosen_words None count = all_words count
  chosen_words (Some marks) zero = refl
  chosen_words (Some marks) (suc i) = ap₂ (λ (xs ys : List ℕ). xs ++ ys) (chosen_words (Some marks) i) (ap (observed_line marks i) (words i))

  -- The result of a machine of this size.
  result_by : (has_pc : Bool) (end : SweepEnd) (k : MachineLists) (t : List ShownBy) → k.config ≡ c →
      result_of observed has_pc end k t ≡ end_line end ++ outcome_lines has_pc k t (2 ^ c.k) ++ observed_lines observed k c.shared_words
  result_by has_pc end k t is =
      ap (λ (d : Config). end_line end ++ outcome_lines has_pc k t (2 ^ d.k) ++ observed_lines observed k d.shared_words) is

  text_is : (has_pc : Bool) → result_of observed has_pc r.end m one.tally.shown ≡ result_of observed has_pc s.end n two.tally.shown
  text_is has_pc =
      result_by has_pc r.end m one.tally.shown first_config
      ∙ ap (λ (e : SweepEnd). end_line e ++ outcome_lines has_pc m one.tally.shown (2 ^ c.k) ++ observed_lines observed m c.shared_words) end_is
      ∙ ap₂ (λ (xs ys : List ℕ). end_line s.end ++ xs ++ ys) (outcomes has_pc (2 ^ c.k) (omega arith)) (chosen_words observed c.shared_words)
      ∙ sym (result_by has_pc s.end n two.tally.shown second_config)

  status_is : r.status ≡ s.status
  status_is =
      one_exit m n r.status s.status one.exit two.exit (faulted_alike m n (first_config ∙ sym second_config) processors)
      (faulted_alike n m (second_config ∙ sym first_config) (λ p. sym (processors p)))

  -- Runs with one number have one result.
  pub one_result : r ≡ s
  one_result =
      let text : r.text ≡ s.text = one.is ∙ text_is false ∙ sym two.is in
      let printed : r.printed ≡ s.printed = one.printed_is ∙ text_is true ∙ sym two.printed_is in
      let end = end_is in
      let status = status_is in
      (λ i. record { text = text i; printed = printed i; end = end i; status = status i })
