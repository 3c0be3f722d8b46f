-- The machine's size, the image and the steps determine the report and its exit status.
use Rattle.std.proofs.Common.{◌≡◌, ℕ, zero, suc, ◌^◌, ◌<◌, ◌≤◌, ◌⊎◌, inl, inr, List, [], ◌++◌, refl, sym, ap, ap₂, ◌∙◌, subst, arith}
use Rattle.std.specs.Prelude.{slice_index_or}
use Rattle.std.proofs.lemmas.Bool.{cases_eq}
use Rattle.flat_machine.specs.declared.config.Config.{Config}
use Rattle.flat_machine.specs.State.{Processor}
use Rattle.machine_steps.specs.elf_image.Images.{ImageContents}
use Rattle.machine_steps.specs.machine_theory.Theory as theory
use Rattle.steps.specs.declared.step.Step.{Step}
use Rattle.machine_steps.specs.machine_theory.Processors.{ObservedCore, word_at}
use Rattle.machine_steps.specs.machine_theory.Steps.{machine_of_parts}
use Rattle.machine_steps.specs.Machines.{MachineLists, machine_of}
use Rattle.machine_steps.specs.Runs.{all_after, events_of}
use Rattle.machine_steps.proofs.Lemmas.{alike}
use Rattle.command_io.specs.Events.{shown_by}
use Rattle.command_io.specs.Lines.{processor_line, word_lines}
use Rattle.command_io.specs.Tallies.{ShownBy, TallyState, nothing_shown}
use Rattle.run_reports.specs.RunReports.{IsReportOf}
use Rattle.machine_steps.specs.Standing.{HasFaulted, IsFaulted, processor_of}
use Rattle.run_reports.specs.Reports.{IsExitOf, processor_lines, report_of, shared_lines}

-- ---- exit statuses

-- If a fault has stopped a processor of both machines or of neither, they have the same exit status.
one_exit : (m n : MachineLists) (s t : ℕ) → IsExitOf m s → IsExitOf n t → (HasFaulted m → HasFaulted n) → (HasFaulted n → HasFaulted m) → s ≡ t
one_exit m n s t a b to from = by (cases_eq s 0) (cases_eq t 0)
  where
    -- An exit status that is not 0 is 1.
    failed : (k : MachineLists) (u : ℕ) → IsExitOf k u → (u ≡ 0 → ⊥) → u ≡ 1
    failed k u e some = at (cases_eq u 1)
      where
        at : (u ≡ 1) ⊎ (u ≡ 1 → ⊥) → u ≡ 1
        at (inl is) = is
        at (inr other) = absurd (some (e.sound (λ h. other (e.faulted h))))

    -- If the exit status is 0, no fault has stopped a processor.
    clean : (k : MachineLists) → IsExitOf k 0 → HasFaulted k → ⊥
    clean k e h = (let wrong : 0 ≡ 1 = e.faulted h in omega (arith, wrong))

    by : (s ≡ 0) ⊎ (s ≡ 0 → ⊥) → (t ≡ 0) ⊎ (t ≡ 0 → ⊥) → s ≡ t
    by (inl p) (inl q) = p ∙ sym q
    by (inl p) (inr q) = absurd (q (b.sound (λ h. clean m (subst (IsExitOf m) p a) (from h))))
    by (inr p) (inl q) = absurd (p (a.sound (λ h. clean n (subst (IsExitOf n) q b) (to h))))
    by (inr p) (inr q) = failed m s a p ∙ sym (failed n t b q)

-- ---- reports

module _ (c : Config) (image : ImageContents) (steps : List Step) (text text' : List ℕ) (status status' : ℕ) (one : IsReportOf c image steps text status)
    (two : IsReportOf c image steps text' status') where
  abbrev m : MachineLists
  m = one.machine

  abbrev n : MachineLists
  n = two.machine

  abbrev M : theory.Machine ObservedCore
  M = all_after one.opening.config one.opening.code (machine_of one.opening (λ p. [])) steps

  abbrev N : theory.Machine ObservedCore
  N = all_after two.opening.config two.opening.code (machine_of two.opening (λ p. [])) steps

  same : M ≡ N
  same = alike c image one.opening two.opening one.opens two.opens steps (λ p. [])

  there : machine_of m (events_of M) ≡ machine_of n (events_of N)
  there = one.replay_counted.replay.run.after (λ p. []) ∙ same ∙ sym (two.replay_counted.replay.run.after (λ p. []))

  first_config : m.config ≡ c
  first_config = one.replay_counted.replay.run.config ∙ one.opens.config

  second_config : n.config ≡ c
  second_config = two.replay_counted.replay.run.config ∙ two.opens.config

  processors : (p : ℕ) → processor_of m p ≡ processor_of n p
  unfolding machine_of_parts
  processors p = ap (λ (X : theory.Machine ObservedCore). (X.core p).state) there

  words : (i : ℕ) → word_at m.config.k m.modules i ≡ word_at n.config.k n.modules i
  unfolding machine_of_parts
  words i = ap (λ (X : theory.Machine ObservedCore). X.mem i) there

  shown : (p : ℕ) → p < 2 ^ c.k → slice_index_or one.tally.shown p nothing_shown ≡ slice_index_or two.tally.shown p nothing_shown
  shown p within =
      one.replay_counted.tally.each p (subst (λ (d : Config). p < 2 ^ d.k) (sym one.opens.config) within)
      ∙ ap (λ (X : theory.Machine ObservedCore). shown_by (events_of X p)) same
      ∙ sym (two.replay_counted.tally.each p (subst (λ (d : Config). p < 2 ^ d.k) (sym two.opens.config) within))

  processors_alike : (count : ℕ) → count ≤ 2 ^ c.k → processor_lines m one.tally.shown count ≡ processor_lines n two.tally.shown count
  processors_alike zero few = refl
  processors_alike (suc p) few =
      let line : processor_line p (processor_of m p).pc (processor_of m p).status (slice_index_or one.tally.shown p nothing_shown)
      ≡ processor_line p (processor_of n p).pc (processor_of n p).status (slice_index_or two.tally.shown p nothing_shown) =
      ap₂ (λ (q : Processor) (s : ShownBy). processor_line p q.pc q.status s) (processors p) (shown p (omega (arith, few))) in
      ap₂ (λ (xs ys : List ℕ). xs ++ ys) (processors_alike p (omega (arith, few))) line

  words_alike : (count : ℕ) → shared_lines m count ≡ shared_lines n count
  words_alike zero = refl
  words_alike (suc i) = ap₂ (λ (xs ys : List ℕ). xs ++ ys) (words_alike i) (ap (word_lines i) (words i))

  -- The report of a machine of this size is the lines of its processors and shared words.
  report_by : (k : MachineLists) (t : TallyState) → k.config ≡ c → report_of k t.shown ≡ processor_lines k t.shown (2 ^ c.k) ++ shared_lines k c.shared_words
  report_by k t is = ap (λ (d : Config). processor_lines k t.shown (2 ^ d.k) ++ shared_lines k d.shared_words) is

  -- Two reports of the same steps on the same image have the same text.
  pub one_text : text ≡ text'
  one_text =
      one.is
      ∙ report_by m one.tally first_config
      ∙ ap₂ (λ (xs ys : List ℕ). xs ++ ys) (processors_alike (2 ^ c.k) (omega arith)) (words_alike c.shared_words)
      ∙ sym (report_by n two.tally second_config)
      ∙ sym two.is

  faulted_alike : (a b : MachineLists) → a.config ≡ b.config → ((p : ℕ) → processor_of a p ≡ processor_of b p) → HasFaulted a → HasFaulted b
  faulted_alike a b size is h = (h.0, subst (λ (d : Config). h.0 < 2 ^ d.k) size h.1, subst (λ (q : Processor). IsFaulted q.status) (is h.0) h.2)

  -- Two reports of the same steps on the same image have the same exit status.
  pub one_status : status ≡ status'
  one_status =
      one_exit m n status status' one.exit two.exit
      (faulted_alike m n (first_config ∙ sym second_config) processors)
      (faulted_alike n m (second_config ∙ sym first_config) (λ p. sym (processors p)))
