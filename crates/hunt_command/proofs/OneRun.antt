-- The machine's size, the image, the run's number and the limit on steps and turns determine the steps of a run.
use Rattle.std.proofs.Common.{◌≡◌, ℕ, ◌+◌, ◌≤◌, ◌⊎◌, inl, inr, true, List, [], ◌∷◌, ◌++◌, length, refl, sym, ap, ap₂, ◌∙◌, subst, arith}
use Rattle.std.proofs.lemmas.List.{length-append}
use Rattle.flat_machine.specs.declared.config.Config.{Config}
use Rattle.elf_image.specs.Images.{ImageContents}
use Rattle.steps.specs.declared.step.Step.{Step}
use Rattle.machine_steps.specs.Machines.{MachineLists}
use Rattle.machine_steps.specs.Runs.{IsReplay}
use Rattle.machine_log.specs.Logs.{Log}
use Rattle.steps.specs.Kinds.{no_poke}
use Rattle.steps.proofs.Lemmas.{no_poke_front}
use Rattle.schedules.specs.declared.sweeping.SweepEnd.{SweepEnd}
use Rattle.schedules.specs.declared.sweeping.SweepEnd.TheVariants.{Over, Budget}
use Rattle.schedules.proofs.Lemmas.{GoesOnFrom, HasEnded, WasAskedFor, goes_on}
use Rattle.schedules.specs.Sweeps.{most_of}
use Rattle.hunt_command.specs.declared.policy.Policy.{Policy}
use Rattle.hunt_command.specs.Runs.{EndsWith, IsRandomRun}
use Rattle.random_schedules.specs.Schedules.{schedule}
use Rattle.random_schedules.proofs.Lemmas.{no_poke_schedule}

-- ---- prefixes of one list

-- Of two prefixes of one list, one continues the other.
pub either_goes_on : (xs r ys s : List Step) → xs ++ r ≡ ys ++ s → GoesOnFrom xs ys ⊎ GoesOnFrom ys xs
either_goes_on [] r ys s e = inl (ys, refl)
either_goes_on (x ∷ xs) r [] s e = inr (x ∷ xs, refl)
either_goes_on (x ∷ xs) r (y ∷ ys) s e = by (either_goes_on xs r ys s (let rest : xs ++ r ≡ ys ++ s = cc in rest))
  where
    head : x ≡ y
    head = cc

    by : GoesOnFrom xs ys ⊎ GoesOnFrom ys xs → GoesOnFrom (x ∷ xs) (y ∷ ys) ⊎ GoesOnFrom (y ∷ ys) (x ∷ xs)
    by (inl (rest, is)) = inl (rest, ap₂ (λ z zs. z ∷ zs) (sym head) is)
    by (inr (rest, is)) = inr (rest, ap₂ (λ z zs. z ∷ zs) head is)

none_after : (xs ys zs : List Step) → length (xs ++ ys ++ zs) ≤ length xs → ys ≡ []
none_after xs [] zs short = refl
none_after xs (y ∷ ys) zs short =
    let one = length-append (xs ++ y ∷ ys) zs in let two = length-append xs (y ∷ ys) in absurd (omega (arith, one, two, short))

-- ---- two runs

module _ (c : Config) (image : ImageContents) (number : ℕ) (policy : Policy) where
  -- The schedule of a run is what was asked for and what was not.
  pub plan_is : (e : SweepEnd) (l : Log) (w : IsRandomRun c image number policy e l) →
      schedule policy.strategy c.k number (most_of policy.budget) ≡ w.ran.asked.asked ++ w.ran.asked.unasked
  plan_is e l w = ap (λ (d : Config). schedule policy.strategy d.k number (most_of policy.budget)) (sym w.opens.config) ∙ w.ran.asked.all

  asked_for : (e : SweepEnd) (l : Log) (w : IsRandomRun c image number policy e l) →
      WasAskedFor c image (0 + most_of policy.budget) w.ran.asked.asked w.ran.middle l
  asked_for e l w =
      let f = w.ran.asked in
      record {
        opens = w.opens;
        own = no_poke_front f.asked f.unasked (subst (λ xs. no_poke xs ≡ true) (plan_is e l w)
            (no_poke_schedule policy.strategy c.k number (most_of policy.budget)));
        steps = f.steps;
        replay = subst (λ m. IsReplay m w.ran.middle.steps w.ran.middle.machine) f.opening f.replay;
        few = f.few;
        first = f.first;
        drained = w.ran.steps;
      }

  -- If the first run was asked for its whole schedule, the second was asked for no more than the first.
  no_more : (e d : SweepEnd) (a b : Log) (one : IsRandomRun c image number policy e a) (two : IsRandomRun c image number policy d b) (rest : List Step) →
      two.ran.asked.asked ≡ one.ran.asked.asked ++ rest → one.ran.asked.unasked ≡ [] → rest ≡ []
  no_more e d a b one two rest is none =
      let whole : length (schedule policy.strategy c.k number (most_of policy.budget)) ≡ length (one.ran.asked.asked ++ []) =
      ap length (plan_is e a one ∙ ap (λ xs. one.ran.asked.asked ++ xs) none) in
      let all : length (schedule policy.strategy c.k number (most_of policy.budget)) ≡ length (one.ran.asked.asked ++ rest ++ two.ran.asked.unasked) =
      ap length (plan_is d b two ∙ ap (λ xs. xs ++ two.ran.asked.unasked) is) in
      let plain = length-append one.ran.asked.asked [] in
      none_after one.ran.asked.asked rest two.ran.asked.unasked (omega (arith, whole, all, plain))

has_ended : (m : MachineLists) (limit : ℕ) (steps unasked rest : List Step) (e : SweepEnd) → EndsWith m 0 limit steps unasked e →
    (unasked ≡ [] → rest ≡ []) → HasEnded limit m steps rest
has_ended m limit steps unasked rest Over over none = inl over
has_ended m limit steps unasked rest Budget (inl used, under) none = inr (inl used)
has_ended m limit steps unasked rest Budget (inr all, under) none = inr (inr (none all))

-- Two runs with the same number have the same steps.
pub one_run : (c : Config) (image : ImageContents) (number : ℕ) (policy : Policy) (end other : SweepEnd) (a b : Log) → IsRandomRun c image number policy end a →
    IsRandomRun c image number policy other b → a.steps ≡ b.steps
one_run c image number policy end other a b one two =
    goes_on (asked_for c image number policy end a one) (asked_for c image number policy other b two)
    (either_goes_on one.ran.asked.asked one.ran.asked.unasked two.ran.asked.asked two.ran.asked.unasked
    (sym (plan_is c image number policy end a one) ∙ plan_is c image number policy other b two))
    (λ rest is. has_ended a.opening (0 + most_of policy.budget) one.ran.middle.steps one.ran.asked.unasked rest end one.ran.asked.ends
    (no_more c image number policy end other a b one two rest is))
    (λ rest is. has_ended b.opening (0 + most_of policy.budget) two.ran.middle.steps two.ran.asked.unasked rest other two.ran.asked.ends
    (no_more c image number policy other end b a two one rest is))
