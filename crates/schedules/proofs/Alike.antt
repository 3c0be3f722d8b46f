-- Two logs of one image enter the same steps if one is asked for the steps of the other and more, and the other has ended
-- there.
use Rattle.std.proofs.Common.{◌≡◌, ℕ, ◌^◌, ◌<◌, ◌≤◌, ◌⊎◌, inl, inr, true, List, [], ◌∷◌, ◌++◌, length, take, refl, sym, ap, ap₂, ◌∙◌, subst, arith}
use Rattle.std.proofs.lemmas.Bool.{cases_lt}
use Rattle.std.proofs.lemmas.List.{append-nil, length-append, take_at}
use Rattle.flat_machine.specs.declared.config.Config.{Config}
use Rattle.machine_steps.specs.elf_image.Images.{ImageContents}
use Rattle.steps.specs.declared.step.Step.{Step}
use Rattle.machine_steps.specs.machine_theory.Steps.{outcome_of}
use Rattle.machine_steps.specs.Draining.{drain_steps}
use Rattle.machine_steps.specs.Machines.{MachineLists, machine_of}
use Rattle.machine_steps.specs.Runs.{IsOpening, IsReplay, all_after, answer_after}
use Rattle.machine_steps.proofs.Lemmas.{drained_alike, same_code, same_config, same_machine}
use Rattle.machine_log.specs.Logs.{Log, entered}
use Rattle.steps.specs.Kinds.{no_poke}
use Rattle.steps.proofs.Lemmas.{no_poke_rest}
use Rattle.schedules.specs.Sweeps.{IsFault, IsOver, RunsAfter, entered_of, status_after}
use Rattle.schedules.proofs.Asking.{asked_append, none_asked}
use Rattle.schedules.proofs.NoPoke.{no_poke_entered}

-- If no more steps are entered than there were, the steps are those that there were.
no_longer : (m : MachineLists) (done asked : List Step) → no_poke asked ≡ true → length (entered_of m done asked) ≤ length done → entered_of m done asked ≡ done
no_longer m done asked own short = by (no_poke_entered m done asked own)
  where
    by : (rest : List Step) × (no_poke rest ≡ true) × (entered_of m done asked ≡ done ++ rest) → entered_of m done asked ≡ done
    by ([], o, is) = is ∙ append-nil done
    by (x ∷ rest, o, is) = absurd (let count = ap length is in let more = length-append done (x ∷ rest) in omega (arith, count, more, short))

-- ---- equal machines

module _ (m n : MachineLists) (config : m.config ≡ n.config) (code : m.code ≡ n.code) (machine : machine_of m (λ p. []) ≡ machine_of n (λ p. [])) where
  same_answer : (done : List Step) (s : Step) → answer_after m done s ≡ answer_after n done s
  same_answer done s i = outcome_of (config i) (code i) (all_after (config i) (code i) (machine i) done) s

  same_entered : (done asked : List Step) → entered_of m done asked ≡ entered_of n done asked
  unfolding entered_of
  same_entered done [] = refl
  same_entered done (s ∷ ss) = ap (λ o. entered_of m (entered done s o) ss) (same_answer done s) ∙ same_entered (entered done s (answer_after n done s)) ss

  same_status : (done : List Step) (p : ℕ) → status_after m done p ≡ status_after n done p
  same_status done p i = ((all_after (config i) (code i) (machine i) done).core p).state.status

  runs_there : (done : List Step) → RunsAfter n done → RunsAfter m done
  runs_there done (p, within, runs) = (p, subst (λ (c : Config). p < 2 ^ c.k) (sym config) within, same_status done p ∙ runs)

  over_there : (start : ℕ) (done : List Step) → IsOver m start done → IsOver n start done
  over_there start done (inl f) =
      inl (record { before = f.before; last = f.last; is = f.is; after = f.after; fault = subst IsFault (same_answer f.before f.last) f.fault })
  over_there start done (inr none) = inr (λ runs. none (runs_there done runs))

-- ---- two logs

-- A log whose machine opened on the image was asked for these steps, up to the limit, and then drained. It was not over before.
pub record WasAskedFor (c : Config) (image : ImageContents) (limit : ℕ) (asked : List Step) (middle log : Log) : Type 0 where
  -- Its machine opened on the image.
  pub opens : IsOpening c image log.opening
  -- The steps that were asked for write nothing from outside.
  pub own : no_poke asked ≡ true
  -- The steps of the middle log are what is entered of them.
  pub steps : middle.steps ≡ entered_of log.opening [] asked
  -- The middle log's machine is what its steps make of the opening.
  pub replay : IsReplay log.opening middle.steps middle.machine
  -- The steps of the middle log are at most as many as the limit.
  pub few : length middle.steps ≤ limit
  -- The sweep was over at no place before the end of these steps.
  pub first : (place : ℕ) → 0 ≤ place → place < length middle.steps → IsOver log.opening 0 (take place middle.steps) → ⊥
  -- Then come the steps of the drain of the middle log's machine.
  pub drained : log.steps ≡ middle.steps ++ drain_steps middle.machine

-- The sweep is over, or has as many steps as the limit, or no more steps were to be asked for.
abbrev pub HasEnded : (limit : ℕ) → (opening : MachineLists) → (steps rest : List Step) → Type 0
HasEnded limit m steps rest = IsOver m 0 steps ⊎ ((length steps ≡ limit) ⊎ (rest ≡ []))

module _ {c : Config} {image : ImageContents} {limit : ℕ} {xs ys : List Step} {first second a b : Log} (one : WasAskedFor c image limit xs first a)
    (two : WasAskedFor c image limit ys second b) where
  same_after : (rest : List Step) → ys ≡ xs ++ rest → HasEnded limit a.opening first.steps rest → second.steps ≡ first.steps
  same_after rest is ended = there ∙ no_longer a.opening first.steps rest own
      (subst (λ n. n ≤ length first.steps) (ap length there) (short ended (cases_lt (length first.steps) (length second.steps))))
    where
      config_is : b.opening.config ≡ a.opening.config
      config_is = same_config c image b.opening a.opening two.opens one.opens

      code_is : b.opening.code ≡ a.opening.code
      code_is = same_code c image b.opening a.opening two.opens one.opens

      machine_is : machine_of b.opening (λ p. []) ≡ machine_of a.opening (λ p. [])
      machine_is = same_machine c image b.opening a.opening two.opens one.opens (λ p. [])

      there : second.steps ≡ entered_of a.opening first.steps rest
      there =
          two.steps
          ∙ same_entered b.opening a.opening config_is code_is machine_is [] ys
          ∙ ap (entered_of a.opening []) is
          ∙ asked_append a.opening [] xs rest
          ∙ ap (λ done. entered_of a.opening done rest) (sym one.steps)

      own : no_poke rest ≡ true
      own = no_poke_rest xs rest (subst (λ xs. no_poke xs ≡ true) is two.own)

      -- The second log begins with what the first entered.
      begins : take (length first.steps) second.steps ≡ first.steps
      begins =
          let e = no_poke_entered a.opening first.steps rest own in
          ap (take (length first.steps)) (there ∙ e.2) ∙ take_at first.steps e.0 (length first.steps) refl

      short : HasEnded limit a.opening first.steps rest → (length first.steps < length second.steps) ⊎ (length second.steps ≤ length first.steps) →
          length second.steps ≤ length first.steps
      short ended (inr less) = less
      short (inl over) (inl longer) =
          absurd
          (two.first (length first.steps) (omega arith) longer
          (over_there a.opening b.opening (sym config_is) (sym code_is) (sym machine_is) 0 (take (length first.steps) second.steps)
          (subst (IsOver a.opening 0) (sym begins) over)))
      short (inr (inl used)) (inl longer) = (let few = two.few in omega (arith, few, used))
      short (inr (inr none)) (inl longer) =
          let same : second.steps ≡ first.steps = there ∙ ap (entered_of a.opening first.steps) none ∙ sym (none_asked a.opening first.steps) in
          subst (λ xs. length xs ≤ length first.steps) (sym same) (omega arith)

  -- If both followed the same steps, their drains took the same steps.
  logs_alike : first.steps ≡ second.steps → a.steps ≡ b.steps
  logs_alike same = one.drained ∙ ap₂ (λ (xs ys : List Step). xs ++ ys) same
      (drained_alike c image a.opening b.opening one.opens two.opens second.steps first.machine second.machine
      (subst (λ xs. IsReplay a.opening xs first.machine) same one.replay) two.replay)
      ∙ sym two.drained

-- The second list continues the first.
abbrev pub GoesOnFrom : List Step → List Step → Type 0
GoesOnFrom xs ys = (rest : List Step) × (ys ≡ xs ++ rest)

-- If one of the lists continues the other, both logs have the same steps.
pub goes_on : {c : Config} {image : ImageContents} {limit : ℕ} {xs ys : List Step} {first second a b : Log} →
    WasAskedFor c image limit xs first a → WasAskedFor c image limit ys second b → GoesOnFrom xs ys ⊎ GoesOnFrom ys xs →
    ((rest : List Step) → ys ≡ xs ++ rest → HasEnded limit a.opening first.steps rest) →
    ((rest : List Step) → xs ≡ ys ++ rest → HasEnded limit b.opening second.steps rest) → a.steps ≡ b.steps
goes_on one two (inl (rest, is)) there here = logs_alike one two (sym (same_after one two rest is (there rest is)))
goes_on one two (inr (rest, is)) there here = logs_alike one two (same_after two one rest is (here rest is))
