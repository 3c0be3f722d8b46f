-- Which processors have retired an instruction, step by step.
use Rattle.std.proofs.Common.{◌≡◌, ℕ, ◌≤◌, ◌⊎◌, inl, inr, List, [], ◌∷◌, ◌++◌, length, refl, sym, ap, ◌∙◌, subst, append_assoc}
use Rattle.steps.specs.declared.step.Step.{Step}
use Rattle.steps.specs.declared.step.Step.TheVariants as step
use Rattle.machine_steps.specs.Machines.{MachineLists}
use Rattle.machine_steps.specs.Runs.{answer_after}
use Rattle.steps.proofs.Lemmas.{turn_is}
use Rattle.debug_session.specs.Breaks.{HasRetired, IsRetirement, Retires}
use Rattle.debug_session.proofs.Splits.{split_last}

module _ (m : MachineLists) (start : ℕ) (done : List Step) where
  -- A processor that has retired an instruction still has after one more step.
  pub retired_more : (s : Step) (p : ℕ) → HasRetired m start done p → HasRetired m start (done ++ s ∷ []) p
  retired_more s p h = record {
    before = h.before;
    rest = h.rest ++ s ∷ [];
    is = ap (λ xs. xs ++ s ∷ []) h.is ∙ append_assoc h.before (step.Turn p ∷ h.rest) (s ∷ []);
    after = h.after;
    retired = h.retired;
  }

  -- If the next step retires an instruction of a processor, the processor has retired one after this step.
  pub retired_now : (s : Step) (p : ℕ) → start ≤ length done → Retires s (answer_after m done s) p → HasRetired m start (done ++ s ∷ []) p
  retired_now s p behind r =
      let is = turn_is p s r.0 in
      record {
        before = done;
        rest = [];
        is = ap (λ t. done ++ t ∷ []) is;
        after = behind;
        retired = subst (λ t. IsRetirement (answer_after m done t)) is r.1;
      }

  -- A processor that has retired an instruction after one more step had retired one before, or retires one in it.
  pub retired_either : (s : Step) (p : ℕ) → HasRetired m start (done ++ s ∷ []) p → HasRetired m start done p ⊎ Retires s (answer_after m done s) p
  retired_either s p h = by (split_last done h.before h.rest s (step.Turn p) h.is)
    where
      by : ((h.rest ≡ []) × (done ≡ h.before) × (s ≡ step.Turn p)) ⊎ ((rest' : List Step) × (done ≡ h.before ++ step.Turn p ∷ rest')) →
          HasRetired m start done p ⊎ Retires s (answer_after m done s) p
      by (inl (none, alike, last)) =
          inr (subst (λ t. Retires t (answer_after m done t) p) (sym last)
          (refl, subst (λ xs. IsRetirement (answer_after m xs (step.Turn p))) (sym alike) h.retired))
      by (inr (rest', is)) = inl (record { before = h.before; rest = rest'; is = is; after = h.after; retired = h.retired })
