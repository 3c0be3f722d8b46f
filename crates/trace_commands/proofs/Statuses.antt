-- What the exit status of a command says about its result.
use Rattle.std.proofs.Common.{◌≡◌, ◌≤◌, ◌∙◌, ℕ, zero, suc, true, ap, refl, sym, arith}
use Rattle.std.proofs.lemmas.Bool.{true≢false}
use Rattle.std.specs.Prelude.{Err, Ok, Result, is_err}
use Rattle.command_io.specs.declared.fault.Fault.{Fault}
use Rattle.command_io.specs.Faults.{status_of_fault}
use Rattle.command_io.specs.Printing.{ReportsCause}
use Rattle.command_io.proofs.Lemmas.{of_link}

-- A result has only one error.
pub error_is : {T F : Type 0} (r : Result T F) (f x : F) → r ≡ Err f → r ≡ Err x → f ≡ x
error_is r f x is other = (of_link r f x true is ((λ _. refl), (λ _. other))).1 refl

module _ (r : Result ℕ Fault) (x : Fault) (is_reported : Fault → Type 0) (is : r ≡ Err x) where
  not_done : (status : ℕ) → r ≡ Ok status → ⊥
  not_done status done = true≢false (ap is_err (sym is ∙ done))

  -- If the result of a command is a fault, the exit status is that of the fault.
  pub status_is : (status : ℕ) → (status ≤ 1 → r ≡ Ok status) → (2 ≤ status → ReportsCause (λ f. r ≡ Err f) is_reported status) →
      status ≡ status_of_fault x
  status_is zero done known = absurd (not_done zero (done (omega arith)))
  status_is (suc zero) done known = absurd (not_done (suc zero) (done (omega arith)))
  status_is (suc (suc n)) done known =
      let t = known (omega arith) in
      t.tells ∙ ap status_of_fault (error_is r t.refusal x t.cause is)
