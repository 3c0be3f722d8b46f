-- What a command reports of its result.
use Rattle.std.proofs.Common.{◌≡◌, ◌↔◌, ◌∙◌, Bool, true, ℕ, ap, sym, refl}
use Rattle.std.specs.Prelude.{Err, IfErr, IfOk, Ok, Result}
use Rattle.std.proofs.lemmas.Result.{IfErr-at_err, IfOk-at_ok}
use Rattle.command_io.specs.Links.{IsOfLink}
use Rattle.command_io.specs.Printing.{ReportsRefusal}

module _ {T F : Type 0} where
  error_or : F → Result T F → F
  error_or other (Ok x) = other
  error_or other (Err f) = f

  -- If a result is the link's error exactly if the link has failed, the same holds of the error in the result.
  pub of_link : (r : Result T F) (f x : F) (has_failed : Bool) → r ≡ Err f → (r ≡ Err x) ↔ (has_failed ≡ true) → IsOfLink x has_failed f
  unfolding error_or
  of_link r f x has_failed is exact = (
    (λ same. exact.0 (is ∙ ap (λ e. Err e) same)),
    (λ failed. ap (error_or f) (sym is ∙ exact.1 failed)),
  )

module _ {T F : Type 0} {status_of : F → ℕ} {is_reported : F → Type 0} {status : ℕ} where
  -- If each error of the result has a cause, a report of the result's error is a report of that cause.
  pub reports_with : (r : Result T F) (is_cause : F → Type 0) → ((f : F) → r ≡ Err f → is_cause f) →
      ReportsRefusal status_of (λ f. r ≡ Err f) is_reported status → ReportsRefusal status_of is_cause is_reported status
  reports_with r is_cause causes known = record {
    refusal = known.refusal;
    tells = known.tells;
    cause = causes known.refusal known.cause;
    reported = known.reported;
  }
