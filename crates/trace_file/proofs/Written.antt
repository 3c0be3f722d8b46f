-- Bytes that are written in parts.
use Rattle.std.proofs.Common.{◌≡◌, ℕ, List, ◌++◌, take, drop, Option, Some, None, Result, Ok, Err, append_assoc, length-append, ap, sym, subst, ◌∙◌, arith}
use Rattle.std.specs.Prelude.{OnErr, IfErr, IsErrAnd, IfNone}
use Rattle.std.proofs.lemmas.List.{take-append-drop}
use Rattle.steps.specs.declared.step.Step.{Step}
use Rattle.trace_file.specs.Traces.{records_bytes}
use Rattle.trace_file.proofs.Records.{records_bytes-append}

-- A fact holds of any result, so it holds if the result is an error.
pub on_err : {T E : Type 0} (r : Result T E) (P : Type 0) → P → OnErr r P
on_err (Ok x) P p = tt
on_err (Err e) P p = p

-- What holds of an error holds if the result is that error.
pub if_err : {T E : Type 0} (r : Result T E) (e : E) (P : E → Type 0) → IsErrAnd r (λ x. x ≡ e) → P e → IfErr r P
if_err (Ok x) e P h p = tt
if_err (Err x) e P h p = subst P (sym h) p

-- A fact holds of any option, so it holds if the option is `None`.
pub on_none : {T : Type 0} (r : Option T) (P : Type 0) → P → IfNone r P
on_none None P p = p
on_none (Some x) P p = tt

-- The records written, those of the next n steps and those of the steps after them are the records of all steps.
pub written_parts : (steps written rest : List Step) (n : ℕ) → steps ≡ written ++ rest →
    (records_bytes written ++ records_bytes (take n rest)) ++ records_bytes (drop n rest) ≡ records_bytes steps
written_parts steps written rest n whole =
    append_assoc (records_bytes written) (records_bytes (take n rest)) (records_bytes (drop n rest))
    ∙ ap (λ (x : List ℕ). records_bytes written ++ x) (sym (records_bytes-append (take n rest) (drop n rest)) ∙ ap records_bytes (take-append-drop n rest))
    ∙ sym (records_bytes-append written rest)
    ∙ ap records_bytes (sym whole)

-- Steps that are those written and a rest are those written, the next n, and what is left after these.
pub steps_parts : (steps written rest : List Step) (n : ℕ) → steps ≡ written ++ rest → steps ≡ (written ++ take n rest) ++ drop n rest
steps_parts steps written rest n whole =
    whole ∙ ap (λ (x : List Step). written ++ x) (sym (take-append-drop n rest)) ∙ sym (append_assoc written (take n rest) (drop n rest))
