use Rattle.std.proofs.Common.{◌≡◌, ◌++◌, ℕ, List, sym, subst, ◌∙◌}
use Rattle.std.specs.Prelude.{Err, Ok, OnOk, Result, if◌then◌else◌, string_bytes}
use Rattle.std.specs.Result.{is_ok}
use Rattle.explore_command.specs.Lassos.{fairness_text, lasso_lines}
use Rattle.explore_command.proofs.fairness.push_fairness.Goals as goal

-- What an append leaves if it succeeds.
appended : {A E : Type 0} (r : Result A E) (new longer same : List ℕ) → new ≡ (if is_ok r then longer else same) → OnOk r (new ≡ longer)
appended (Ok x) new longer same e = e
appended (Err x) new longer same e = tt

pub returns-in-Endless : goal.returns-in-Endless
returns-in-Endless c =
    let said : fairness_text c.args.asked c.args.fairness.now ≡ lasso_lines c.as_slice.result.now c.as_slice-in-Endless.result.now =
    (λ j. fairness_text (c.if-not-asked.false j) (c.in-Endless.is j))
    ∙ (λ j. lasso_lines (sym c.as_slice.ensures.value j) (sym c.as_slice-in-Endless.ensures.value j)) in
    subst (λ lines. OnOk c.push_lasso.result (string_bytes c.push_lasso.new.text ≡ string_bytes c.args.text.now ++ lines)) (sym said) c.push_lasso.ensures

pub returns-in-Unknown : goal.returns-in-Unknown
returns-in-Unknown c =
    subst (λ lines. OnOk c.push_str-in-Unknown.result (string_bytes c.push_str-in-Unknown.new.self ≡ string_bytes c.args.text.now ++ lines))
    (λ j. fairness_text (sym c.if-not-asked.false j) (sym c.in-Unknown.is j))
    (appended c.push_str-in-Unknown.result _ _ _ c.push_str-in-Unknown.ensures.bytes)
