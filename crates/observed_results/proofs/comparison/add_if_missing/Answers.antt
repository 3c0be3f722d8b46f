use Rattle.std.proofs.Common.{◌≡◌, List, true, false, cond, ◌∙◌, ap, sym}
use Rattle.observed_results.specs.Lines.{observed_of, with_text}
use Rattle.observed_results.specs.Outcomes.{has_outcome}
use Rattle.observed_results.proofs.comparison.add_if_missing.Goals as goal

pub returns-then-contains : goal.returns-then-contains
returns-then-contains c = λ others known.
    let marks = c.args.words.now in
    let texts = c.args.missing.now.texts in
    let there : has_outcome marks others _ ≡ true =
    ap (has_outcome marks others) (sym c.in_ok-outcome.ensures) ∙ (sym (known c.in_ok-outcome.outcome) ∙ (sym c.contains.ensures ∙ c.if-contains.true)) in
    sym (ap (λ b. cond b texts (with_text texts (observed_of marks c.args.last.now))) there)

pub returns : goal.returns
returns c = λ others known.
    let marks = c.args.words.now in
    let texts = c.args.missing.now.texts in
    let lacks : has_outcome marks others _ ≡ false =
    ap (has_outcome marks others) (sym c.in_ok-outcome.ensures) ∙ (sym (known c.in_ok-outcome.outcome) ∙ (sym c.contains.ensures ∙ c.if-contains.false)) in
    c.in_ok-add_part.ensures.texts
    ∙ (ap (with_text texts) c.in_ok-text.ensures
    ∙ sym (ap (λ b. cond b texts (with_text texts (observed_of marks c.args.last.now))) lacks))
