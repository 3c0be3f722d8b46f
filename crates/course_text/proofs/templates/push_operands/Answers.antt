use Rattle.std.proofs.Common.{ap, sym, ◌∙◌, ◌++◌, List, ℕ, Bor}
use Rattle.std.specs.List.{flat_map}
use Rattle.std.proofs.lemmas.List.{take_all, drop-map}
use Rattle.std.proofs.lemmas.List.Folds.{flat_map-map}
use Rattle.course_text.specs.Templates.{after_comma}
use Rattle.course_text.proofs.templates.push_operands.Goals as goal

now : Bor (List ℕ) → List ℕ
now b = b.now

pub returns : goal.returns
unfolding now
returns c =
    c.loop-operand.invariant
    ∙ ap (λ bs. c.args.text.now.items ++ bs) (
    ap (flat_map (λ (o : Bor (List ℕ)). after_comma o.now)) (
    take_all c.loop-operand.operand-index c.split_at.result.1.now c.loop-operand-test.false ∙ c.split_at.ensures.back
    )
    ∙ sym (
    ap (flat_map after_comma) (drop-map now c.args.count c.args.words.now)
    ∙ flat_map-map after_comma now _
    )
    )
