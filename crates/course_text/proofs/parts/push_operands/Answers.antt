use Rattle.std.proofs.Common.{ap, ◌∙◌, ◌++◌, List, ℕ}
use Rattle.std.specs.Prelude.{map}
use Rattle.std.proofs.lemmas.List.{take_all}
use Rattle.asm_lines.specs.Text.{trimmed, operands_of}
use Rattle.course_text.specs.Views.{nows}
use Rattle.course_text.proofs.parts.push_operands.Goals as goal

pub returns : goal.returns
unfolding operands_of
returns c =
    let before = nows c.args.words.now.items in
    c.loop-part.invariant
    ∙ ap (λ ps. before ++ map trimmed (nows ps)) (
    take_all c.loop-part.part-index c.deref-part-items.result.now c.loop-part-test.false ∙ c.deref-part-items.ensures.value
    )
    ∙ ap (λ (ps : List (List ℕ)). before ++ map trimmed ps) c.in_ok-parts.ensures
