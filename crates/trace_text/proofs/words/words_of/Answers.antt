use Rattle.std.proofs.Common.{◌∙◌, map}
use Rattle.std.proofs.lemmas.List.{length-map}
use Rattle.asm_lines.specs.Text.{is_blank}
use Rattle.trace_text.proofs.Cutting.{cut_first, uncut, words_more, words_all, too_many}
use Rattle.trace_text.proofs.words.words_of.Goals as goal

pub loop-part-preserved : goal.loop-part-preserved
loop-part-preserved c =
    let h = c.in-Some.ensures in
    words_more _ _ c.loop-part.rest.now c.in-Some.part.now c.in-Some.after.now _ (cut_first is_blank _ _ _ h.0 h.1 h.2)
    c.in_ok-add_part.ensures.added c.loop-part.invariant

pub returns-in_err-add_part-2-clause-many : goal.returns-in_err-add_part-2-clause-many
returns-in_err-add_part-2-clause-many c =
    let full = c.in_err-add_part-2.ensures.many in
    let found = map (λ word. word.now) c.loop-part.words.items in
    λ _. too_many found c.loop-part.rest.now _ _ _ (uncut is_blank _ c.in_default.ensures)
    (length-map c.loop-part.words.items (λ word. word.now) ∙ full.0) full.1 c.loop-part.invariant

pub returns-clause-words : goal.returns-clause-words
returns-clause-words c =
    words_all _ _ c.loop-part.rest.now _ (uncut is_blank _ c.in_default.ensures) c.in_ok-add_part-2.ensures.added c.loop-part.invariant
