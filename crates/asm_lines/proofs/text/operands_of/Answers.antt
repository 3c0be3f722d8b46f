use Rattle.std.proofs.Common.{rules, ap, ◌∙◌}
use Rattle.asm_lines.specs.Text.{trimmed, operands_of}
use Rattle.asm_lines.proofs.Texts.{pieces_more, pieces_all}
use Rattle.asm_lines.proofs.text.operands_of.Goals as goal

pub loop-part-preserved : goal.loop-part-preserved
loop-part-preserved c = let h = c.in-Some.ensures.parts in
    pieces_more _ trimmed c.loop-part.parts.items c.push.new.self.items c.trim.result c.loop-part.rest.now c.in-Some.after.now _ (search rules) h.0
    (c.trim.ensures ∙ ap trimmed h.1) h.2 c.loop-part.invariant

pub returns : goal.returns
unfolding operands_of
returns c = pieces_all _ trimmed c.loop-part.parts.items c.push-2.new.self.items c.trim-2.result c.loop-part.rest.now _ (search rules)
    c.in_default.ensures.parts c.trim-2.ensures c.loop-part.invariant
