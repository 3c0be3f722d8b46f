use Rattle.std.proofs.Common.{rules, refl, ◌∙◌}
use Rattle.asm_lines.proofs.Texts.{pieces_more, pieces_all, map_same}
use Rattle.asm_lines.proofs.text.parts_at.Goals as goal

pub loop-part-preserved : goal.loop-part-preserved
loop-part-preserved c = let h = c.in-Some.ensures.parts in
    pieces_more _ (λ x. x) c.loop-part.parts.items c.push.new.self.items c.in-Some.part c.loop-part.rest.now c.in-Some.after.now _ (search rules) h.0 h.1 h.2
    c.loop-part.invariant

pub returns : goal.returns
returns c = pieces_all _ (λ x. x) c.loop-part.parts.items c.push-2.new.self.items c.loop-part.rest c.loop-part.rest.now _ (search rules)
    c.in_default.ensures.parts refl c.loop-part.invariant ∙ map_same _
