use Rattle.std.proofs.Common.{arith, Bor, List, [], ℕ, ◌++◌, length, ap, ◌∙◌}
use Rattle.asm_lines.specs.Text.{parts_at}
use Rattle.course_text.specs.Constants.{constant_values}
use Rattle.course_text.specs.Course.{after_feed}
use Rattle.course_text.specs.Places.{after_text}
use Rattle.course_text.proofs.Lines.{rewritten_more, rewritten_all}
use Rattle.course_text.proofs.text.rewrite_lines.Goals as goal

nothing : Bor (List ℕ)
nothing = record { ref_ptr = (0, 0); now = [] }

pub loop-at-preserved : goal.loop-at-preserved
unfolding nothing
loop-at-preserved c =
    let plain = c.loop-at.plain in
    rewritten_more (constant_values c.args.constants.now) c.args.lines.now c.loop-at.at nothing c.loop-at.place c.pass_text.new.self c.in_ok-text.text.items
    plain.text.items c.push_text.new.out.items plain.origins.items c.push_origins.new.origins.items c.in_ok-count.count (omega arith) c.in_ok-text.ensures
    (c.in_ok-count.ensures.place ∙ ap (after_text c.loop-at.place) c.deref.ensures.value)
    (c.in_ok-count.ensures.count ∙ ap (λ t. length (parts_at 10 t)) c.deref.ensures.value)
    (c.in_ok-push_text.ensures ∙ ap (λ t. plain.text.items ++ after_feed t) c.deref-in-loop-at.ensures.value) c.in_ok-push_origins.ensures
    c.loop-at.invariant

pub returns : goal.returns
returns c =
    let all = rewritten_all (constant_values c.args.constants.now) c.args.lines.now c.loop-at.at c.loop-at.place c.loop-at.plain.text.items
    c.loop-at.plain.origins.items (omega arith) c.loop-at.invariant in
    record { text = all.0; origins = all.1 }
