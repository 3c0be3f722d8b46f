use Rattle.std.proofs.Common.{arith, ◌∙◌, sym}
use Rattle.course_text.specs.Constants.{constant_values, replaced}
use Rattle.course_text.proofs.Replacing.{within_word, last_word}
use Rattle.course_text.proofs.constants.replaced.Goals as goal

pub loop-at-preserved-then-is_name_byte : goal.loop-at-preserved-then-is_name_byte
loop-at-preserved-then-is_name_byte c = record {
  begun = omega (arith, c.loop-at.invariant.begun);
  so_far =
      within_word (constant_values c.args.constants.now) c.args.text.now c.loop-at.begin c.loop-at.at c.loop-at.out.items
      (replaced (constant_values c.args.constants.now) c.args.text.now) c.loop-at.invariant.begun (omega arith)
      (sym c.is_name_byte.ensures ∙ c.if-is_name_byte.true) c.loop-at.invariant.so_far;
}

pub returns : goal.returns
returns c =
    last_word (constant_values c.args.constants.now) c.args.text.now c.loop-at.begin c.loop-at.at c.loop-at.out.items
    c.push_number_for-2.new.text.items (replaced (constant_values c.args.constants.now) c.args.text.now) (omega arith) (omega arith)
    c.in_ok-push_number_for-2.ensures c.loop-at.invariant.so_far
