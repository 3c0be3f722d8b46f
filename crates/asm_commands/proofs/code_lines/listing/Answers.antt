use Rattle.std.proofs.Common.{◌≡◌, ◌∙◌, ap, arith}
use Rattle.asm_commands.specs.CodeLines.{lines_of}
use Rattle.asm_commands.proofs.code_lines.listing.Goals as goal

pub returns : goal.returns
returns c =
    let all : c.loop-index.index ≡ c.word_count-index-end.result = omega (arith, c.loop-index.auto.index-end, c.loop-index-test.false) in
    record {
      count = c.word_count-index-end.result;
      within = c.word_count-index-end.ensures.few;
      after = c.word_count-index-end.ensures.after;
      last = c.word_count-index-end.ensures.last;
      lines = c.loop-index.invariant ∙ ap (lines_of c.args.comments c.args.code.now) all;
    }
