use Rattle.std.proofs.Common.{[], subst, sym}
use Rattle.asm_lines.specs.Written.{text_of, as_said}
use Rattle.assembler.specs.Meaning.{word_bytes, IsMeaning}
use Rattle.assembler.proofs.Again.{AreRead, insn_again, means_its_word}
use Rattle.assembler.proofs.disassembly_laws.disassembled_again.Goals as goal

pub returns-clause-meaning : goal.returns-clause-meaning
returns-clause-meaning c =
    let i = c.args.insn.now in
    let h = c.fields_again.ensures in
    let known : AreRead =
    record { lower = h.lower; upper = h.upper; branch = h.branch; branch_in_range = h.branch_in_range; jump = h.jump; jump_in_range = h.jump_in_range } in
    let range = c.encode.ensures.in_range in
    let meant = means_its_word (text_of i) (as_said i) i (c.written_again.ensures.one_line i range) (c.written_again.ensures.read i range)
    (λ labels at. insn_again known labels at i range) in
    subst (λ w. IsMeaning (text_of i) (record { entry = 65536; code = word_bytes w; local = []; shared = [] })) (sym c.encode.ensures.value) meant
