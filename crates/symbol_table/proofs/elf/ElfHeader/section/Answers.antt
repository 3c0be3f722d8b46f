use Rattle.std.proofs.Common.{◌<◌, ◌≤◌, ◌+◌, ◌*◌, Some, ap, arith, sym, ◌∙◌}
use Rattle.symbol_table.specs.Elf.{section_count, section_header}
use Rattle.symbol_table.proofs.Kept.{get_past, get_within}
use Rattle.symbol_table.proofs.elf.ElfHeader.section.Goals as goal

pub returns-then-number-section_count : goal.returns-then-number-section_count
returns-then-number-section_count c =
    let header = c.args.self.now in
    let file = c.args.file.now in
    let count = c.section_count.ensures in
    let inside : c.args.number < section_count header file = omega arith in
    ap Some c.section_at.ensures
    ∙ sym (get_within (λ k. section_header file (header.e_shoff + 40 * k)) (section_count header file) c.args.number inside)

pub returns-else-number-section_count : goal.returns-else-number-section_count
returns-else-number-section_count c =
    let header = c.args.self.now in
    let file = c.args.file.now in
    let count = c.section_count.ensures in
    let past : section_count header file ≤ c.args.number = omega arith in
    sym (get_past (λ k. section_header file (header.e_shoff + 40 * k)) (section_count header file) c.args.number past)
