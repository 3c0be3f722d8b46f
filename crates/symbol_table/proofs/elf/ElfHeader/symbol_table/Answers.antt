use Rattle.std.proofs.Common.{◌≡◌, ℕ, ◌+◌, ◌-◌, ◌*◌, false, Some, find, map, ap, arith, sym, ◌∙◌}
use Rattle.std.specs.List.{range_with_len}
use Rattle.std.proofs.lemmas.Bool.{cond-false}
use Rattle.std.proofs.lemmas.Bool.Decides.{nat_tests}
use Rattle.symbol_table.specs.declared.elf.SectionHeader.{SectionHeader}
use Rattle.symbol_table.specs.Elf.{is_symbol_table, section_header}
use Rattle.symbol_table.proofs.Kept.{find_next}
use Rattle.symbol_table.proofs.elf.ElfHeader.symbol_table.Goals as goal

pub loop-number-preserved : goal.loop-number-preserved
loop-number-preserved c =
    let f : ℕ → SectionHeader = λ k. section_header c.args.file.now (c.args.self.now.e_shoff + 40 * k) in
    let k = c.loop-number.number in
    let n = c.section_count-count.result in
    let other : is_symbol_table c.section_at-section.result ≡ false = grind (arith, nat_tests, c.if-section-eq-SHT_SYMTAB.false) in
    let test : is_symbol_table (f k) ≡ false = ap is_symbol_table (sym c.section_at-section.ensures) ∙ other in
    sym (cond-false (is_symbol_table (f k)) (Some (f k)) (find is_symbol_table (map f (range_with_len (k + 1) (n - (k + 1))))) test)
    ∙ sym (find_next is_symbol_table f k n (omega arith)) ∙ c.loop-number.invariant
