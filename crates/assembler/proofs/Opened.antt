-- A machine that opens on the layout that a text means has at each address what the text places there.
use Rattle.std.proofs.Common.{◌≡◌, ℕ, ◌+◌, ◌-◌, ◌*◌, ◌/◌, ◌%◌, ◌^◌, ◌<◌, ◌≤◌, Bool, true, false, List}
use Rattle.std.proofs.Common.{length, Option, Some, None, refl, sym, ap, subst, ◌∙◌, inl, inr, arith}
use Rattle.std.specs.Prelude.{◌==◌, ◌&&◌, nat_lt, slice_index, if◌then◌else◌}
use Rattle.std.proofs.lemmas.Bool.{cases_lt}
use Rattle.std.proofs.lemmas.Bool.Decides.{nat_tests}
use Rattle.std.proofs.lemmas.List.{get_or_past}
use Rattle.flat_machine.specs.declared.config.Config.{Config}
use Rattle.flat_machine.specs.Memory.{in_shared}
use Rattle.flat_machine.specs.State.{Processor}
use Rattle.elf_image.specs.declared.layout.Layout.{Layout}
use Rattle.elf_image.specs.Openings.{opening}
use Rattle.elf_image.specs.Laws.{IsPlacedAt, IsOpeningProcessor, IsLayoutOpening, IsOpenable}
use Rattle.asm_lines.specs.declared.statement.Section.{Section}
use Rattle.asm_lines.specs.declared.statement.Section.TheVariants.{Code, Local, Shared}
use Rattle.assembler.specs.declared.symbol.Symbol.{Symbol}
use Rattle.assembler.specs.Meaning.{base_of, lines_of, pieces_of, section_bytes, same_section, entry_of, IsMeaning, FitsRegions}
use Rattle.assembler.specs.Openings.{placed_byte, IsTextProcessor, IsTextOpening}
use Rattle.assembler.proofs.LineBytes.{byte_below}
use Rattle.assembler.proofs.PlacedBytes.{placed_bytes}

-- A place after the last byte is read as zero.
zero_after_end : (bytes : List ℕ) (place : ℕ) → slice_index bytes place ≡ (if nat_lt place (length bytes) then slice_index bytes place else 0)
zero_after_end bytes place =
    elim (cases_lt place (length bytes)) [
      | inl less ↦ let test : nat_lt place (length bytes) ≡ true = grind (arith, nat_tests, less) in rw test refl
      | inr past ↦ let test : nat_lt place (length bytes) ≡ false = grind (arith, nat_tests, past) in rw test (get_or_past bytes place 0 past)
    ]

-- The entry is divisible by 4.
pub entry_aligned : (o : Option Symbol) → entry_of o % 4 ≡ 0
entry_aligned None = refl
entry_aligned (Some symbol) = by_test (same_section symbol.section Code) (symbol.address % 4 == 0) refl
  where
    by_test : (b d : Bool) → (symbol.address % 4 == 0) ≡ d → (if b && d then symbol.address else 0x0001_0000) % 4 ≡ 0
    by_test true true e = grind (arith, nat_tests, e)
    by_test true false e = refl
    by_test false d e = refl

module _ (known : (config : Config) (layout : Layout) → IsOpenable layout → IsLayoutOpening layout config (opening config layout))
    (config : Config) (text : List ℕ) (layout : Layout) (m : IsMeaning text layout) (fits : FitsRegions layout) where
  placed : (s : Section) (bytes : List ℕ) (b address : ℕ) → bytes ≡ section_bytes s (pieces_of (lines_of text)) → b ≡ slice_index bytes (address - base_of s) →
      b ≡ placed_byte text s address
  placed s bytes b address same at =
      at
      ∙ zero_after_end bytes (address - base_of s)
      ∙ ap (λ (xs : List ℕ). if nat_lt (address - base_of s) (length xs) then slice_index xs (address - base_of s) else 0) same

  small : (i : ℕ) → slice_index layout.shared i < 256
  small i = subst (λ bs. slice_index bs i < 256) (sym m.shared)
      (byte_below (section_bytes Shared (pieces_of (lines_of text))) (placed_bytes Shared (lines_of text)) i)

  processor : (p : Processor) → IsOpeningProcessor layout.entry (IsPlacedAt layout) p → IsTextProcessor text p
  processor p q = record {
    pc = q.pc ∙ m.entry;
    registers = q.registers;
    zero = q.zero;
    running = q.running;
    local_size = q.local_size;
    local = λ a e. placed Local layout.local _ a m.local ((q.local a e).local e);
  }

  -- If a text means a layout that fits its regions, the machine that opens on the layout opens on the text.
  pub opens_on_the_text : IsTextOpening text config (opening config layout)
  opens_on_the_text =
      let o = known config layout (record { code = fits.code; local = fits.local; bytes = small }) in
      record {
        count = o.count;
        processors = λ k p at. processor p (o.processors k p at);
        words = o.words;
        shared = λ a e. let low : 0x80000000 ≤ a = grind (arith, nat_tests, e) in placed Shared layout.shared _ a m.shared ((o.shared a e).shared low);
        code_size = o.code_size;
        code = λ a e. placed Code layout.code _ a m.code ((o.code a e).code e);
      }
