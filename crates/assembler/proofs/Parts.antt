-- The high and the low part of a value make the value.
use Rattle.std.proofs.Common.{◌≡◌, ℕ, ◌+◌, ◌-◌, ◌*◌, ◌/◌, ◌%◌, ◌^◌, ◌<◌, ◌≤◌, List, Some, refl, ap, ◌∙◌, arith, inl, inr}
use Rattle.std.specs.Prelude.{pos, negsuc, ◌-ℤ◌}
use Rattle.std.proofs.lemmas.Bool.{cases_lt, lt-ltb, le-ltb}
use Rattle.std.proofs.lemmas.Int.{ints}
use Rattle.flat_machine.specs.declared.effect.Effect.TheVariants as does
use Rattle.flat_machine.specs.Words.{plus, extended}
use Rattle.flat_machine.specs.Operations.{immediate_value}
use Rattle.flat_machine.specs.Effects.{effect_of, register_of}
use Rattle.asm_lines.specs.Number.{low_bits}
use Rattle.assembler.specs.declared.symbol.Symbol.{Symbol}
use Rattle.assembler.specs.Meaning.{Labels, high_part, low_part}
use Rattle.assembler.specs.Parts.{MakeValue}

high_bits : (v : ℕ) → low_bits (2 ^ 20) (high_part v) ≡ (v + 2048) % 2 ^ 32 / 4096
high_bits v = omega arith

below : (m : ℕ) → m < 2048 → (pos m -ℤ pos 2048) ≡ negsuc (2047 - m)
below m lt = omega (arith, ints)

above : (m : ℕ) → 2048 ≤ m → (pos m -ℤ pos 2048) ≡ pos (m - 2048)
above m le = omega (arith, ints)

field_of : (m : ℕ) → m < 4096 → low_bits (2 ^ 12) (pos m -ℤ pos 2048) ≡ (m + 2048) % 4096
field_of m fits = elim (cases_lt m 2048) [
  | inl lt ↦ rw (below m lt) (omega arith)
  | inr le ↦ rw (above m le) (omega arith)
]

-- The field of the low part is the value's low 12 bits.
low_is : (v : ℕ) → low_bits (2 ^ 12) (low_part v) ≡ v % 4096
low_is v = field_of ((v + 2048) % 4096) (omega arith) ∙ omega arith

sum_is : (v : ℕ) → v < 2 ^ 32 → plus ((v + 2048) % 2 ^ 32 / 4096 * 2 ^ 12) (extended 12 (v % 4096)) ≡ v
unfolding plus extended
sum_is v small = elim (cases_lt (v % 4096) 2048) [
  | inl lt ↦ rw (lt-ltb (v % 4096) 2048 lt) (omega arith)
  | inr le ↦ rw (le-ltb (v % 4096) 2048 le) (omega arith)
]

module _ (labels : Labels) (name : List ℕ) (symbol : Symbol) (is : labels name ≡ Some symbol) (small : symbol.address < 2 ^ 32) where
  abbrev value : ℕ
  value = symbol.address

  sum : (base : ℕ) → base ≡ (value + 2048) % 2 ^ 32 / 4096 * 2 ^ 12 → plus base (extended 12 (value % 4096)) ≡ value
  sum base e = ap (λ b. plus b (extended 12 (value % 4096))) e ∙ sum_is value small

  -- `%hi` and `%lo` of a label make its value, if that is below 2^32.
  pub parts_make_value : MakeValue labels name value
  unfolding effect_of immediate_value
  parts_make_value = record {
    high = (value + 2048) % 2 ^ 32 / 4096;
    low = value % 4096;
    lui = λ at rd. rw (is, high_bits value) refl;
    addi = λ at rd rs1. rw (is, low_is value) refl;
    load_from = λ op at rd rs1. rw (is, low_is value) refl;
    store_to = λ op at rs1 rs2. rw (is, low_is value) refl;
    left = λ s pc rd registers. refl;
    added = λ s pc rd rs1 registers e. ap (does.Write rd) (sum (register_of registers rs1) e);
    loaded = λ s pc rd rs1 op registers e. ap (does.Load op rd) (sum (register_of registers rs1) e);
    stored = λ s pc rs1 rs2 op registers e. ap (λ a. does.Store op a (register_of registers rs2)) (sum (register_of registers rs1) e);
  }
