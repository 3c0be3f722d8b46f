use Rattle.std.proofs.Common.{◌≡◌, ℕ, ◌+◌, ◌-◌, ◌*◌, ◌/◌, ◌%◌, ◌^◌, ◌<◌, ◌≤◌, arith, ◌∙◌, ap, inl, inr}
use Rattle.std.specs.Prelude.{pos, negsuc, ◌-ℤ◌}
use Rattle.std.proofs.lemmas.Bool.{cases_lt}
use Rattle.std.proofs.lemmas.Int.{ints}
use Rattle.asm_lines.specs.Number.{low_bits}
use Rattle.course_text.proofs.laws.li_leaves_the_number.Goals as goal

below : (m : ℕ) → m < 2048 → (pos m -ℤ pos 2048) ≡ negsuc (2047 - m)
below m lt = omega (arith, ints)

above : (m : ℕ) → 2048 ≤ m → (pos m -ℤ pos 2048) ≡ pos (m - 2048)
above m le = omega (arith, ints)

-- The lower part as a word.
word_of : (m : ℕ) → m < 4096 → low_bits (2 ^ 32) (pos m -ℤ pos 2048) ≡ (m + 4294965248) % 2 ^ 32
word_of m fits = elim (cases_lt m 2048) [
  | inl lt ↦ rw (below m lt) (omega arith)
  | inr le ↦ rw (above m le) (omega arith)
]

sum : (v : ℕ) → v < 2 ^ 32 → ((v + 2048) % 2 ^ 32 / 4096 * 4096 + ((v + 2048) % 4096 + 4294965248) % 2 ^ 32) % 2 ^ 32 ≡ v
sum v small = omega arith

pub returns : goal.returns
returns c = λ z.
    let v = low_bits (2 ^ 32) z in
    ap (λ (l : ℕ). ((v + 2048) % 2 ^ 32 / 4096 * 4096 + l) % 2 ^ 32) (word_of ((v + 2048) % 4096) (omega arith)) ∙ sum v (omega arith)
