-- The parts of a word are its bytes.
use Rattle.std.proofs.Common.{◌≡◌, ℕ, zero, suc, ◌+◌, ◌*◌, ◌/◌, ◌%◌, ◌^◌, ◌<◌, ◌≤◌, refl, sym, ap, ◌∙◌, arith}
use Rattle.std.specs.Prelude.{slice_index, slice_set}
use Rattle.std.proofs.lemmas.Nat.{mod_below, mod_low, mod-pow-add, mul-add-lt, pow_pos, pow-add, shl_below, shr_high, shr-shr, shr_split}
use Rattle.std.proofs.Math.Nat.{pow-le-pow_right}
use Rattle.flat_machine.specs.Memory.{number_at, with_number}
use Rattle.flat_machine.specs.Words.{part_of, with_part}
use Rattle.phi_algebra.specs.Functions.{apply}
use Rattle.hart.specs.Bytes.{word_bytes, PartsAreBytes, NewPartsAreNewBytes}
use Rattle.hart.specs.Table.{store_phi}
use Rattle.hart.proofs.Meanings.{store_meaning, stored_small}

byte_of : (offset word : ℕ) → offset < 4 → slice_index (word_bytes word) offset ≡ word / 2 ^ (8 * offset) % 2 ^ 8
byte_of zero word h = omega arith
byte_of (suc zero) word h = refl
byte_of (suc (suc zero)) word h = refl
byte_of (suc (suc (suc zero))) word h = refl
byte_of (suc (suc (suc (suc n)))) word h = absurd (omega arith)

-- A part that lies within a word's four bytes is the number of its bytes there.
pub read : PartsAreBytes
unfolding part_of number_at
read zero offset word h = omega arith
read (suc size) offset word h =
    let part : ℕ = word / 2 ^ (8 * offset) in
    let first : slice_index (word_bytes word) offset ≡ part % 2 ^ 8 = byte_of offset word (omega arith) in
    let step : 8 * offset + 8 ≡ 8 * (offset + 1) = omega arith in
    let further : part / 2 ^ 8 ≡ word / 2 ^ (8 * (offset + 1)) = shr-shr word (8 * offset) 8 ∙ ap (λ k. word / 2 ^ k) step in
    let rest : word / 2 ^ (8 * (offset + 1)) % 2 ^ (8 * size) ≡ number_at (word_bytes word) (offset + 1) size = read size (offset + 1) word (omega arith) in
    let split : part % 2 ^ (8 * size + 8) ≡ (part / 2 ^ 8 % 2 ^ (8 * size)) * 2 ^ 8 + part % 2 ^ 8 = mod-pow-add part (8 * size) 8 in
    let bits : 8 * suc size ≡ 8 * size + 8 = omega arith in
    rw bits (split ∙ ap (λ y. y % 2 ^ (8 * size) * 2 ^ 8 + part % 2 ^ 8) further ∙ ap (λ y. y * 2 ^ 8 + part % 2 ^ 8) rest ∙ sym (rw first (omega arith)))

-- ---- one byte written

one_byte : (offset word value : ℕ) → offset < 4 → word_bytes (with_part 1 offset word value) ≡ slice_set (word_bytes word) offset (value % 256)
unfolding with_part
one_byte zero word value h =
    let a : (word / 2 ^ 8 * 2 ^ 8 + value % 2 ^ 8 * 1 + word % 1) % 2 ^ 8 ≡ value % 256 = omega arith in
    let b : (word / 2 ^ 8 * 2 ^ 8 + value % 2 ^ 8 * 1 + word % 1) / 2 ^ 8 % 2 ^ 8 ≡ word / 2 ^ 8 % 2 ^ 8 = omega arith in
    let d : (word / 2 ^ 8 * 2 ^ 8 + value % 2 ^ 8 * 1 + word % 1) / 2 ^ 16 % 2 ^ 8 ≡ word / 2 ^ 16 % 2 ^ 8 = omega arith in
    let e : (word / 2 ^ 8 * 2 ^ 8 + value % 2 ^ 8 * 1 + word % 1) / 2 ^ 24 % 2 ^ 8 ≡ word / 2 ^ 24 % 2 ^ 8 = omega arith in
    rw (a, b, d, e) refl
one_byte (suc zero) word value h =
    let new : ℕ = word / 2 ^ 16 * 2 ^ 16 + value % 2 ^ 8 * 2 ^ 8 + word % 2 ^ 8 in
    let a : new % 2 ^ 8 ≡ word % 2 ^ 8 = omega arith in
    let b : new / 2 ^ 8 % 2 ^ 8 ≡ value % 256 = omega arith in
    let d : new / 2 ^ 16 % 2 ^ 8 ≡ word / 2 ^ 16 % 2 ^ 8 = omega arith in
    let e : new / 2 ^ 24 % 2 ^ 8 ≡ word / 2 ^ 24 % 2 ^ 8 = omega arith in
    rw (a, b, d, e) refl
one_byte (suc (suc zero)) word value h =
    let new : ℕ = word / 2 ^ 24 * 2 ^ 24 + value % 2 ^ 8 * 2 ^ 16 + word % 2 ^ 16 in
    let a : new % 2 ^ 8 ≡ word % 2 ^ 8 = omega arith in
    let b : new / 2 ^ 8 % 2 ^ 8 ≡ word / 2 ^ 8 % 2 ^ 8 = omega arith in
    let d : new / 2 ^ 16 % 2 ^ 8 ≡ value % 256 = omega arith in
    let e : new / 2 ^ 24 % 2 ^ 8 ≡ word / 2 ^ 24 % 2 ^ 8 = omega arith in
    rw (a, b, d, e) refl
one_byte (suc (suc (suc zero))) word value h =
    let new : ℕ = word / 2 ^ 32 * 2 ^ 32 + value % 2 ^ 8 * 2 ^ 24 + word % 2 ^ 24 in
    let a : new % 2 ^ 8 ≡ word % 2 ^ 8 = omega arith in
    let b : new / 2 ^ 8 % 2 ^ 8 ≡ word / 2 ^ 8 % 2 ^ 8 = omega arith in
    let d : new / 2 ^ 16 % 2 ^ 8 ≡ word / 2 ^ 16 % 2 ^ 8 = omega arith in
    let e : new / 2 ^ 24 % 2 ^ 8 ≡ value % 256 = omega arith in
    rw (a, b, d, e) refl
one_byte (suc (suc (suc (suc n)))) word value h = absurd (omega arith)

-- ---- several bytes written

nothing : (offset word value : ℕ) → with_part 0 offset word value ≡ word
unfolding with_part
nothing offset word value =
    let upto : 8 * (offset + 0) ≡ 8 * offset = omega arith in
    let gone : value % 1 ≡ 0 = omega arith in
    let none : word / 2 ^ (8 * offset) * 2 ^ (8 * offset) + 0 * 2 ^ (8 * offset) ≡ word / 2 ^ (8 * offset) * 2 ^ (8 * offset) = omega arith in
    rw (upto, gone, none) (shr_split word (8 * offset))

-- Writing the lowest byte first, and then the others, writes the whole part.
one_then_rest : (size offset word value : ℕ) →
    with_part size (offset + 1) (with_part 1 offset word value) (value / 256) ≡ with_part (suc size) offset word value
unfolding with_part
one_then_rest size offset word value =
    let j : ℕ = 8 * offset in
    let high : ℕ = word / 2 ^ (j + 8) in
    let low : ℕ = value % 2 ^ 8 * 2 ^ j + word % 2 ^ j in
    let step : 8 * (offset + 1) ≡ j + 8 = omega arith in
    let upto : 8 * (offset + 1 + size) ≡ j + 8 + 8 * size = omega arith in
    let upto' : 8 * (offset + suc size) ≡ j + 8 + 8 * size = omega arith in
    let bits : 8 * suc size ≡ 8 * size + 8 = omega arith in
    let power : 2 ^ (j + 8) ≡ 2 ^ j * 2 ^ 8 = pow-add 2 j 8 in
    let rest_below : word % 2 ^ j < 2 ^ j = mod_below word (2 ^ j) (pow_pos j) in
    let byte_below : value % 2 ^ 8 < 2 ^ 8 = mod_below value (2 ^ 8) (pow_pos 8) in
    let low_below : low < 2 ^ (j + 8) = rw power (mul-add-lt (value % 2 ^ 8) (2 ^ j) (word % 2 ^ j) (2 ^ 8) byte_below rest_below) in
    let new : ℕ = high * 2 ^ (j + 8) + value % 2 ^ 8 * 2 ^ j + word % 2 ^ j in
    let new_is : new ≡ high * 2 ^ (j + 8) + low = omega arith in
    let above : new / 2 ^ (j + 8) ≡ high = ap (λ y. y / 2 ^ (j + 8)) new_is ∙ shr_high high (j + 8) low low_below in
    let top : new / 2 ^ (j + 8 + 8 * size) ≡ word / 2 ^ (j + 8 + 8 * size) =
    sym (shr-shr new (j + 8) (8 * size)) ∙ ap (λ y. y / 2 ^ (8 * size)) above ∙ shr-shr word (j + 8) (8 * size) in
    let bottom : new % 2 ^ (j + 8) ≡ low = ap (λ y. y % 2 ^ (j + 8)) new_is ∙ mod_low high (j + 8) low low_below in
    let rest : ℕ = value / 2 ^ 8 % 2 ^ (8 * size) in
    let split : value % 2 ^ (8 * size + 8) ≡ rest * 2 ^ 8 + value % 2 ^ 8 = mod-pow-add value (8 * size) 8 in
    let moved : rest * 2 ^ (j + 8) ≡ rest * (2 ^ j * 2 ^ 8) = ap (λ y. rest * y) power in
    let whole : ℕ = word / 2 ^ (j + 8 + 8 * size) * 2 ^ (j + 8 + 8 * size) in
    let joined : whole + rest * 2 ^ (j + 8) + low ≡ whole + (rest * 2 ^ 8 + value % 2 ^ 8) * 2 ^ j + word % 2 ^ j = omega arith in
    rw (upto, step, upto', bits, top, bottom, split) joined

written : (size offset word value : ℕ) → offset + size ≤ 4 → word_bytes (with_part size offset word value) ≡ with_number (word_bytes word) offset size value
unfolding with_number
written zero offset word value h = ap word_bytes (nothing offset word value)
written (suc size) offset word value h =
    sym (ap word_bytes (one_then_rest size offset word value))
    ∙ written size (offset + 1) (with_part 1 offset word value) (value / 256) (omega arith)
    ∙ ap (λ bytes. with_number bytes (offset + 1) size (value / 256)) (one_byte offset word value (omega arith))

-- ---- the word afterwards

-- The word with a new part is below 2^32, as the value of a function whose masks are words.
small : (size offset word value : ℕ) → offset + size ≤ 4 → word < 2 ^ 32 → with_part size offset word value < 2 ^ 32
unfolding store_phi
small size offset word value fits h =
    let k : ℕ = 8 * size in
    let j : ℕ = 8 * offset in
    let value_below : value % 2 ^ k < 2 ^ k = mod_below value (2 ^ k) (pow_pos k) in
    let moved : value % 2 ^ k * 2 ^ j < 2 ^ (k + j) = shl_below (value % 2 ^ k) k j value_below in
    let bits : k + j ≤ 32 = omega arith in
    let within : 2 ^ (k + j) ≤ 2 ^ 32 = pow-le-pow_right {n = 2} (omega arith) {j = 32} bits in
    let same : apply (store_phi size offset value) word ≡ with_part size offset word value = store_meaning size offset value word fits h in
    let below : apply (store_phi size offset value) word < 2 ^ 32 = stored_small _ _ word (omega arith) h in
    rw same at below

-- A word is the number of its bytes.
number_of_bytes : (word : ℕ) → word < 2 ^ 32 → word ≡ number_at (word_bytes word) 0 4
unfolding part_of
number_of_bytes word h =
    let whole : word ≡ word / 1 % 2 ^ 32 = omega arith in
    whole ∙ read 4 0 word (omega arith)

-- A word with one part replaced by a number is a word, and has the bytes of that number there.
pub all_written : NewPartsAreNewBytes
all_written size offset word value fits h =
    let bytes : word_bytes (with_part size offset word value) ≡ with_number (word_bytes word) offset size value = written size offset word value fits in
    let below : with_part size offset word value < 2 ^ 32 = small size offset word value fits h in
    (below, bytes, number_of_bytes (with_part size offset word value) below ∙ ap (λ list. number_at list 0 4) bytes)
