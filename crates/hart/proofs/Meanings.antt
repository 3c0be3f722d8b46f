-- The function of the table means what the instruction does to the word.
use Rattle.std.proofs.Common.{◌≡◌, ℕ, ◌+◌, ◌-◌, ◌*◌, ◌/◌, ◌%◌, ◌^◌, ◌<◌, ◌≤◌, refl, ap, ◌∙◌, arith, min, max, pos, negsuc}
use Rattle.std.specs.Int.Bits.{bit_and, bit_xor, bit_or}
use Rattle.std.specs.Int.{w32, bit_at, cast_signed}
use Rattle.std.proofs.lemmas.Int.{ints, of_z-to_z}
use Rattle.std.proofs.lemmas.Nat.{and_mask, and_comm, xor_comm, xor_lt, or_lt, and_le_l, mod_below, pow_pos}
use Rattle.std.proofs.lemmas.Nat.Bits.{same_from_bits_below, bit_at_and, bit_at_or, bit_at_xor, bit_at_not, ones_shr}
use Rattle.std.proofs.Math.Nat.{mod-eq_of_lt}
use Rattle.rv_table.specs.declared.operation.AmoOp.{AmoOp}
use Rattle.rv_table.specs.declared.operation.AmoOp.TheVariants as amo
use Rattle.flat_machine.specs.Operations.{amo_value}
use Rattle.flat_machine.specs.Words.{plus, is_below, with_part}
use Rattle.phi_algebra.specs.Functions.{apply}
use Rattle.phi_algebra.specs.Ranges.{SignedEnds, UnsignedEnds}
use Rattle.hart.specs.Table.{store_phi}
use Rattle.phi_algebra.specs.declared.phi.Phi.TheVariants.{Add, Bits, Clamp, ClampU}
use Rattle.hart.proofs.Parts.{masked, shifted}

kept : (x : ℕ) → x < 2 ^ 32 → bit_and x (2 ^ 32 - 1) ≡ x
kept x h = and_mask x 32 ∙ mod-eq_of_lt h

-- `(x & !v) ^ v` is `x | v`
or_by_xor : (x v : ℕ) → x < 2 ^ 32 → v < 2 ^ 32 → bit_xor (bit_and x (2 ^ 32 - 1 - v)) v ≡ bit_or x v
or_by_xor x v hx hv =
    same_from_bits_below 32 _ _ (xor_lt 32 _ _ (omega (arith, and_le_l x (2 ^ 32 - 1 - v))) hv) (or_lt 32 _ _ hx hv)
    (λ i small.
    let whole : bit_at (bit_xor (bit_and x (2 ^ 32 - 1 - v)) v) i ≡ (bit_at (bit_and x (2 ^ 32 - 1 - v)) i + bit_at v i) % 2 = bit_at_xor _ _ i in
    let left : bit_at (bit_and x (2 ^ 32 - 1 - v)) i ≡ min (bit_at x i) (bit_at (2 ^ 32 - 1 - v) i) = bit_at_and x _ i in
    let turned : bit_at (2 ^ 32 - 1 - v) i ≡ 1 - bit_at v i = bit_at_not w32 v i hv small in
    let right : bit_at (bit_or x v) i ≡ max (bit_at x i) (bit_at v i) = bit_at_or x v i in
    omega arith)

-- The function of a load leaves each word as it is.
pub load_meaning : (x : ℕ) → x < 2 ^ 32 → apply (Bits (2 ^ 32 - 1) 0) x ≡ x
unfolding apply
load_meaning x h = xor_comm (bit_and x (2 ^ 32 - 1)) 0 ∙ kept x h

constant_meaning : (v x : ℕ) → apply (Bits 0 v) x ≡ v
unfolding apply
constant_meaning v x = ap (λ y. bit_xor y v) (and_comm x 0)

-- The constant function of a word is the function of a store of all four bytes.
pub word_phi : (v : ℕ) → v < 2 ^ 32 → Bits 0 v ≡ store_phi 4 0 v
unfolding store_phi
word_phi v h =
    let e : v ≡ v % 2 ^ 32 * 1 = omega arith in
    ap (λ y. Bits 0 y) e

-- The constant function of a word means that all four bytes are replaced by that word.
pub word_meaning : (v x : ℕ) → v < 2 ^ 32 → x < 2 ^ 32 → apply (Bits 0 v) x ≡ with_part 4 0 x v
unfolding with_part
word_meaning v x hv hx =
    let e : v ≡ x / 2 ^ 32 * 2 ^ 32 + v % 2 ^ 32 * 1 + x % 1 = omega arith in
    constant_meaning v x ∙ e

-- The sum with v means what AMOADD makes of a word.
pub add_meaning : (v x : ℕ) → apply (Add v) x ≡ amo_value amo.Add x v
unfolding apply amo_value plus
add_meaning v x = refl

-- The constant function of v means what AMOSWAP makes of a word.
pub swap_meaning : (v x : ℕ) → apply (Bits 0 v) x ≡ amo_value amo.Swap x v
unfolding amo_value
swap_meaning v x = constant_meaning v x

-- A mask of ones and then an exclusive or with v mean what AMOXOR makes of a word.
pub xor_meaning : (v x : ℕ) → x < 2 ^ 32 → apply (Bits (2 ^ 32 - 1) v) x ≡ amo_value amo.Xor x v
unfolding apply amo_value
xor_meaning v x hx = ap (λ y. bit_xor y v) (kept x hx)

-- A mask that clears the bits of v and then an exclusive or with v mean what AMOOR makes of a word.
pub or_meaning : (v x : ℕ) → v < 2 ^ 32 → x < 2 ^ 32 → apply (Bits (2 ^ 32 - 1 - v) v) x ≡ amo_value amo.Or x v
unfolding apply amo_value
or_meaning v x hv hx = or_by_xor x v hx hv

-- The mask v means what AMOAND makes of a word.
pub and_meaning : (v x : ℕ) → apply (Bits v 0) x ≡ amo_value amo.And x v
unfolding apply amo_value
and_meaning v x = xor_comm (bit_and x v) 0

-- The signed range from the least number to v means what AMOMIN makes of a word.
pub min_meaning : (v x : ℕ) (r : SignedEnds) → r.lo ≡ negsuc (2 ^ 31 - 1) → r.hi ≡ cast_signed w32 v → v < 2 ^ 32 → x < 2 ^ 32 →
    apply (Clamp r) x ≡ amo_value amo.Min x v
unfolding apply amo_value is_below
min_meaning v x r low high hv hx = rw (low, high) (grind (arith, ints, of_z-to_z))

-- The signed range from v to the greatest number means what AMOMAX makes of a word.
pub max_meaning : (v x : ℕ) (r : SignedEnds) → r.lo ≡ cast_signed w32 v → r.hi ≡ pos (2 ^ 31 - 1) → v < 2 ^ 32 → x < 2 ^ 32 →
    apply (Clamp r) x ≡ amo_value amo.Max x v
unfolding apply amo_value is_below
max_meaning v x r low high hv hx = rw (low, high) (grind (arith, ints, of_z-to_z))

-- The unsigned range from 0 to v means what AMOMINU makes of a word.
pub minu_meaning : (v x : ℕ) (r : UnsignedEnds) → r.lo ≡ 0 → r.hi ≡ v → apply (ClampU r) x ≡ amo_value amo.Minu x v
unfolding apply amo_value
minu_meaning v x r low high = rw (low, high) (grind arith)

-- The unsigned range from v to 2^32 - 1 means what AMOMAXU makes of a word.
pub maxu_meaning : (v x : ℕ) (r : UnsignedEnds) → r.lo ≡ v → r.hi ≡ 2 ^ 32 - 1 → x < 2 ^ 32 → apply (ClampU r) x ≡ amo_value amo.Maxu x v
unfolding apply amo_value
maxu_meaning v x r low high hx = rw (low, high) (grind arith)

-- An AMO maps words to words.
pub amo_small : (op : AmoOp) (old v : ℕ) → old < 2 ^ 32 → v < 2 ^ 32 → amo_value op old v < 2 ^ 32
unfolding amo_value plus
amo_small amo.Add old v h g = omega arith
amo_small amo.Swap old v h g = g
amo_small amo.Xor old v h g = xor_lt 32 old v h g
amo_small amo.Or old v h g = or_lt 32 old v h g
amo_small amo.And old v h g = omega (arith, and_le_l old v)
amo_small amo.Min old v h g = grind arith
amo_small amo.Max old v h g = grind arith
amo_small amo.Minu old v h g = grind arith
amo_small amo.Maxu old v h g = grind arith

-- The function of a store within a word means that the stored part is replaced by the value.
pub store_meaning : (size offset v x : ℕ) → offset + size ≤ 4 → x < 2 ^ 32 → apply (store_phi size offset v) x ≡ with_part size offset x v
unfolding apply store_phi with_part
store_meaning size offset v x fits h =
    let whole : 32 - 8 * size - 8 * offset + 8 * size + 8 * offset ≡ 32 = omega arith in
    let upto : 8 * offset + 8 * size ≡ 8 * (offset + size) = omega arith in
    let e = rw whole at (masked (8 * offset) (8 * size) (32 - 8 * size - 8 * offset) x v) in
    rw upto at (e h)

-- A mask and an exclusive or with a word map words to words.
pub stored_small : (and xor x : ℕ) → xor < 2 ^ 32 → x < 2 ^ 32 → apply (Bits and xor) x < 2 ^ 32
unfolding apply
stored_small and xor x h g = xor_lt 32 _ _ (omega (arith, and_le_l x and)) h

-- The masks that the code computes by shifts are those of the table.
pub stored : (size offset v : ℕ) → offset + size ≤ 4 →
    Bits (2 ^ 32 - 1 - (2 ^ 32 - 1) / 2 ^ (32 - 8 * size) * 2 ^ (8 * offset) % 2 ^ 32)
    (bit_and v ((2 ^ 32 - 1) / 2 ^ (32 - 8 * size)) * 2 ^ (8 * offset) % 2 ^ 32) ≡ store_phi size offset v
unfolding store_phi
stored size offset v fits =
    let k : ℕ = 8 * size in
    let back : 32 - (32 - k) ≡ k = omega arith in
    let ones : (2 ^ 32 - 1) / 2 ^ (32 - k) ≡ 2 ^ k - 1 = ones_shr 32 (32 - k) (omega arith) ∙ ap (λ y. 2 ^ y - 1) back in
    let value : bit_and v (2 ^ k - 1) ≡ v % 2 ^ k = and_mask v k in
    let mask : (2 ^ k - 1) * 2 ^ (8 * offset) % 2 ^ 32 ≡ (2 ^ k - 1) * 2 ^ (8 * offset) =
    shifted (8 * offset) k (2 ^ k - 1) (omega arith) (omega (arith, pow_pos k)) in
    let moved : v % 2 ^ k * 2 ^ (8 * offset) % 2 ^ 32 ≡ v % 2 ^ k * 2 ^ (8 * offset) =
    shifted (8 * offset) k (v % 2 ^ k) (omega arith) (mod_below _ _ (pow_pos k)) in
    rw (ones, value, mask, moved) refl
