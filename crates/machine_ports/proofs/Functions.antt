-- The functions of the table are in range, and mean the instructions' changes of the word.
use Rattle.std.proofs.Common.{◌≡◌, ℕ, ◌+◌, ◌-◌, ◌*◌, ◌%◌, ◌^◌, ◌<◌, ◌≤◌, refl, arith, pos, negsuc}
use Rattle.std.specs.Prelude.{◌≤ℤ◌}
use Rattle.std.specs.Int.{w32, cast_signed}
use Rattle.std.proofs.Math.Nat.{pow-le-pow_right}
use Rattle.std.proofs.lemmas.Int.{ints}
use Rattle.std.proofs.lemmas.Nat.{mod_below, pow_pos, shl_below}
use borrow.Author.Gap.{read_sfits}
use Rattle.rv_table.specs.declared.operation.AmoOp.{AmoOp}
use Rattle.rv_table.specs.declared.operation.AmoOp.TheVariants as amo
use Rattle.phi_algebra.specs.Functions.{IsInRange, apply}
use Rattle.hart.specs.Table.{amo_phi, load_phi, store_phi}
use Rattle.hart.proofs.Lemmas.{add_meaning, and_meaning, load_meaning, max_meaning, maxu_meaning}
use Rattle.hart.proofs.Lemmas.{min_meaning, minu_meaning, or_meaning, swap_meaning, xor_meaning}
use Rattle.flat_machine.specs.Operations.{amo_value}

-- The function of a load is in range.
pub load_range : IsInRange load_phi
unfolding load_phi
load_range = (omega arith, omega arith)

-- The function of a load leaves each word as it is.
pub load_means : (x : ℕ) → x < 2 ^ 32 → apply load_phi x ≡ x
unfolding load_phi
load_means x h = load_meaning x h

-- The function of a store within a word is in range.
pub store_range : (size offset v : ℕ) → offset + size ≤ 4 → IsInRange (store_phi size offset v)
unfolding store_phi
store_range size offset v inside =
    let k : ℕ = 8 * size in
    let j : ℕ = 8 * offset in
    let moved : v % 2 ^ k * 2 ^ j < 2 ^ (k + j) = shl_below (v % 2 ^ k) k j (mod_below v (2 ^ k) (pow_pos k)) in
    let whole : 2 ^ (k + j) ≤ 2 ^ 32 = pow-le-pow_right {n = 2} (omega arith) {i = k + j} {j = 32} (omega arith) in
    (omega arith, omega arith)

-- The signed range from the lowest number to v has its ends in order.
least_first : (v : ℕ) → v < 2 ^ 32 → negsuc (2 ^ 31 - 1) ≤ℤ cast_signed w32 v
least_first v h = grind (arith, ints)

greatest_last : (v : ℕ) → v < 2 ^ 32 → cast_signed w32 v ≤ℤ pos (2 ^ 31 - 1)
greatest_last v h = grind (arith, ints)

-- The function of an atomic operation with a word is in range.
pub amo_range : (op : AmoOp) (v : ℕ) → v < 2 ^ 32 → IsInRange (amo_phi op v)
unfolding amo_phi
amo_range amo.Add v h = h
amo_range amo.Swap v h = (omega arith, h)
amo_range amo.Xor v h = (omega arith, h)
amo_range amo.Or v h = (omega arith, h)
amo_range amo.And v h = (h, omega arith)
amo_range amo.Min v h = record { lo_fits = record { sfits = omega arith }; hi_fits = read_sfits w32 v; ordered = least_first v h }
amo_range amo.Max v h = record { lo_fits = read_sfits w32 v; hi_fits = record { sfits = omega arith }; ordered = greatest_last v h }
amo_range amo.Minu v h = record { ordered = omega arith; hi_fits = h }
amo_range amo.Maxu v h = record { ordered = omega arith; hi_fits = omega arith }

-- The function of an atomic operation means the operation.
pub amo_means : (op : AmoOp) (v x : ℕ) → v < 2 ^ 32 → x < 2 ^ 32 → apply (amo_phi op v) x ≡ amo_value op x v
unfolding amo_phi
amo_means amo.Add v x small h = add_meaning v x
amo_means amo.Swap v x small h = swap_meaning v x
amo_means amo.Xor v x small h = xor_meaning v x h
amo_means amo.Or v x small h = or_meaning v x small h
amo_means amo.And v x small h = and_meaning v x
amo_means amo.Min v x small h = min_meaning v x _ refl refl small h
amo_means amo.Max v x small h = max_meaning v x _ refl refl small h
amo_means amo.Minu v x small h = minu_meaning v x _ refl refl
amo_means amo.Maxu v x small h = maxu_meaning v x _ refl refl h
