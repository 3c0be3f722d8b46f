-- What an access reads and writes is in range: bytes, words, and parts of words.
use Rattle.std.proofs.Common.{◌≡◌, ℕ, zero, suc, ◌+◌, ◌-◌, ◌*◌, ◌/◌, ◌%◌, ◌^◌, ◌<◌, ◌≤◌, Bool, true}
use Rattle.std.proofs.Common.{false, cond, eqb, List, [], ◌∷◌, Ok, Err, refl, sym, ap, ◌∙◌, arith}
use Rattle.std.specs.Prelude.{not, nat_le, nat_lt, slice_index, slice_set}
use Rattle.std.proofs.lemmas.Bool.{and_parts, eqb-true, leb-true, ltb-true}
use Rattle.std.proofs.lemmas.Nat.{mod_below, mul-add-lt, pow_pos, pow-add, shr_below}
use Rattle.rv_table.specs.declared.operation.LoadOp.{LoadOp}
use Rattle.rv_table.specs.declared.operation.LoadOp.TheVariants.{Lb, Lh, Lw, Lbu, Lhu}
use Rattle.rv_table.specs.declared.operation.StoreOp.{StoreOp}
use Rattle.rv_table.specs.declared.operation.StoreOp.TheVariants.{Sb, Sh, Sw}
use Rattle.flat_machine.specs.declared.effect.Region.TheVariants as region
use Rattle.flat_machine.specs.declared.fault.Fault.TheVariants.{AddressNotAligned, NoRegion, StoreToCode}
use Rattle.flat_machine.specs.declared.setting.Setting.{Setting}
use Rattle.flat_machine.specs.Laws.{AreBelow}
use Rattle.flat_machine.specs.Memory.{in_code, in_local, in_shared, number_at, region_of, with_number}
use Rattle.flat_machine.specs.Operations.{load_size, store_size}
use Rattle.flat_machine.specs.Words.{part_of, with_part}

-- ---- lists

-- If the numbers of a list are below a bound, they still are after a number below it is written at a place.
pub set_below : (bound : ℕ) (xs : List ℕ) (k x : ℕ) → x < bound → AreBelow bound xs → AreBelow bound (slice_set xs k x)
set_below bound [] k x small all = all
set_below bound (y ∷ ys) zero x small all = first
  where
    first : (j : ℕ) → slice_index (x ∷ ys) j < bound
    first zero = small
    first (suc j) = all (suc j)
set_below bound (y ∷ ys) (suc k) x small all = rest (set_below bound ys k x small (λ i. all (suc i)))
  where
    rest : AreBelow bound (slice_set ys k x) → (j : ℕ) → slice_index (y ∷ slice_set ys k x) j < bound
    rest below zero = all zero
    rest below (suc j) = below j

-- The number that `size` bytes make is below 2^(8 * size).
pub number_small : (bytes : List ℕ) (place size : ℕ) → AreBelow 256 bytes → number_at bytes place size < 2 ^ (8 * size)
unfolding number_at
number_small bytes place zero all = omega arith
number_small bytes place (suc size) all =
    let low : slice_index bytes place < 256 = all place in
    let high : number_at bytes (place + 1) size < 2 ^ (8 * size) = number_small bytes (place + 1) size all in
    let bits : 8 * suc size ≡ 8 + 8 * size = omega arith in
    let power : 2 ^ (8 * suc size) ≡ 256 * 2 ^ (8 * size) = ap (λ k. 2 ^ k) bits ∙ pow-add 2 8 (8 * size) in
    rw power (omega arith)

-- Bytes stay bytes if a number is written over some of them.
pub with_number_below : (bytes : List ℕ) (place size value : ℕ) → AreBelow 256 bytes → AreBelow 256 (with_number bytes place size value)
unfolding with_number
with_number_below bytes place zero value all = all
with_number_below bytes place (suc size) value all =
    with_number_below (slice_set bytes place (value % 256)) (place + 1) size (value / 256) (set_below 256 bytes place (value % 256) (omega arith) all)

-- ---- parts of words

-- The number of `size` bytes of a word is below 2^(8 * size).
pub part_small : (size offset word : ℕ) → part_of size offset word < 2 ^ (8 * size)
unfolding part_of
part_small size offset word = mod_below _ _ (pow_pos (8 * size))

-- A word stays a word if a part of it is replaced.
pub with_part_small : (size offset word value : ℕ) → offset + size ≤ 4 → word < 2 ^ 32 → with_part size offset word value < 2 ^ 32
unfolding with_part
with_part_small size offset word value inside small =
    let j : ℕ = 8 * offset in
    let k : ℕ = 8 * size in
    let top : ℕ = 8 * (offset + size) in
    let rest : ℕ = 32 - top in
    let whole : rest + top ≡ 32 = omega arith in
    let upto : 2 ^ top ≡ 2 ^ j * 2 ^ k = let e : top ≡ j + k = omega arith in ap (λ n. 2 ^ n) e ∙ pow-add 2 j k in
    let low : value % 2 ^ k * 2 ^ j + word % 2 ^ j < 2 ^ top =
    rw upto (mul-add-lt (value % 2 ^ k) (2 ^ j) (word % 2 ^ j) (2 ^ k) (mod_below value (2 ^ k) (pow_pos k)) (mod_below word (2 ^ j) (pow_pos j))) in
    let high : word / 2 ^ top < 2 ^ rest = shr_below word rest top (rw whole small) in
    let sum : word / 2 ^ top * 2 ^ top + (value % 2 ^ k * 2 ^ j + word % 2 ^ j) < 2 ^ top * 2 ^ rest =
    mul-add-lt (word / 2 ^ top) (2 ^ top) (value % 2 ^ k * 2 ^ j + word % 2 ^ j) (2 ^ rest) high low in
    let all : 2 ^ top * 2 ^ rest ≡ 2 ^ 32 = let e : top + rest ≡ 32 = omega arith in sym (pow-add 2 top rest) ∙ ap (λ n. 2 ^ n) e in
    omega arith

-- ---- regions

-- A load at an address divisible by its size lies within one word.
pub load_inside : (op : LoadOp) (address : ℕ) → address % load_size op ≡ 0 → address % 4 + load_size op ≤ 4
load_inside Lb address aligned = omega arith
load_inside Lh address aligned = omega arith
load_inside Lw address aligned = omega arith
load_inside Lbu address aligned = omega arith
load_inside Lhu address aligned = omega arith

-- A store at an address divisible by its size lies within one word.
pub store_inside : (op : StoreOp) (address : ℕ) → address % store_size op ≡ 0 → address % 4 + store_size op ≤ 4
store_inside Sb address aligned = omega arith
store_inside Sh address aligned = omega arith
store_inside Sw address aligned = omega arith

found_shared : (aligned shared local code writes : Bool) (reached place word : ℕ) →
    cond (not aligned) (Err AddressNotAligned) (cond shared (Ok (region.Shared reached))
    (cond local (Ok (region.Local place)) (cond code (cond writes (Err StoreToCode) (Ok (region.Code place))) (Err NoRegion)))) ≡ Ok (region.Shared word) →
    (aligned ≡ true) × (shared ≡ true) × (reached ≡ word)
found_shared false shared local code writes reached place word e = absurd (cc)
found_shared true true local code writes reached place word e = (refl, refl, cc)
found_shared true false true code writes reached place word e = absurd (cc)
found_shared true false false true true reached place word e = absurd (cc)
found_shared true false false true false reached place word e = absurd (cc)
found_shared true false false false writes reached place word e = absurd (cc)

-- If an access goes to a shared word, the access is aligned and the machine has that word.
pub shared_region : (s : Setting) (size address : ℕ) (writes : Bool) (word : ℕ) → region_of s size address writes ≡ Ok (region.Shared word) →
    (address % size ≡ 0) × (word < s.shared_words)
unfolding region_of
shared_region s size address writes word e =
    let f = found_shared (eqb (address % size) 0) (in_shared s.shared_words address) (in_local address) (in_code address) writes ((address - 2 ^ 31) / 4)
    (address % 2 ^ 16) word e in
    let between = and_parts (nat_le (2 ^ 31) address) (nat_lt address (2 ^ 31 + 4 * s.shared_words)) f.1 in
    let from : 2 ^ 31 ≤ address = leb-true (2 ^ 31) address between.0 in
    let below : address < 2 ^ 31 + 4 * s.shared_words = ltb-true address (2 ^ 31 + 4 * s.shared_words) between.1 in
    let is : (address - 2 ^ 31) / 4 ≡ word = f.2 in
    (eqb-true (address % size) 0 f.0, omega arith)
