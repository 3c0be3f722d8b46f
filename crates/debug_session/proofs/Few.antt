-- A machine has at most 64 processors, and no processor is noted at first.
use Rattle.std.proofs.Common.{◌≡◌, ℕ, zero, suc, ◌^◌, ◌<◌, ◌≤◌, Bool, true, false, nat_lt, Some, None, refl, arith}
use Rattle.std.specs.Prelude.{◌&&◌, replicate, slice_index_or, if◌then◌else◌}
use Rattle.std.proofs.Math.Nat.{pow-le-pow_right}
use Rattle.std.proofs.lemmas.Bool.{ltb-true}

-- With at most 6 stages, the number of a processor is below 64.
pub below_64 : (k p : ℕ) → k ≤ 6 → p < 2 ^ k → p < 64
below_64 k p few within = let most : 2 ^ k ≤ 64 = pow-le-pow_right {n = 2} (omega arith) few in omega (arith, most, within)

-- If a value is read from a processor, the machine has this processor.
pub is_there : {X : Type 0} (p n : ℕ) (home : Bool) (x y : X) → (if nat_lt p n && home then Some x else None) ≡ Some y → p < n
is_there {X} p n home x y e = by (nat_lt p n) refl e
  where
    by : (b : Bool) → nat_lt p n ≡ b → (if b && home then Some x else None) ≡ Some y → p < n
    by true is there = ltb-true p n is
    by false is there = absurd (cc)

-- No processor is noted if all flags are false.
pub none_noted : (n p : ℕ) → slice_index_or (replicate n false) p false ≡ false
none_noted zero p = refl
none_noted (suc n) zero = refl
none_noted (suc n) (suc p) = none_noted n p
