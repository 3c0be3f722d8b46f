-- A mask of ones keeps each word; after a mask of zeros only the exclusive or is left.
use Rattle.std.proofs.Common.{◌≡◌, ℕ, ◌-◌, ◌^◌, ◌<◌, ap, ◌∙◌}
use Rattle.std.specs.Int.Bits.{bit_and, bit_xor}
use Rattle.std.proofs.lemmas.Nat.{and_mask, and_comm, xor_comm}
use Rattle.std.proofs.Math.Nat.{mod-eq_of_lt}
use Rattle.phi_algebra.specs.Functions.{apply}
use Rattle.phi_algebra.specs.declared.phi.Phi.TheVariants.{Bits}

-- An exclusive or with 0 leaves a number as it is.
pub xor_zero : (n : ℕ) → bit_xor n 0 ≡ n
xor_zero n = xor_comm n 0

-- A mask of 32 ones leaves a word as it is.
pub kept : (x : ℕ) → x < 2 ^ 32 → bit_and x (2 ^ 32 - 1) ≡ x
kept x h = and_mask x 32 ∙ mod-eq_of_lt h

-- The Bits function with a mask of ones and an exclusive or with 0 gives each word back.
pub ones_keep : (x : ℕ) → x < 2 ^ 32 → apply (Bits (2 ^ 32 - 1) 0) x ≡ x
unfolding apply
ones_keep x h = xor_zero (bit_and x (2 ^ 32 - 1)) ∙ kept x h

-- The Bits function with a mask of 0 has the value v everywhere.
pub constant_meaning : (v x : ℕ) → apply (Bits 0 v) x ≡ v
unfolding apply
constant_meaning v x = ap (λ y. bit_xor y v) (and_comm x 0)
