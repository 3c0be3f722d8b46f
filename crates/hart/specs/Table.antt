-- The function of each instruction that refers to a shared word: it maps the old word to the new one.
--
-- Source: the manual's "Load and Store Instructions" and "Atomic Memory Operations". `v` is x[rs2].
use Rattle.std.specs.Prelude.{ℕ, ◌-◌, ◌*◌, ◌%◌, ◌^◌, pos, negsuc}
use Rattle.std.specs.Int.{w32, cast_signed}
use Rattle.rv_table.specs.declared.operation.AmoOp.{AmoOp}
use Rattle.rv_table.specs.declared.operation.AmoOp.TheVariants as amo
use Rattle.phi_algebra.specs.declared.phi.Phi.{Phi}
use Rattle.phi_algebra.specs.declared.phi.Phi.TheVariants.{Add, Bits, Clamp, ClampU}

-- a load changes nothing
unfoldable pub load_phi : Phi
load_phi = Bits (2 ^ 32 - 1) 0

-- A store of `size` bytes keeps the bits outside the bytes stored, and puts the low bytes of the value there.
unfoldable pub store_phi : (size offset v : ℕ) → Phi
store_phi size offset v =
    Bits (2 ^ 32 - 1 - (2 ^ (8 * size) - 1) * 2 ^ (8 * offset)) (v % 2 ^ (8 * size) * 2 ^ (8 * offset))

unfoldable pub amo_phi : AmoOp → (v : ℕ) → Phi
amo_phi amo.Add v = Add v
amo_phi amo.Swap v = Bits 0 v
amo_phi amo.Xor v = Bits (2 ^ 32 - 1) v
amo_phi amo.Or v = Bits (2 ^ 32 - 1 - v) v
amo_phi amo.And v = Bits v 0
amo_phi amo.Min v = Clamp (record { lo = negsuc (2 ^ 31 - 1); hi = cast_signed w32 v })
amo_phi amo.Max v = Clamp (record { lo = cast_signed w32 v; hi = pos (2 ^ 31 - 1) })
amo_phi amo.Minu v = ClampU (record { lo = 0; hi = v })
amo_phi amo.Maxu v = ClampU (record { lo = v; hi = 2 ^ 32 - 1 })
