-- A byte of the local memory of a processor.
use Rattle.std.proofs.Common.{◌≡◌, ℕ, ◌%◌, ◌^◌, Bool, true, false, List, Some, None, refl, ap, ◌∙◌, arith}
use Rattle.std.specs.Prelude.{slice_index, ◌&&◌, if◌then◌else◌}
use Rattle.std.specs.Result.{result_ok}
use Rattle.flat_machine.specs.Memory.{number_at, is_aligned}
use Rattle.hart.specs.State.{CoreState}
use Rattle.local_memory.specs.Accesses.{load_of}

-- The number of one byte is that byte.
pub number_of_byte : (bytes : List ℕ) (place : ℕ) → number_at bytes place 1 ≡ slice_index bytes place
unfolding number_at
number_of_byte bytes place = omega arith

-- Each address is aligned for an access of one byte.
pub byte_is_aligned : (address : ℕ) → is_aligned 1 address ≡ true
byte_is_aligned address = let e : address % 1 ≡ 0 = omega arith in rw e refl

-- A load of one byte gives the byte at the address, if it is inside.
byte_loaded : (bytes : List ℕ) (address : ℕ) (inside : Bool) →
    result_ok (load_of bytes 1 address inside) ≡ (if inside then Some (slice_index bytes (address % 2 ^ 16)) else None)
byte_loaded bytes address true = rw (byte_is_aligned address) (ap (λ b. Some b) (number_of_byte bytes (address % 2 ^ 16)))
byte_loaded bytes address false = rw (byte_is_aligned address) refl

-- A byte of a processor's core is the byte of its local memory, if the processor is there.
pub byte_of_core : (is_there inside : Bool) (core found : CoreState) (address : ℕ) → Some found ≡ (if is_there then Some core else None) →
    result_ok (load_of found.state.local 1 address inside) ≡ (if is_there && inside then Some (slice_index core.state.local (address % 2 ^ 16)) else None)
byte_of_core true inside core found address e =
    let same : found ≡ core = cc in
    ap (λ (c : CoreState). result_ok (load_of c.state.local 1 address inside)) same ∙ byte_loaded core.state.local address inside
byte_of_core false inside core found address e = absurd (cc)
