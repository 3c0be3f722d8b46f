-- Ranges of words by their ends, both included: signed in two's complement, and unsigned.
use Rattle.std.specs.Prelude.{ℕ, ◌-◌, ◌^◌, ◌<◌, ◌≤◌, ◌≤ℤ◌, ℤ, pos, negsuc, Bool, ◌==◌, ◌&&◌, nat_lt, int_lt, FitsSigned}
use Rattle.std.specs.Prelude.{if◌then◌else◌}
use Rattle.std.specs.Int.{w32}
use Rattle.std.specs.Ordering.{int_eq}

pub record SignedEnds : Type 0 where
  pub lo : ℤ
  pub hi : ℤ

pub record UnsignedEnds : Type 0 where
  pub lo : ℕ
  pub hi : ℕ

-- The ends are words, and in order.
pub record IsSignedRange (r : SignedEnds) : Type 0 where
  pub lo_fits : FitsSigned w32 r.lo
  pub hi_fits : FitsSigned w32 r.hi
  pub ordered : r.lo ≤ℤ r.hi

pub record IsUnsignedRange (r : UnsignedEnds) : Type 0 where
  pub ordered : r.lo ≤ r.hi
  pub hi_fits : r.hi < 2 ^ 32

-- the number in the range that is nearest to another
abbrev pub clamped_signed : SignedEnds → ℤ → ℤ
clamped_signed r z = if int_lt z r.lo then r.lo else if int_lt r.hi z then r.hi else z

abbrev pub clamped_unsigned : UnsignedEnds → ℕ → ℕ
clamped_unsigned r x = if nat_lt x r.lo then r.lo else if nat_lt r.hi x then r.hi else x

-- whether every word is in the range
abbrev pub is_full_signed : SignedEnds → Bool
is_full_signed r = int_eq r.lo (negsuc (2 ^ 31 - 1)) && int_eq r.hi (pos (2 ^ 31 - 1))

abbrev pub is_full_unsigned : UnsignedEnds → Bool
is_full_unsigned r = (r.lo == 0) && (r.hi == 2 ^ 32 - 1)

-- whether only one word is in the range
abbrev pub is_single_signed : SignedEnds → Bool
is_single_signed r = int_eq r.lo r.hi

abbrev pub is_single_unsigned : UnsignedEnds → Bool
is_single_unsigned r = r.lo == r.hi
