-- The composition of two functions: the first, followed by the second.
use Rattle.std.specs.Prelude.{◌≡◌, ◌≢◌, ℕ, ◌+◌, ◌%◌, ◌^◌, ◌<◌, ◌||◌, Option, Some, None, bit_and, bit_xor}
use Rattle.std.specs.Prelude.{if◌then◌else◌}
use Rattle.phi_algebra.specs.declared.phi.Phi.{Phi}
use Rattle.phi_algebra.specs.declared.phi.Phi.TheVariants.{Add, Bits, Clamp, ClampU}
use Rattle.phi_algebra.specs.Functions.{apply, IsIdentity, IsConstant, is_identity, is_constant}
use Rattle.phi_algebra.specs.Ranges.{SignedEnds, UnsignedEnds, clamped_signed, clamped_unsigned}

pub data Kind : Type 0 where
  Sum : Kind
  Mask : Kind
  Signed : Kind
  Unsigned : Kind

abbrev pub kind_of : Phi → Kind
kind_of (Add e) = Sum
kind_of (Bits and xor) = Mask
kind_of (Clamp r) = Signed
kind_of (ClampU r) = Unsigned

-- a range with both ends clamped to a second one
abbrev pub brought_signed : (first second : SignedEnds) → SignedEnds
brought_signed first second = record { lo = clamped_signed second first.lo; hi = clamped_signed second first.hi }

abbrev pub brought_unsigned : (first second : UnsignedEnds) → UnsignedEnds
brought_unsigned first second = record { lo = clamped_unsigned second first.lo; hi = clamped_unsigned second first.hi }

-- The composition of two functions of different kinds: an identity gives the other function, and a constant function a
-- constant one. Other pairs do not compose, even if a Phi would mean their composition, as for Add(1) followed by Bits
-- { 2^32 - 1, 2^31 }.
abbrev pub composed_across : (first second : Phi) → Option Phi
composed_across f g =
    if is_identity f || is_constant g then Some g else
    if is_identity g then Some f else
    if is_constant f then Some (Bits 0 (apply g (apply f 0))) else
    None

-- The composition of two functions: of one kind, a function of that kind, although one of another kind may mean the
-- same, as Add(2^31) and Bits { 2^32 - 1, 2^31 } do.
unfoldable pub composed : (first second : Phi) → Option Phi
composed (Add e) (Add e') = Some (Add ((e + e') % 2 ^ 32))
composed (Bits and xor) (Bits and' xor') = Some (Bits (bit_and and and') (bit_xor (bit_and xor and') xor'))
composed (Clamp r) (Clamp r') = Some (Clamp (brought_signed r r'))
composed (ClampU r) (ClampU r') = Some (ClampU (brought_unsigned r r'))
composed f g = composed_across f g

-- The third function is the first followed by the second.
abbrev pub IsComposition : (first second third : Phi) → Type 0
IsComposition f g h = (x : ℕ) → x < 2 ^ 32 → apply h x ≡ apply g (apply f x)

-- The two are of different kinds, and neither is an identity or a constant function.
pub record AreApart (first second : Phi) : Type 0 where
  pub kinds : kind_of first ≢ kind_of second
  pub first_varies : ¬ IsConstant first
  pub first_changes : ¬ IsIdentity first
  pub second_varies : ¬ IsConstant second
  pub second_changes : ¬ IsIdentity second
