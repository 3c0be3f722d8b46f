-- The text of a function on words: the instructions that compute it, each with its operand, the first one first.
use Rattle.std.specs.Prelude.{ℕ, ◌-◌, ◌^◌, ◌==◌, ℤ, pos, negsuc, List, [], ◌++◌, codes, if◌then◌else◌}
use Rattle.std.specs.Int.{w32, bit_not, cast_unsigned}
use Rattle.std.specs.Ordering.{int_eq}
use Rattle.command_io.specs.Digits.{hex_of_word}
use Rattle.phi_algebra.specs.declared.phi.Phi.{Phi}
use Rattle.phi_algebra.specs.declared.phi.Phi.TheVariants.{Add, Bits, Clamp, ClampU}
use Rattle.phi_algebra.specs.Functions.{apply, is_constant, is_identity}
use Rattle.phi_algebra.specs.Ranges.{SignedEnds, UnsignedEnds}

-- ` xor V`, and nothing if V is 0
unfoldable pub flips_text : ℕ → List ℕ
flips_text xor = if xor == 0 then [] else codes " xor " ++ hex_of_word xor

-- `or V`, `and V`, or `and V xor V`
abbrev pub masks_text : (and xor : ℕ) → List ℕ
masks_text and xor =
    if and == bit_not w32 xor then codes "or " ++ hex_of_word xor else
    codes "and " ++ hex_of_word and ++ flips_text xor

-- `xor V` if all bits are kept, and what `masks_text` gives otherwise
abbrev pub bits_text : (and xor : ℕ) → List ℕ
bits_text and xor = if and == 2 ^ 32 - 1 then codes "xor " ++ hex_of_word xor else masks_text and xor

-- ` min V` in two's complement, and nothing if V is the greatest word
unfoldable pub signed_end : ℤ → List ℕ
signed_end hi = if int_eq hi (pos (2 ^ 31 - 1)) then [] else codes " min " ++ hex_of_word (cast_unsigned w32 hi)

-- `min V`, `max V`, or `max V min V` for both ends of a range
abbrev pub signed_text : SignedEnds → List ℕ
signed_text r =
    if int_eq r.lo (negsuc (2 ^ 31 - 1)) then codes "min " ++ hex_of_word (cast_unsigned w32 r.hi) else
    codes "max " ++ hex_of_word (cast_unsigned w32 r.lo) ++ signed_end r.hi

-- ` minu V` unsigned, and nothing if V is the greatest word
unfoldable pub unsigned_end : ℕ → List ℕ
unsigned_end hi = if hi == 2 ^ 32 - 1 then [] else codes " minu " ++ hex_of_word hi

-- `minu V`, `maxu V`, or `maxu V minu V` for both ends of a range
abbrev pub unsigned_text : UnsignedEnds → List ℕ
unsigned_text r =
    if r.lo == 0 then codes "minu " ++ hex_of_word r.hi else
    codes "maxu " ++ hex_of_word r.lo ++ unsigned_end r.hi

-- the text of a function of some kind, which may be one that changes nothing, or constant
abbrev pub kind_text : Phi → List ℕ
kind_text (Add e) = codes "add " ++ hex_of_word e
kind_text (Bits and xor) = bits_text and xor
kind_text (Clamp r) = signed_text r
kind_text (ClampU r) = unsigned_text r

-- `load` for a function that changes nothing, and `store V` for one whose value is always V
unfoldable pub function_text : Phi → List ℕ
function_text f =
    if is_identity f then codes "load" else
    if is_constant f then codes "store " ++ hex_of_word (apply f 0) else
    kind_text f
