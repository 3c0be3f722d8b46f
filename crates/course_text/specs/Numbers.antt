-- Numbers of course texts: of `li`, of constants and of alignments. A wrong operand gives a plain line that is wrong in
-- the same way: `.zero` without its number is a wrong form, and `.zero 1048577` is out of range.
use Rattle.std.specs.Prelude.{ℕ, ◌-◌, ◌%◌, ◌^◌, ◌==◌, ◌&&◌, List, [], ◌∷◌, ◌++◌, codes, Result, Ok, Err}
use Rattle.std.specs.Prelude.{ℤ, pos, negsuc, int_le, unsigned_abs, bit_and, if◌then◌else◌}
use Rattle.std.specs.Fmt.{decimal, signed_decimal}
use Rattle.asm_lines.specs.declared.fault.LineFault.{LineFault}
use Rattle.asm_lines.specs.declared.fault.LineFault.TheVariants.{Range}
use Rattle.asm_lines.specs.Number.{low_bits, number_within}
use Rattle.asm_lines.specs.Statements.{is_name}
use Rattle.assembler.specs.Meaning.{high_part, low_part}
use Rattle.course_text.specs.Templates.{filled}

abbrev pub wrong_form : List ℕ
wrong_form = codes ".zero"

abbrev pub out_of_range : List ℕ
out_of_range = codes ".zero 1048577"

-- a number that fits in a word, signed or unsigned
abbrev pub word_number : List ℕ → Result ℤ LineFault
word_number operand = number_within (negsuc 2147483647) (pos 4294967295) operand

-- ---- li

-- the parts of a number for LUI and ADDI, as `%hi` and `%lo` of its 32 bits
abbrev pub upper_part : ℤ → ℤ
upper_part z = high_part (low_bits (2 ^ 32) z)

abbrev pub lower_part : ℤ → ℤ
lower_part z = low_part (low_bits (2 ^ 32) z)

abbrev pub long_li : (w rd : List ℕ) → ℤ → List ℕ
long_li w rd z =
    filled (w ∷ rd ∷ signed_decimal (upper_part z) ∷ signed_decimal (lower_part z) ∷ [])
    (codes "lui A, B" ++ (10 ∷ codes "addi A, A, C"))

-- `addi` if the number is one of 12 bits, else `lui` and `addi`
abbrev pub li_of : (w rd n : List ℕ) → Result ℤ LineFault → List ℕ
li_of w rd n (Ok z) =
    if int_le (negsuc 2047) z && int_le z (pos 2047) then filled (w ∷ rd ∷ n ∷ []) (codes "addi A, x0, B")
    else long_li w rd z
li_of w rd n (Err Range) = filled (w ∷ rd ∷ n ∷ []) (codes ".word B")
li_of w rd n (Err other) = filled (w ∷ rd ∷ n ∷ []) (codes "addi A, x0, B")

abbrev pub li_text : (words : List (List ℕ)) → List ℕ
li_text (w ∷ rd ∷ n ∷ []) = li_of w rd n (word_number n)
li_text _ = wrong_form

-- ---- .equ and .set

-- The name of a constant is a label as well. So of two lines with one name the later one is at fault.
abbrev pub constant_line : (name n : List ℕ) → Result ℤ LineFault → List ℕ
constant_line name n (Ok z) = 10 ∷ (name ++ codes ":")
constant_line name n (Err Range) = codes ".word " ++ n
constant_line name n (Err other) = wrong_form

abbrev pub constant_text : (words : List (List ℕ)) → List ℕ
constant_text (w ∷ name ∷ n ∷ []) = if is_name name then constant_line name n (word_number n) else wrong_form
constant_text _ = wrong_form

-- ---- alignments

-- how many bytes are missing from a count to a multiple of `alignment`
abbrev pub missing : (alignment count : ℕ) → ℕ
missing alignment count = (alignment - count % alignment) % alignment

abbrev pub zeros_text : ℕ → List ℕ
zeros_text n = if n == 0 then [] else codes ".zero " ++ decimal n

-- to a multiple of a power of 2, by its exponent
abbrev pub align_of : (count : ℕ) → Result ℤ LineFault → List ℕ
align_of count (Ok z) = zeros_text (missing (2 ^ unsigned_abs z) count)
align_of count (Err Range) = out_of_range
align_of count (Err other) = wrong_form

abbrev pub align_text : (count : ℕ) → (words : List (List ℕ)) → List ℕ
align_text count (w ∷ n ∷ []) = align_of count (number_within (pos 0) (pos 16) n)
align_text count _ = wrong_form

-- to a multiple of a power of 2 itself
abbrev pub balign_of : (count : ℕ) → Result ℤ LineFault → List ℕ
balign_of count (Ok z) =
    if bit_and (unsigned_abs z) (unsigned_abs z - 1) == 0 then zeros_text (missing (unsigned_abs z) count)
    else out_of_range
balign_of count (Err Range) = out_of_range
balign_of count (Err other) = wrong_form

abbrev pub balign_text : (count : ℕ) → (words : List (List ℕ)) → List ℕ
balign_text count (w ∷ n ∷ []) = balign_of count (number_within (pos 1) (pos 65536) n)
balign_text count _ = wrong_form
