-- Constants: names for numbers, by `.equ` and `.set`.
use Rattle.std.specs.Prelude.{ℕ, Bool, true, false, not, ◌&&◌, is_ok, List, [], ◌∷◌, ◌++◌, fold, Option, Some, None}
use Rattle.std.specs.Prelude.{if◌then◌else◌, ℤ}
use Rattle.std.specs.BTreeMap.{get_by, BTreeMap}
use Rattle.std.specs.Borrow.{Bor}
use Rattle.std.specs.Cmp.Lexicographic.{slice_cmp}
use Rattle.std.specs.Fmt.{signed_decimal}
use Rattle.std.specs.Map.{update}
use Rattle.std.specs.Option.{option_map, option_map_or}
use Rattle.std.specs.Ordering.{nat_cmp}
use Rattle.std.specs.Result.{result_ok}
use Rattle.std.specs.Str.{bytes_eq}
use Rattle.asm_lines.specs.Statements.{is_name, is_name_byte, line_of}
use Rattle.course_text.specs.declared.table.Word.{Word}
use Rattle.course_text.specs.declared.table.Word.TheVariants.{DotEqu, DotSet}
use Rattle.course_text.specs.Parts.{parts_of, given}
use Rattle.course_text.specs.Table.{course_word}
use Rattle.course_text.specs.Numbers.{word_number}

abbrev pub Constants : Type 0
Constants = List ℕ → Option ℤ

-- whether a line with this first word defines a constant
abbrev pub defines : Option Word → Bool
defines (Some DotEqu) = true
defines (Some DotSet) = true
defines _ = false

-- the name and the number of a definition, if it is right
abbrev pub named_number : (words : List (List ℕ)) → Option (List ℕ × ℤ)
named_number (w ∷ name ∷ n ∷ []) =
    if is_name name then option_map (λ z. (name, z)) (result_ok (word_number n)) else None
named_number _ = None

-- the constant that a line defines; one that the plain grammar reads defines none
unfoldable pub constant_in : (line : List ℕ) → Option (List ℕ × ℤ)
constant_in line =
    let p = parts_of line in
    if defines (course_word p.word) && not (is_ok (line_of line)) then named_number (p.word ∷ given p.rest) else None

-- with one more constant
abbrev pub with_constant : Constants → Option (List ℕ × ℤ) → Constants
with_constant constants None = constants
with_constant constants (Some c) = update bytes_eq constants c.0 (Some c.1)

-- with the constant of one more line
abbrev pub with_line : Constants → (line : List ℕ) → Constants
with_line constants line = with_constant constants (constant_in line)

-- the constants of a text: all lines may use them
abbrev pub constants_of : (lines : List (List ℕ)) → Constants
constants_of lines = fold with_line (λ _. None) lines

-- a word, or the number that it names
abbrev pub number_for : Constants → (word : List ℕ) → List ℕ
number_for constants word = option_map_or signed_decimal (constants word) word

-- a text after part of a word: each word of letters, digits and _ that names a constant is replaced by its number
abbrev pub replaced_after : Constants → (word text : List ℕ) → List ℕ
replaced_after constants word [] = number_for constants word
replaced_after constants word (b ∷ bs) =
    if is_name_byte b then replaced_after constants (word ++ b ∷ []) bs
    else number_for constants word ++ b ∷ replaced_after constants [] bs

unfoldable pub replaced : Constants → (text : List ℕ) → List ℕ
replaced constants text = replaced_after constants [] text

-- the constants of a map, as a function
abbrev pub constant_values : BTreeMap (Bor (List ℕ)) ℤ → Constants
constant_values m = λ name. get_by (λ (k : Bor (List ℕ)). slice_cmp nat_cmp name k.now) m
