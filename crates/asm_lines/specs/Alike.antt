-- Texts that are written differently but say the same.
use Rattle.std.specs.Prelude.{◌≡◌, ℕ, ◌<◌, true, not, ◌==◌, ◌||◌, List, [], ◌∷◌, ◌++◌, length, Option, Some, None, ◌⊎◌}
use Rattle.std.specs.Prelude.{ℤ, codes}
use Rattle.std.specs.List.{list_all}
use Rattle.std.specs.Str.Parse.{IsNumeral, digits_value}
use Rattle.asm_lines.specs.Text.{is_blank}
use Rattle.asm_lines.specs.Number.{natural_within}
use Rattle.asm_lines.specs.Written.{in_brackets}
use Rattle.asm_lines.specs.Statements.{is_name, register_in, value_in, bracket_parts, upper_in, lower_in, byte_in}
use Rattle.asm_lines.specs.Statements.{nothing_in}

-- ---- numerals

-- The bytes are decimal digits, with the number as their value.
abbrev pub IsDecimalOf : ℕ → List ℕ → Type 0
IsDecimalOf n bytes = IsNumeral 10 bytes × (digits_value 10 bytes ≡ n)

-- The bytes are 0x and hex digits of either case, with the number as their value.
abbrev pub IsHexOf : ℕ → List ℕ → Type 0
IsHexOf n bytes = (digits : List ℕ) × (bytes ≡ codes "0x" ++ digits) × IsNumeral 16 digits
    × (digits_value 16 digits ≡ n)

abbrev pub IsNumeralOf : ℕ → List ℕ → Type 0
IsNumeralOf n bytes = IsDecimalOf n bytes ⊎ IsHexOf n bytes

-- ---- operands

-- Neither has the form `front(inside)`, or both do, with fronts that are read alike and the same register.
abbrev pub AreBracketedAlike : Option (List ℕ × List ℕ) → Option (List ℕ × List ℕ) → Type 0
AreBracketedAlike None None = Unit {0}
AreBracketedAlike (Some p) (Some q) = (lower_in p.0 ≡ lower_in q.0) × (register_in p.1 ≡ register_in q.1)
    × ((length p.0 == 0) ≡ (length q.0 == 0))
AreBracketedAlike _ _ = ⊥

-- Each reader of an operand gives the same for both.
pub record AreReadAlike (one other : List ℕ) : Type 0 where
  pub register : register_in one ≡ register_in other
  pub value : (least most : ℤ) → value_in least most one ≡ value_in least most other
  pub upper : upper_in one ≡ upper_in other
  pub lower : lower_in one ≡ lower_in other
  pub natural : (most : ℕ) → natural_within most one ≡ natural_within most other
  pub byte : byte_in one ≡ byte_in other
  pub brackets : AreBracketedAlike (bracket_parts one) (bracket_parts other)
  pub nothing : nothing_in (one ∷ []) ≡ nothing_in (other ∷ [])

-- The lists have the same length, and their operands are related in pairs.
pub data Pairwise (R : List ℕ → List ℕ → Type 0) : List (List ℕ) → List (List ℕ) → Type 0 where
  none : Pairwise R [] []
  more : {one other : List ℕ} {ones others : List (List ℕ)} → R one other → Pairwise R ones others →
      Pairwise R (one ∷ ones) (other ∷ others)

-- The operands are the same, or numerals of one number, alone or before a base in brackets.
pub data SayTheSame : List ℕ → List ℕ → Type 0 where
  same : (operand : List ℕ) → SayTheSame operand operand
  numerals : (n : ℕ) (one other : List ℕ) → IsNumeralOf n one → IsNumeralOf n other → SayTheSame one other
  offsets : (n : ℕ) (one other base : List ℕ) → IsNumeralOf n one → IsNumeralOf n other →
      list_all (λ b. not (b == 40)) base ≡ true
      → SayTheSame (in_brackets one base) (in_brackets other base)

-- ---- lines

-- The bytes are spaces and tabs.
abbrev pub AreBlanks : List ℕ → Type 0
AreBlanks bytes = list_all is_blank bytes ≡ true

-- The bytes have no colon, and no mark of a comment.
abbrev pub IsQuiet : List ℕ → Type 0
IsQuiet bytes = list_all (λ b. not ((b == 58) || (b == 35))) bytes ≡ true

-- The word may be the first of a statement.
pub record IsFirstWord (word : List ℕ) : Type 0 where
  pub nonempty : 0 < length word
  pub quiet : IsQuiet word
  pub no_blank : list_all (λ b. not (is_blank b)) word ≡ true

-- The text is empty, or a label with its colon.
abbrev pub IsLead : List ℕ → Type 0
IsLead lead = (lead ≡ []) ⊎ ((name : List ℕ) × (is_name name ≡ true) × (lead ≡ name ++ codes ":"))

-- a line with a statement: a label or nothing, the first word, a blank, and the text of the operands
abbrev pub statement_line : (lead word operands : List ℕ) → List ℕ
statement_line lead word operands = lead ++ (word ++ (codes " " ++ operands))

-- The byte is a comma or a bracket.
abbrev pub IsMark : ℕ → Type 0
IsMark m = (m ≡ 44) ⊎ ((m ≡ 40) ⊎ (m ≡ 41))
