-- Lines whose operands say the same are read alike.
use Rattle.std.proofs.Common.{◌≡◌, ℕ, ◌<◌, true, false, not, eqb, List, [], ◌∷◌, ◌++◌, length, Some, None, refl, sym, ap, ◌∙◌, append_assoc, inl, arith}
use Rattle.std.specs.Prelude.{◌&&◌, slice_index, if◌then◌else◌}
use Rattle.std.specs.Char.{digit_value}
use Rattle.std.specs.Str.{bytes_eq}
use Rattle.std.proofs.lemmas.Bool.{and_left, not-true}
use Rattle.asm_lines.specs.Text.{trimmed, operands_of}
use Rattle.asm_lines.specs.Statements.{is_name, bracket_parts, line_of}
use Rattle.asm_lines.specs.Written.{in_brackets}
use Rattle.asm_lines.specs.Alike.{IsNumeralOf, AreReadAlike, Pairwise, none, more, SayTheSame, same}
use Rattle.asm_lines.specs.Alike.{numerals, offsets, IsQuiet, IsFirstWord, IsLead, statement_line}
use Rattle.asm_lines.proofs.PlainWords.{cut_last_mid}
use Rattle.asm_lines.proofs.Numerals.{digit_passes}
use Rattle.asm_lines.proofs.Alike.{looks, numerals_alike}
use Rattle.asm_lines.proofs.Trims.{lacks, trimmed_word}
use Rattle.asm_lines.proofs.WithBracket.{bracket}
use Rattle.asm_lines.proofs.Cuts.{parts_trimmed, bracketed_snoc, SameCut, from_cuts}
use Rattle.asm_lines.proofs.Blanks.{alike_itself}
use Rattle.asm_lines.proofs.StatementLines.{not_empty, lines_alike}

cut_base : (front base : List ℕ) → lacks 40 base ≡ true → bracket_parts (in_brackets front base) ≡ Some (trimmed front, trimmed base)
cut_base front base h =
    ap bracket_parts (sym (append_assoc front (40 ∷ base) (41 ∷ [])))
    ∙ bracketed_snoc (front ++ 40 ∷ base) 41
    ∙ ap parts_trimmed (cut_last_mid front base h)

-- A numeral is not a modifier, which begins with %.
no_modifier : (b : ℕ) (bs modifier : List ℕ) → digit_value b < 10 → slice_index modifier 0 ≡ 37 → bytes_eq (b ∷ bs) modifier ≡ false
no_modifier b bs [] h e = refl
no_modifier b bs (y ∷ ys) h e = and_left (eqb b y) _ (ap (eqb b) e ∙ not-true _ (digit_passes (λ d. not (eqb d 37)) refl b h))

module _ (n : ℕ) (bytes : List ℕ) (is : IsNumeralOf n bytes) where
  some_byte : 0 < length bytes
  some_byte = let l = looks n bytes is in rw l.is (omega arith)

  numeral_trimmed : trimmed bytes ≡ bytes
  numeral_trimmed = let l = looks n bytes is in trimmed_word bytes some_byte l.solid

  numeral_no_modifier : (modifier : List ℕ) → slice_index modifier 0 ≡ 37 → bytes_eq bytes modifier ≡ false
  numeral_no_modifier modifier e = let l = looks n bytes is in rw l.is (no_modifier l.first l.rest modifier l.digit e)

offsets_alike : (n : ℕ) (one other base : List ℕ) → IsNumeralOf n one → IsNumeralOf n other → lacks 40 base ≡ true
    → AreReadAlike (in_brackets one base) (in_brackets other base)
offsets_alike n one other base is is' h = from_cuts 40 (bracket 40 (inl refl)) one (base ++ 41 ∷ []) other (base ++ 41 ∷ []) cuts
  where
    cuts : SameCut (bracket_parts (in_brackets one base)) (bracket_parts (in_brackets other base))
    cuts = rw (cut_base one base h, cut_base other base h, numeral_trimmed n one is, numeral_trimmed n other is') (record {
      brackets = ((numerals_alike n one other is is').lower, refl, not_empty one (some_byte n one is) ∙ sym (not_empty other (some_byte n other is')));
      named = λ modifier percent no_open no_close.
          ap (λ b. if b && is_name (trimmed base) then Some (trimmed base) else None)
          (numeral_no_modifier n one is modifier percent ∙ sym (numeral_no_modifier n other is' modifier percent));
    })

alike_of : {one other : List ℕ} → SayTheSame one other → AreReadAlike one other
alike_of (same operand) = alike_itself operand
alike_of (numerals n one other is is') = numerals_alike n one other is is'
alike_of (offsets n one other base is is' h) = offsets_alike n one other base is is' h

all_alike_of : {ones others : List (List ℕ)} → Pairwise SayTheSame ones others → Pairwise AreReadAlike ones others
all_alike_of none = none
all_alike_of (more h rest) = more (alike_of h) (all_alike_of rest)

-- Lines with the same label and first word say the same if their operands do in pairs, and have no colon and no mark of
-- a comment.
pub numeral_lines : (lead word rest rest' : List ℕ) → IsLead lead → IsFirstWord word → IsQuiet rest → IsQuiet rest'
    → Pairwise SayTheSame (operands_of rest) (operands_of rest')
    → line_of (statement_line lead word rest) ≡ line_of (statement_line lead word rest')
numeral_lines lead word rest rest' led is quiet quiet' pairs = lines_alike lead word led is rest rest' quiet quiet' (all_alike_of pairs)
