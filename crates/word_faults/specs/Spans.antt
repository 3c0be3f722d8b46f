-- Pieces of a line, each at its place.
use Rattle.std.specs.Prelude.{◌≡◌, ◌≤◌, ℕ, ◌+◌, ◌-◌, Bool, List, [], ◌∷◌, ◌==◌, if◌then◌else◌, not, length, map}
use Rattle.std.specs.Prelude.{take, slice_index, slice_range, Option, Some, None}
use Rattle.std.specs.List.{position_or_len}
use Rattle.std.specs.Option.{option_map}
use Rattle.asm_lines.specs.Text.{is_blank, trimmed, cut_at, cut_last_at, parts_at}
use Rattle.word_faults.specs.declared.piece.Piece.{Piece}

-- a piece of a line: the number of bytes of the line before it, and its own bytes
pub record Span : Type 0 where
  pub start : ℕ
  pub bytes : List ℕ

abbrev pub span : ℕ → List ℕ → Span
span start bytes = record { start = start; bytes = bytes }

-- The piece is in the line, at its place.
pub record StandsIn (line : List ℕ) (s : Span) : Type 0 where
  pub within : s.start + length s.bytes ≤ length line
  pub reads : s.bytes ≡ slice_range line s.start (s.start + length s.bytes)

-- the code's piece as a value
abbrev pub span_of : Piece → Span
span_of p = span p.start p.bytes.now

-- the empty piece at the end of a piece
abbrev pub end_of : Span → Span
end_of s = span (s.start + length s.bytes) []

-- the number of blanks at the beginning of a text
abbrev pub blanks_before : List ℕ → ℕ
blanks_before bs = position_or_len (λ b. not (is_blank b)) bs

-- the piece without the blanks at its ends
abbrev pub trimmed_span : Span → Span
trimmed_span s = span (s.start + blanks_before s.bytes) (trimmed s.bytes)

-- the pieces before and after one byte
abbrev pub round_byte : ℕ → List ℕ × List ℕ → Span × Span
round_byte start parts = (span start parts.0, span (start + length parts.0 + 1) parts.1)

-- the pieces before and after the first byte that passes
abbrev pub cut_span : (ℕ → Bool) → Span → Option (Span × Span)
cut_span p s = option_map (round_byte s.start) (cut_at p s.bytes)

abbrev pub both_trimmed : Span × Span → Span × Span
both_trimmed parts = (trimmed_span parts.0, trimmed_span parts.1)

-- the pieces before and within the brackets at the end of a piece
abbrev pub bracketed_span : Span → Option (Span × Span)
bracketed_span s =
    if slice_index s.bytes (length s.bytes - 1) == 41
    then option_map (λ parts. both_trimmed (round_byte s.start parts))
    (cut_last_at 40 (take (length s.bytes - 1) s.bytes))
    else None

-- parts with one byte between each two, the first of them at this place
abbrev pub spans_from : ℕ → List (List ℕ) → List Span
spans_from start [] = []
spans_from start (part ∷ parts) = span start part ∷ spans_from (start + length part + 1) parts

-- the operands: the parts between the commas, without the blanks around them
abbrev pub operand_spans : Span → List Span
operand_spans s = map trimmed_span (spans_from s.start (parts_at 44 s.bytes))
