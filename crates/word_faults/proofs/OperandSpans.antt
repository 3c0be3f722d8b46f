-- The operands so far, followed by those of the rest.
use Rattle.std.proofs.Common.{◌≡◌, ℕ, suc, ◌+◌, ◌<◌, Bool, true, false, cond, not, List, [], ◌∷◌, ◌++◌, length, take, drop, Option, Some, None}
use Rattle.std.proofs.Common.{refl, sym, ap, ◌∙◌, append_assoc, arith, map, eqb}
use Rattle.std.specs.Prelude.{IfSome}
use Rattle.std.specs.List.{position_or_len, position, slice_split, before_first, after_first}
use Rattle.std.specs.Option.{option_map}
use Rattle.std.proofs.lemmas.Bool.{lt-ltb}
use Rattle.std.proofs.lemmas.List.{map-append, length-take-le}
use Rattle.std.proofs.lemmas.List.Splits.{slice_split_first, slice_split-cons_no}
use Rattle.asm_lines.specs.Text.{cut_at, parts_at}
use Rattle.word_faults.specs.declared.piece.Piece.{Piece}
use Rattle.word_faults.proofs.Cutting.{RoundByte, round_count, cut_round}
use Rattle.word_faults.specs.Spans.{Span, span, span_of, trimmed_span, round_byte, cut_span, spans_from, operand_spans}

abbrev is_comma : ℕ → Bool
is_comma b = eqb b 44

uncut : (p : ℕ → Bool) (rest : List ℕ) → position_or_len p rest ≡ length rest → slice_split p rest ≡ rest ∷ []
uncut p [] e = refl
uncut p (b ∷ bs) e = go (p b) refl e (uncut p bs)
  where
    go : (t : Bool) → p b ≡ t → cond (not t) (1 + position_or_len p bs) 0 ≡ suc (length bs) →
        (position_or_len p bs ≡ length bs → slice_split p bs ≡ bs ∷ []) → slice_split p (b ∷ bs) ≡ (b ∷ bs) ∷ []
    go true is e more = absurd (omega arith)
    go false is e more = slice_split-cons_no p b bs is ∙ rw (more (omega arith)) refl

-- A piece without a comma is one operand.
pub no_comma : (s : Span) → position_or_len (λ b. eqb b 44) s.bytes ≡ length s.bytes → operand_spans s ≡ trimmed_span s ∷ []
no_comma s e = ap (λ parts. map trimmed_span (spans_from s.start parts)) (uncut (λ b. eqb b 44) s.bytes e)

-- A piece with a comma is the operand before the first comma, followed by those after it.
pub first_comma : (s : Span) (parts : Span × Span) → position_or_len (λ b. eqb b 44) s.bytes < length s.bytes → Some parts ≡ cut_span (λ b. eqb b 44) s
    → operand_spans s ≡ trimmed_span parts.0 ∷ operand_spans parts.1
unfolding cut_at
first_comma s parts lt e =
    let at = position_or_len (λ b. eqb b 44) s.bytes in
    let cut : cut_span (λ b. eqb b 44) s ≡ Some (round_byte s.start (take at s.bytes, drop (at + 1) s.bytes)) = rw (lt-ltb _ _ lt) refl in
    let both : parts ≡ round_byte s.start (take at s.bytes, drop (at + 1) s.bytes) = cc in
    ap (λ ps. map trimmed_span (spans_from s.start ps)) (slice_split_first (λ b. eqb b 44) s.bytes 0 lt)
    ∙ ap (λ (q : Span × Span). trimmed_span q.0 ∷ operand_spans q.1) (sym both)

-- The part of a piece after a byte is shorter than the piece.
pub rest_shorter : (p : ℕ → Bool) (s : Span) (parts : Span × Span) → Some parts ≡ cut_span p s → length parts.1.bytes < length s.bytes
rest_shorter p s parts e = go (cut_at p s.bytes) (cut_round p s.bytes) e
  where
    go : (o : Option (List ℕ × List ℕ)) → IfSome o (RoundByte s.bytes) → Some parts ≡ option_map (round_byte s.start) o
        → length parts.1.bytes < length s.bytes
    go None r e = cc
    go (Some ps) r e =
        let both : parts ≡ round_byte s.start ps = cc in
        let same : length parts.1.bytes ≡ length ps.1 = ap (λ (q : Span × Span). length q.1.bytes) both in
        omega (arith, round_count s.bytes ps r, same)

-- If the part before the next comma is added to the operands read, these and those of the part after it
-- are all operands.
pub operands_more : (old new : List Piece) (x : Piece) (rest : Span) (parts : Span × Span) (all : List Span) → new ≡ old ++ x ∷ []
    → position_or_len (λ b. eqb b 44) rest.bytes < length rest.bytes → Some parts ≡ cut_span (λ b. eqb b 44) rest → span_of x ≡ trimmed_span parts.0
    → map span_of old ++ operand_spans rest ≡ all → map span_of new ++ operand_spans parts.1 ≡ all
operands_more old new x rest parts all is_new lt e is_x so_far =
    let here : operand_spans rest ≡ span_of x ∷ operand_spans parts.1 = first_comma rest parts lt e ∙ ap (λ (s : Span). s ∷ operand_spans parts.1) (sym is_x) in
    rw (is_new, map-append, append_assoc, ← here) so_far

-- If no comma is left and the rest is added to the operands read, these are all operands.
pub operands_all : (old new : List Piece) (x : Piece) (rest : Span) (all : List Span) → new ≡ old ++ x ∷ []
    → position_or_len (λ b. eqb b 44) rest.bytes ≡ length rest.bytes → span_of x ≡ trimmed_span rest
    → map span_of old ++ operand_spans rest ≡ all → map span_of new ≡ all
operands_all old new x rest all is_new none is_x so_far =
    let here : operand_spans rest ≡ span_of x ∷ [] = no_comma rest none ∙ ap (λ (s : Span). s ∷ []) (sym is_x) in
    rw (is_new, map-append, ← here) so_far
