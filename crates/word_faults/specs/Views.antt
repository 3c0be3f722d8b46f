-- The code's types as values.
use Rattle.std.specs.Prelude.{ℕ, List, Option}
use Rattle.std.specs.Borrow.{Bor}
use Rattle.std.specs.Option.{option_map}
use Rattle.word_faults.specs.declared.parts.Parts.{Parts}
use Rattle.word_faults.specs.declared.spot.Spot.{Spot}
use Rattle.word_faults.specs.Advice.{Advice, advice_of}
use Rattle.word_faults.specs.Spans.{Span, span_of}
use Rattle.word_faults.specs.WrongOperands.{LineSpans}

abbrev pub line_spans : Parts → LineSpans
line_spans p = record { label = option_map span_of p.label; word = span_of p.word; rest = span_of p.rest }

-- the word that a spot names
abbrev pub spot_span : Spot → Span
spot_span s = span_of s.piece

-- what a spot advises
abbrev pub spot_advice : Spot → Advice
spot_advice s = advice_of s.hint

-- the nearest name, with the number of edits that lead to it
abbrev pub near_view : Option (ℕ × Bor (List ℕ)) → Option (ℕ × List ℕ)
near_view found = option_map (λ (p : ℕ × Bor (List ℕ)). (p.0, p.1.now)) found
