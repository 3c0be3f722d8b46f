-- The word at fault is in its line.
use Rattle.std.proofs.Common.{◌≡◌, ℕ, zero, suc, ◌+◌, ◌-◌, ◌%◌, Bool, true, false, List, [], ◌∷◌}
use Rattle.std.proofs.Common.{◌++◌, length, take, drop, Option, Some, None}
use Rattle.std.proofs.Common.{refl, sym, ap, subst, ◌∙◌, append_assoc, append-nil, add-zero, arith, length-append}
use Rattle.std.specs.Prelude.{map, IfSome, slice_get, slice_index, find, is_some, if◌then◌else◌, ◌==◌, ◌||◌, unwrap_or, option_and_then}
use Rattle.std.specs.List.{join_with_byte}
use Rattle.std.specs.Option.{option_or, option_map}
use Rattle.std.proofs.lemmas.List.{take_at, drop_at, take-append-drop}
use Rattle.std.proofs.lemmas.List.Splits.{join_with_byte-slice_split}
use Rattle.asm_lines.specs.Text.{is_blank, trimmed, cut_at, cut_last_at, parts_at}
use Rattle.asm_lines.specs.Names.{register_of}
use Rattle.asm_lines.specs.Statements.{is_name}
use Rattle.assembler.specs.declared.fault.AsmFault.{AsmFault}
use Rattle.assembler.specs.declared.fault.AsmFault.TheVariants.{UnknownWord, Form, Range, LabelTwice, LabelMissing, SectionFull, Memory}
use Rattle.assembler.specs.Meaning.{Labels}
use Rattle.word_faults.specs.declared.shape.Wanted.{Wanted}
use Rattle.word_faults.specs.declared.shape.Wanted.TheVariants.{Register, Lower, Upper, Shift, Fence, Branch, Jump, Address, Base, Word, Byte, Count}
use Rattle.word_faults.specs.Spans.{Span, span, StandsIn, end_of, blanks_before, trimmed_span, round_byte, cut_span, both_trimmed, bracketed_span}
use Rattle.word_faults.specs.Spans.{spans_from, operand_spans}
use Rattle.word_faults.specs.Wants.{Wants, wants_of, wanted_at}
use Rattle.word_faults.specs.WrongOperands.{LineSpans, before_mark, text_span, label_spans, word_spans}
use Rattle.word_faults.specs.WrongOperands.{statement_spans, spans_of_line, unless}
use Rattle.word_faults.specs.WrongOperands.{part_named, part_label, label_within, is_number, value_fault, register_fault, address_fault, base_fault}
use Rattle.line_faults.specs.WordAtFault.{missing_within}
use Rattle.word_faults.specs.WrongOperands.{fault_within, first_in, is_parted, count_fault, some_operands_fault}
use Rattle.line_faults.specs.WordAtFault.{label_missing, target_span, word_within}
use Rattle.word_faults.specs.WrongOperands.{operands_fault, form_fault}
use Rattle.word_faults.proofs.Lemmas.{trimmed_cut, RoundByte, cut_round, cut_last_round}

-- The line is the text before the piece, the piece, and the text after it.
pub record Splits (line : List ℕ) (s : Span) : Type 0 where
  -- what the line has before the piece
  pub before : List ℕ
  -- what it has after the piece
  pub behind : List ℕ
  -- The line is these two, with the piece between them.
  pub whole : line ≡ before ++ (s.bytes ++ behind)
  -- As many bytes are before the piece as its start says.
  pub count : length before ≡ s.start

pub stands_of : (line : List ℕ) (s : Span) → Splits line s → StandsIn line s
stands_of line s h =
    let outer : length line ≡ length h.before + length (s.bytes ++ h.behind) = ap length h.whole ∙ length-append h.before (s.bytes ++ h.behind) in
    let inside : length (s.bytes ++ h.behind) ≡ length s.bytes + length h.behind = length-append s.bytes h.behind in
    let size : s.start + length s.bytes - s.start ≡ length s.bytes = omega arith in
    let rest : drop s.start line ≡ s.bytes ++ h.behind =
    ap (λ xs. drop s.start xs) h.whole ∙ drop_at h.before (s.bytes ++ h.behind) s.start h.count in
    record {
      within = omega (arith, outer, inside, h.count);
      reads = sym (ap (λ n. take n (drop s.start line)) size ∙ ap (λ xs. take (length s.bytes) xs) rest ∙ take_at s.bytes h.behind (length s.bytes) refl);
    }

-- A piece of a piece of the line is a piece of the line.
inner : (line : List ℕ) (s : Span) (xs mid ys : List ℕ) (n : ℕ) → Splits line s → s.bytes ≡ xs ++ (mid ++ ys)
    → n ≡ s.start + length xs → Splits line (span n mid)
inner line s xs mid ys n h e at = record {
  before = h.before ++ xs;
  behind = ys ++ h.behind;
  whole = h.whole ∙ ap (λ b. h.before ++ (b ++ h.behind)) e ∙ regroup h.before xs mid ys h.behind;
  count = length-append h.before xs ∙ ap (λ c. c + length xs) h.count ∙ sym at;
}
  where
    regroup : (a b c d e : List ℕ) → a ++ ((b ++ (c ++ d)) ++ e) ≡ (a ++ b) ++ (c ++ (d ++ e))
    regroup a b c d e = simp append_assoc

trimmed_in : (line : List ℕ) (s : Span) → Splits line s → Splits line (trimmed_span s)
trimmed_in line s h =
    let t = trimmed_cut s.bytes in
    inner line s t.blanks (trimmed s.bytes) t.behind (s.start + blanks_before s.bytes) h t.whole (ap (λ n. s.start + n) (sym t.count))

end_in : (line : List ℕ) (s : Span) → Splits line s → Splits line (end_of s)
end_in line s h = inner line s s.bytes [] [] (s.start + length s.bytes) h (sym (append-nil s.bytes)) refl

round_in : (line : List ℕ) (s : Span) (parts : List ℕ × List ℕ) → Splits line s → RoundByte s.bytes parts
    → Splits line (round_byte s.start parts).0 × Splits line (round_byte s.start parts).1
round_in line s parts h r = (
  inner line s [] parts.0 (r.byte ∷ parts.1) s.start h r.whole (sym (add-zero s.start)),
  inner line s (parts.0 ++ r.byte ∷ []) parts.1 [] (s.start + length parts.0 + 1) h
      (r.whole ∙ sym (append_assoc parts.0 (r.byte ∷ []) (parts.1 ++ []) ∙ ap (λ (ys : List ℕ). parts.0 ++ r.byte ∷ ys) (append-nil parts.1)))
      (let size : length (parts.0 ++ r.byte ∷ []) ≡ length parts.0 + 1 = length-append parts.0 (r.byte ∷ []) in omega (arith, size)),
)

abbrev OptionIn : List ℕ → Option Span → Type 0
OptionIn line o = IfSome o (Splits line)

abbrev PairIn : List ℕ → Option (Span × Span) → Type 0
PairIn line o = IfSome o (λ parts. Splits line parts.0 × Splits line parts.1)

cut_in : (line : List ℕ) (p : ℕ → Bool) (s : Span) → Splits line s → PairIn line (cut_span p s)
cut_in line p s h = go (cut_at p s.bytes) (cut_round p s.bytes)
  where
    go : (o : Option (List ℕ × List ℕ)) → IfSome o (RoundByte s.bytes) → PairIn line (option_map (round_byte s.start) o)
    go None r = tt
    go (Some parts) r = round_in line s parts h r

bracketed_in : (line : List ℕ) (s : Span) → Splits line s → PairIn line (bracketed_span s)
bracketed_in line s h =
    go (slice_index s.bytes (length s.bytes - 1) == 41) (take (length s.bytes - 1) s.bytes) body_in
  where
    body_in : Splits line (span s.start (take (length s.bytes - 1) s.bytes))
    body_in =
        inner line s [] (take (length s.bytes - 1) s.bytes) (drop (length s.bytes - 1) s.bytes) s.start h
        (sym (take-append-drop (length s.bytes - 1) s.bytes)) (sym (add-zero s.start))

    some : (body : List ℕ) (o : Option (List ℕ × List ℕ)) → Splits line (span s.start body) → IfSome o (RoundByte body)
        → PairIn line (option_map (λ parts. both_trimmed (round_byte s.start parts)) o)
    some body None within r = tt
    some body (Some parts) within r =
        let both = round_in line (span s.start body) parts within r in (trimmed_in line _ both.0, trimmed_in line _ both.1)

    go : (t : Bool) (body : List ℕ) → Splits line (span s.start body)
        → PairIn line (if t then option_map (λ parts. both_trimmed (round_byte s.start parts)) (cut_last_at 40 body) else None)
    go true body within = some body (cut_last_at 40 body) within (cut_last_round 40 body)
    go false body within = tt

-- Each piece is in the line.
abbrev AllIn : List ℕ → List Span → Type 0
AllIn line [] = Unit {0}
AllIn line (s ∷ ss) = Splits line s × AllIn line ss

all_parts : (line before behind : List ℕ) (start : ℕ) (parts : List (List ℕ)) → line ≡ before ++ (join_with_byte 44 parts ++ behind) → length before ≡ start
    → AllIn line (spans_from start parts)
all_parts line before behind start [] e at = tt
all_parts line before behind start (p ∷ []) e at = (record { before = before; behind = behind; whole = e; count = at }, tt)
all_parts line before behind start (p ∷ q ∷ qs) e at =
    let rest = join_with_byte 44 (q ∷ qs) in (
      record {
        before = before;
        behind = 44 ∷ (rest ++ behind);
        whole = e ∙ ap (λ (ys : List ℕ). before ++ ys) (append_assoc p (44 ∷ rest) behind);
        count = at;
      },
      all_parts line (before ++ (p ++ 44 ∷ [])) behind (start + length p + 1) (q ∷ qs) (e ∙ regroup before p rest behind)
          (let outer = length-append before (p ++ 44 ∷ []) in let inside = length-append p (44 ∷ []) in omega (arith, outer, inside, at)),
    )
  where
    regroup : (a b j c : List ℕ) → a ++ ((b ++ 44 ∷ j) ++ c) ≡ (a ++ (b ++ 44 ∷ [])) ++ (j ++ c)
    regroup a b j c = simp append_assoc

trimmed_all : (line : List ℕ) (ss : List Span) → AllIn line ss → AllIn line (map trimmed_span ss)
trimmed_all line [] h = tt
trimmed_all line (s ∷ ss) h = (trimmed_in line s h.0, trimmed_all line ss h.1)

operands_in : (line : List ℕ) (s : Span) → Splits line s → AllIn line (operand_spans s)
operands_in line s h = trimmed_all line _ (
    all_parts line h.before h.behind s.start (parts_at 44 s.bytes)
    (h.whole ∙ ap (λ b. h.before ++ (b ++ h.behind)) (sym (join_with_byte-slice_split 44 s.bytes))) h.count
    )

-- ---- what is found among pieces of the line

got_in : (line : List ℕ) (ss : List Span) (i : ℕ) → AllIn line ss → OptionIn line (slice_get ss i)
got_in line [] i h = tt
got_in line (s ∷ ss) zero h = h.0
got_in line (s ∷ ss) (suc i) h = got_in line ss i h.1

unless_in : (line : List ℕ) (t : Bool) (s : Span) → Splits line s → OptionIn line (unless t s)
unless_in line true s h = tt
unless_in line false s h = h

only_if_in : (line : List ℕ) (t : Bool) (s : Span) → Splits line s → OptionIn line (if t then Some s else None)
only_if_in line true s h = h
only_if_in line false s h = tt

or_in : (line : List ℕ) (a b : Option Span) → OptionIn line a → OptionIn line b → OptionIn line (option_or a b)
or_in line None b ha hb = hb
or_in line (Some s) b ha hb = ha

found_in : (line : List ℕ) (t : Bool) (s : Span) (o : Option Span) → Splits line s → OptionIn line o → OptionIn line (if t then Some s else o)
found_in line true s o h ho = h
found_in line false s o h ho = ho

find_in : (line : List ℕ) (p : Span → Bool) (ss : List Span) → AllIn line ss → OptionIn line (find p ss)
find_in line p [] h = tt
find_in line p (s ∷ ss) h = found_in line (p s) s (find p ss) h.0 (find_in line p ss h.1)

unwrap_in : (line : List ℕ) (o : Option Span) (s : Span) → OptionIn line o → Splits line s → Splits line (unwrap_or o s)
unwrap_in line None s ho h = h
unwrap_in line (Some t) s ho h = ho

-- ---- within an operand

part_label_in : (line modifier : List ℕ) (s : Span) → Splits line s → OptionIn line (part_label modifier s)
part_label_in line modifier s h = go (bracketed_span s) (bracketed_in line s h)
  where
    go : (o : Option (Span × Span)) → PairIn line o → OptionIn line (part_named modifier o)
    go None both = tt
    go (Some parts) both = only_if_in line _ parts.1 both.1

label_within_in : (line : List ℕ) (w : Wanted) (s : Span) → Splits line s → OptionIn line (label_within w s)
label_within_in line Register s h = tt
label_within_in line Lower s h = part_label_in line _ s h
label_within_in line Upper s h = part_label_in line _ s h
label_within_in line Shift s h = tt
label_within_in line Fence s h = tt
label_within_in line Branch s h = only_if_in line _ s h
label_within_in line Jump s h = only_if_in line _ s h
label_within_in line Address s h = go (bracketed_span s) (bracketed_in line s h)
  where
    go : (o : Option (Span × Span)) → PairIn line o → OptionIn line (option_and_then (λ parts. label_within Lower parts.0) o)
    go None both = tt
    go (Some parts) both = part_label_in line _ parts.0 both.0
label_within_in line Base s h = tt
label_within_in line Word s h = only_if_in line _ s h
label_within_in line Byte s h = tt
label_within_in line Count s h = tt

missing_within_in : (labels : Labels) (line : List ℕ) (w : Wanted) (s : Span) → Splits line s → OptionIn line (missing_within labels w s)
missing_within_in labels line w s h = go (label_within w s) (label_within_in line w s h)
  where
    go : (o : Option Span) → OptionIn line o → OptionIn line (option_and_then (λ name. unless (is_some (labels name.bytes)) name) o)
    go None name = tt
    go (Some t) name = unless_in line (is_some (labels t.bytes)) t name

value_fault_in : (line : List ℕ) (w : Wanted) (s : Span) → Splits line s → OptionIn line (value_fault w s)
value_fault_in line w s h = unless_in line (is_some (label_within w s) || is_number w s) s h

register_fault_in : (line : List ℕ) (s : Span) → Splits line s → OptionIn line (register_fault s)
register_fault_in line s h = unless_in line (is_some (register_of s.bytes)) s h

fault_within_in : (line : List ℕ) (w : Wanted) (s : Span) → Splits line s → OptionIn line (fault_within w s)
fault_within_in line Register s h = register_fault_in line s h
fault_within_in line Lower s h = value_fault_in line Lower s h
fault_within_in line Upper s h = value_fault_in line Upper s h
fault_within_in line Shift s h = value_fault_in line Shift s h
fault_within_in line Fence s h = value_fault_in line Fence s h
fault_within_in line Branch s h = value_fault_in line Branch s h
fault_within_in line Jump s h = value_fault_in line Jump s h
fault_within_in line Address s h = go (bracketed_span s) (bracketed_in line s h)
  where
    go : (o : Option (Span × Span)) → PairIn line o → OptionIn line (address_fault s o)
    go None both = h
    go (Some parts) both = or_in line (value_fault Lower parts.0) (register_fault parts.1) (value_fault_in line Lower parts.0 both.0)
        (register_fault_in line parts.1 both.1)
fault_within_in line Base s h = go (bracketed_span s) (bracketed_in line s h)
  where
    go : (o : Option (Span × Span)) → PairIn line o → OptionIn line (base_fault s o)
    go None both = h
    go (Some parts) both = or_in line (unless (length parts.0.bytes == 0) parts.0) (register_fault parts.1)
        (unless_in line (length parts.0.bytes == 0) parts.0 both.0) (register_fault_in line parts.1 both.1)
fault_within_in line Word s h = value_fault_in line Word s h
fault_within_in line Byte s h = value_fault_in line Byte s h
fault_within_in line Count s h = value_fault_in line Count s h

-- ---- among the operands

first_in_in : (line : List ℕ) (found : Wanted → Span → Option Span) → ((w : Wanted) (s : Span) → Splits line s → OptionIn line (found w s))
    → (w : Wants) (n : ℕ) (ss : List Span) → AllIn line ss → OptionIn line (first_in found w n ss)
first_in_in line found within w n [] h = tt
first_in_in line found within w n (s ∷ ss) h = or_in line _ _ (go (wanted_at w n)) (first_in_in line found within w (n + 1) ss h.1)
  where
    go : (o : Option Wanted) → OptionIn line (option_and_then (λ wanted. found wanted s) o)
    go None = tt
    go (Some wanted) = within wanted s h.0

count_fault_in : (line : List ℕ) (count : ℕ) (rest : Span) (ss : List Span) → Splits line rest → AllIn line ss → OptionIn line (count_fault count rest ss)
count_fault_in line count rest ss h each = go (length ss == count)
  where
    end : OptionIn line (Some (end_of (trimmed_span rest)))
    end = end_in line (trimmed_span rest) (trimmed_in line rest h)

    go : (t : Bool) → OptionIn line (if t then None else option_or (slice_get ss count) (option_or (find is_parted ss) (Some (end_of (trimmed_span rest)))))
    go true = tt
    go false = or_in line _ _ (got_in line ss count each) (or_in line _ _ (find_in line is_parted ss each) end)

some_operands_in : (line : List ℕ) (w : Wants) (rest : Span) (ss : List Span) → Splits line rest → AllIn line ss
    → OptionIn line (some_operands_fault w rest ss)
some_operands_in line w rest ss h each = or_in line _ _ (go w.is_list) (first_in_in line fault_within (fault_within_in line) w 0 ss each)
  where
    go : (t : Bool) → OptionIn line (if t then None else count_fault (length w.each) rest ss)
    go true = tt
    go false = count_fault_in line (length w.each) rest ss h each

operands_fault_in : (line : List ℕ) (w : Wants) (rest : Span) → Splits line rest → OptionIn line (operands_fault w rest)
operands_fault_in line w rest h = go (length w.each == 0)
  where
    go : (t : Bool) → OptionIn line (if t then unless (length (trimmed_span rest).bytes == 0) (trimmed_span rest)
        else some_operands_fault w rest (operand_spans rest))
    go true = unless_in line _ _ (trimmed_in line rest h)
    go false = some_operands_in line w rest (operand_spans rest) h (operands_in line rest h)

-- ---- the line

record LineIn (line : List ℕ) (parts : LineSpans) : Type 0 where
  label : OptionIn line parts.label
  word : Splits line parts.word
  rest : Splits line parts.rest

text_in : (line : List ℕ) → Splits line (text_span line)
text_in line = go (cut_span (λ b. b == 35) (span 0 line)) (cut_in line (λ b. b == 35) (span 0 line) whole)
  where
    whole : Splits line (span 0 line)
    whole = record { before = []; behind = []; whole = sym (append-nil line); count = refl }

    go : (o : Option (Span × Span)) → PairIn line o → Splits line (before_mark (span 0 line) o)
    go None both = whole
    go (Some parts) both = both.0

abbrev LabelIn : List ℕ → Option Span × Span → Type 0
LabelIn line cut = OptionIn line cut.0 × Splits line cut.1

label_in : (line : List ℕ) (text : Span) (o : Option (Span × Span)) → Splits line text → PairIn line o → LabelIn line (label_spans text o)
label_in line text None h both = (tt, h)
label_in line text (Some parts) h both = go (is_name (trimmed_span parts.0).bytes)
  where
    go : (t : Bool) → LabelIn line (if t then (Some (trimmed_span parts.0), parts.1) else (None, text))
    go true = (trimmed_in line parts.0 both.0, both.1)
    go false = (tt, h)

word_spans_in : (line : List ℕ) (s : Span) → Splits line s → Splits line (statement_spans s).0 × Splits line (statement_spans s).1
word_spans_in line s h = go (cut_span is_blank s) (cut_in line is_blank s h)
  where
    go : (o : Option (Span × Span)) → PairIn line o → Splits line (word_spans s o).0 × Splits line (word_spans s o).1
    go None both = (h, end_in line s h)
    go (Some parts) both = both

line_in : (line : List ℕ) → LineIn line (spans_of_line line)
unfolding spans_of_line
line_in line =
    let text = text_span line in
    let cut = label_in line text (cut_span (λ b. b == 58) text) (text_in line) (cut_in line (λ b. b == 58) text (text_in line)) in
    let words = word_spans_in line _ (trimmed_in line _ cut.1) in
    record { label = cut.0; word = words.0; rest = words.1 }

form_in : (line : List ℕ) (parts : LineSpans) → LineIn line parts → OptionIn line (form_fault parts)
form_in line parts h = go (wants_of parts.word.bytes)
  where
    go : (o : Option Wants) → OptionIn line (option_and_then (λ w. operands_fault w parts.rest) o)
    go None = tt
    go (Some w) = operands_fault_in line w parts.rest h.rest

label_missing_in : (labels : Labels) (line : List ℕ) (parts : LineSpans) → LineIn line parts → OptionIn line (label_missing labels parts)
label_missing_in labels line parts h = go (wants_of parts.word.bytes)
  where
    go : (o : Option Wants) → OptionIn line (option_and_then (λ w. first_in (missing_within labels) w 0 (operand_spans parts.rest)) o)
    go None = tt
    go (Some w) = first_in_in line (missing_within labels) (missing_within_in labels line) w 0 _ (operands_in line parts.rest h.rest)

target_in : (line : List ℕ) (parts : LineSpans) → LineIn line parts → Splits line (target_span parts)
target_in line parts h = unwrap_in line _ parts.word (got_in line (operand_spans parts.rest) _ (operands_in line parts.rest h.rest)) h.word

word_in : (labels : Labels) (address : ℕ) (line : List ℕ) (parts : LineSpans) (fault : AsmFault) → LineIn line parts
    → Splits line (word_within labels address parts fault)
word_in labels address line parts UnknownWord h = h.word
word_in labels address line parts Form h = unwrap_in line _ parts.word (form_in line parts h) h.word
word_in labels address line parts Range h = unwrap_in line _ _ (form_in line parts h) (go (address % 4 == 0))
  where
    go : (t : Bool) → Splits line (if t then target_span parts else parts.word)
    go true = target_in line parts h
    go false = h.word
word_in labels address line parts LabelTwice h = unwrap_in line _ parts.word h.label h.word
word_in labels address line parts LabelMissing h = unwrap_in line _ parts.word (label_missing_in labels line parts h) h.word
word_in labels address line parts SectionFull h = h.word
word_in labels address line parts Memory h = h.word

-- The word at which a fault of a line lies is in the line, at its place.
pub named_stands : (labels : Labels) (address : ℕ) (line : List ℕ) (fault : AsmFault) (parts : LineSpans) (s : Span) → parts ≡ spans_of_line line
    → s ≡ word_within labels address parts fault → StandsIn line s
named_stands labels address line fault parts s same named =
    stands_of line s
    (subst (Splits line) (sym (named ∙ ap (λ p. word_within labels address p fault) same))
    (word_in labels address line (spans_of_line line) fault (line_in line)))
