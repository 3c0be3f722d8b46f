-- The bytes that are read of a file tell what all of it spells: a line that spells a word has eight bytes and its LF,
-- and the line after the 16,384th is refused whatever it is.
use Rattle.std.proofs.Common.{◌≡◌, ℕ, zero, suc, ◌+◌, ◌-◌, ◌*◌, ◌<◌, ◌≤◌, Bool, true, false, eqb, List, [], ◌∷◌}
use Rattle.std.proofs.Common.{length, take, drop, get_or, get_or-take, take_all, take-take, length-take-le, Option}
use Rattle.std.proofs.Common.{Some, None, Err, ◌⊎◌, inl, inr, refl, sym, ap, ap₂, ◌∙◌, subst, arith}
use Rattle.std.specs.Prelude.{position, ◌%◌, ◌/◌, if◌then◌else◌, ◌==◌}
use Rattle.std.proofs.lemmas.Bool.{cases_lt, eq-eqb, ne_eqb}
use Rattle.std.proofs.lemmas.List.{drop-take}
use Rattle.std.proofs.lemmas.List.Quantifiers.{position-Some}
use Rattle.words_command.specs.HexText.{lines_of, before_lines, word_of_line, words_of_lines, words_of_text, in_front}
use Rattle.words_command.proofs.Lines.{is_lf, lines_cut, line_found, line_last, no_lf}

-- ---- lines that are not read to their end

long_is_bad : (line : List ℕ) → 8 < length line → word_of_line line ≡ None
long_is_bad line long = by_parity (eqb (length line % 2) 1) refl
  where
    by_parity : (b : Bool) → eqb (length line % 2) 1 ≡ b → word_of_line line ≡ None
    by_parity true odd = rw odd refl
    by_parity false even =
        let not_odd : length line % 2 ≡ 1 → ⊥ = (λ odd. let is = eq-eqb (length line % 2) 1 odd in cc) in
        let other : eqb (length line / 2) 4 ≡ false = ne_eqb (length line / 2) 4 (λ four. not_odd (omega arith)) in
        rw (even, other) refl

bad_first : (n : ℕ) (line : List ℕ) (lines : List (List ℕ)) → (n ≡ 16384 → ⊥) → word_of_line line ≡ None → words_of_lines n (line ∷ lines) ≡ Err (n + 1)
bad_first n line lines room bad = let test : eqb n 16384 ≡ false = ne_eqb n 16384 room in rw (test, bad) refl

-- A text whose first line has more than eight bytes is bad in that line.
long_text_is_bad : (n : ℕ) (text : List ℕ) → (n ≡ 16384 → ⊥) → 8 < length text → ((k : ℕ) → k < 9 → is_lf (get_or text k 0) ≡ false) →
    words_of_lines n (lines_of text) ≡ Err (n + 1)
long_text_is_bad n text room long none = by_end (position is_lf text) refl
  where
    far : (i : ℕ) → is_lf (get_or text i 0) ≡ true → (i < 9) ⊎ (9 ≤ i) → 9 ≤ i
    far i at (inl near) = let not = none i near in absurd (cc)
    far i at (inr behind) = behind

    by_end : (end : Option ℕ) → position is_lf text ≡ end → words_of_lines n (lines_of text) ≡ Err (n + 1)
    by_end None e = ap (words_of_lines n) (line_last text e (omega arith)) ∙ bad_first n text [] room (long_is_bad text long)
    by_end (Some i) e =
        let at = position-Some is_lf text i 0 e in
        let behind : 9 ≤ i = far i at.1 (cases_lt i 9) in
        let within : i < length text = at.0 in
        let nine : 8 < length (take i text) = subst (λ n. 8 < n) (sym (length-take-le i text (omega arith))) (omega arith) in
        ap (words_of_lines n) (line_found text i e) ∙ bad_first n (take i text) (lines_of (drop (suc i) text)) room (long_is_bad (take i text) nine)

-- ---- lines that are read to their end

-- After 16,384 lines, any byte is too many.
past_all : (n : ℕ) (text : List ℕ) → n ≡ 16384 → 0 < length text → words_of_lines n (lines_of text) ≡ Err 16385
past_all n [] full some = absurd (omega arith)
past_all n (byte ∷ text) full some = by_byte (is_lf byte) refl
  where
    test : eqb n 16384 ≡ true
    test = eq-eqb n 16384 full

    by_rest : (lines : List (List ℕ)) → words_of_lines n (before_lines byte lines) ≡ Err 16385
    by_rest [] = rw test refl
    by_rest (line ∷ lines) = rw test refl

    by_byte : (b : Bool) → is_lf byte ≡ b → words_of_lines n (lines_of (byte ∷ text)) ≡ Err 16385
    by_byte true e = rw (e, test) refl
    by_byte false e = rw e (by_rest (lines_of text))

same_front : (n : ℕ) (line : List ℕ) (lines lines' : List (List ℕ)) → words_of_lines (n + 1) lines ≡ words_of_lines (n + 1) lines' →
    words_of_lines n (line ∷ lines) ≡ words_of_lines n (line ∷ lines')
same_front n line lines lines' e = ap (λ rest. if n == 16384 then Err 16385 else in_front (word_of_line line) (n + 1) rest) e

-- With m more lines to come, the first `size` bytes tell what all lines spell.
abbrev pub Tells : ℕ → Type 0
Tells m = (n size : ℕ) (text : List ℕ) → n + m ≡ 16384 → 9 * m < size → words_of_lines n (lines_of (take size text)) ≡ words_of_lines n (lines_of text)

tells_nothing_more : Tells 0
tells_nothing_more n size text sum enough = by_length (cases_lt size (length text))
  where
    by_length : (size < length text) ⊎ (length text ≤ size) → words_of_lines n (lines_of (take size text)) ≡ words_of_lines n (lines_of text)
    by_length (inr all) = ap (λ t. words_of_lines n (lines_of t)) (take_all size text all)
    by_length (inl more) =
        let some : 0 < length (take size text) = subst (λ n. 0 < n) (sym (length-take-le size text (omega arith))) (omega arith) in
        past_all n (take size text) (omega arith) some ∙ sym (past_all n text (omega arith) (omega arith))

tells_one_more : (m : ℕ) → Tells m → Tells (suc m)
tells_one_more m further n size text sum enough = by_length (cases_lt size (length text))
  where
    room : n ≡ 16384 → ⊥
    room full = omega arith

    both_long : size < length text → ((k : ℕ) → k < 9 → is_lf (get_or text k 0) ≡ false) →
        words_of_lines n (lines_of (take size text)) ≡ words_of_lines n (lines_of text)
    both_long more none =
        let long : 8 < length (take size text) = subst (λ n. 8 < n) (sym (length-take-le size text (omega arith))) (omega arith) in
        long_text_is_bad n (take size text) room long (λ k h. ap is_lf (get_or-take size text k 0 (omega arith)) ∙ none k h)
        ∙ sym (long_text_is_bad n text room (omega arith) none)

    first_line : (i : ℕ) → size < length text → i < 9 → position is_lf text ≡ Some i →
        words_of_lines n (lines_of (take size text)) ≡ words_of_lines n (lines_of text)
    first_line i more near e =
        let at = position-Some is_lf text i 0 e in
        let rest : List ℕ = drop (suc i) text in
        let left : ℕ = size - suc i in
        let within : i < length (take size text) = subst (λ n. i < n) (sym (length-take-le size text (omega arith))) (omega arith) in
        let cut = lines_cut (take size text) i within (ap is_lf (get_or-take size text i 0 (omega arith)) ∙ at.1)
        (λ k h. ap is_lf (get_or-take size text k 0 (omega arith)) ∙ at.2 k h) in
        let front : take i (take size text) ≡ take i text = take-take i size text (omega arith) in
        let behind : drop (suc i) (take size text) ≡ take left rest =
        (let sum : size ≡ suc i + left = omega arith in ap (λ j. drop (suc i) (take j text)) sum ∙ drop-take (suc i) left text) in
        ap (words_of_lines n) (cut ∙ ap₂ (λ line more. line ∷ lines_of more) front behind)
        ∙ same_front n (take i text) (lines_of (take left rest)) (lines_of rest) (further (n + 1) left rest (omega arith) (omega arith))
        ∙ sym (ap (words_of_lines n) (line_found text i e))

    by_place : (i : ℕ) → size < length text → position is_lf text ≡ Some i → (i < 9) ⊎ (9 ≤ i) →
        words_of_lines n (lines_of (take size text)) ≡ words_of_lines n (lines_of text)
    by_place i more e (inl near) = first_line i more near e
    by_place i more e (inr far) = let at = position-Some is_lf text i 0 e in both_long more (λ k h. at.2 k (omega arith))

    by_end : size < length text → (end : Option ℕ) → position is_lf text ≡ end → words_of_lines n (lines_of (take size text)) ≡ words_of_lines n (lines_of text)
    by_end more (Some i) e = by_place i more e (cases_lt i 9)
    by_end more None e = both_long more (λ k h. no_lf text e k (omega arith))

    by_length : (size < length text) ⊎ (length text ≤ size) → words_of_lines n (lines_of (take size text)) ≡ words_of_lines n (lines_of text)
    by_length (inr all) = ap (λ t. words_of_lines n (lines_of t)) (take_all size text all)
    by_length (inl more) = by_end more (position is_lf text) refl

-- The first bytes of a text, nine for each line that may come and one more, tell what the text spells.
beginning_tells : (m : ℕ) → Tells m
beginning_tells zero = tells_nothing_more
beginning_tells (suc m) = tells_one_more m (beginning_tells m)

-- The first 147,457 bytes of a file tell what the file spells.
pub bytes_read_tell : (text : List ℕ) → words_of_text (take 147457 text) ≡ words_of_text text
bytes_read_tell text = beginning_tells 16384 0 147457 text refl (omega arith)
