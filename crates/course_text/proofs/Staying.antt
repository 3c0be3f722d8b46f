-- A text that the plain grammar reads is its own plain text.
use Rattle.std.proofs.Common.{◌≡◌, ℕ, suc, Bool, true, false, List, [], ◌∷◌, ◌++◌, None, drop}
use Rattle.std.proofs.Common.{refl, sym, ap, ◌∙◌, append_assoc, append-nil, arith}
use Rattle.std.specs.Prelude.{All, IsOk, is_ok, ◌&&◌, fold}
use Rattle.std.specs.List.{flat_map, join_with_byte}
use Rattle.std.proofs.lemmas.List.Splits.{join_with_byte-slice_split}
use Rattle.std.proofs.lemmas.Slice.Eq.{bytes_eq-Decides}
use Rattle.asm_lines.specs.Statements.{line_of, is_name_byte}
use Rattle.asm_lines.specs.Text.{parts_at}
use Rattle.course_text.specs.declared.place.Place.{Place}
use Rattle.course_text.specs.Constants.{Constants, constant_in, with_line, replaced, replaced_after, defines}
use Rattle.course_text.specs.Course.{operand_text, with_numbers, unless_plain, plain_line, plain_from, plain_text, after_feed}
use Rattle.course_text.specs.Parts.{Parts, parts_of}
use Rattle.course_text.specs.Places.{start, after_text}
use Rattle.course_text.specs.Table.{course_word}

abbrev none : Constants
none = λ _. None

-- ---- without constants

same_byte : (word : List ℕ) (b : ℕ) (bs : List ℕ) → replaced_after none (word ++ b ∷ []) bs ≡ (word ++ b ∷ []) ++ bs
    → replaced_after none [] bs ≡ bs → replaced_after none word (b ∷ bs) ≡ word ++ b ∷ bs
same_byte word b bs within behind = by_byte (is_name_byte b) refl
  where
    by_byte : (t : Bool) → is_name_byte b ≡ t → replaced_after none word (b ∷ bs) ≡ word ++ b ∷ bs
    by_byte true is = rw is (within ∙ append_assoc word (b ∷ []) bs)
    by_byte false is = rw is (ap (λ (cs : List ℕ). word ++ b ∷ cs) behind)

same_after : (word text : List ℕ) → replaced_after none word text ≡ word ++ text
same_after word [] = sym (append-nil word)
same_after word (b ∷ bs) = same_byte word b bs (same_after (word ++ b ∷ []) bs) (same_after [] bs)

same_text : (text : List ℕ) → replaced none text ≡ text
unfolding replaced
same_text text = same_after [] text

same_operands : (p : Parts) → operand_text none p ≡ p.rest
same_operands p = by_word (defines (course_word p.word)) refl
  where
    by_word : (t : Bool) → defines (course_word p.word) ≡ t → operand_text none p ≡ p.rest
    by_word true is = rw is refl
    by_word false is = rw is (same_text p.rest)

-- ---- lines

kept : (line : List ℕ) (p : Parts) (rest : List ℕ) → rest ≡ p.rest → with_numbers line p rest ≡ line
kept line p rest same = rw ((bytes_eq-Decides rest p.rest).1 same) refl

kept_plain : (at : Place) (p : Parts) (rest line : List ℕ) → is_ok (line_of line) ≡ true → unless_plain at p rest line ≡ line
kept_plain at p rest line ok = rw ok refl

line_stays : (at : Place) (line : List ℕ) → is_ok (line_of line) ≡ true → plain_line none at line ≡ line
unfolding plain_line
line_stays at line ok =
    let p = parts_of line in
    let rest = operand_text none p in
    ap (unless_plain at p rest) (kept line p rest (same_operands p)) ∙ kept_plain at p rest line ok

lines_stay : (at : Place) (lines : List (List ℕ)) → All (λ line. IsOk (line_of line)) lines → plain_from none at lines ≡ lines
lines_stay at [] each = refl
lines_stay at (line ∷ lines) each =
    let here = line_stays at line (each 0 line (omega arith)) in
    let rest = lines_stay (after_text at (plain_line none at line)) lines (λ k d lt. each (suc k) d (omega (arith, lt))) in
    ap (λ (t : List ℕ). t ∷ plain_from none (after_text at (plain_line none at line)) lines) here ∙ ap (λ (ts : List (List ℕ)). line ∷ ts) rest

no_constant : (line : List ℕ) → is_ok (line_of line) ≡ true → constant_in line ≡ None
unfolding constant_in
no_constant line ok = rw (ok, and_false) refl
  where
    and_false : (b : Bool) → (b && false) ≡ false
    and_false true = refl
    and_false false = refl

no_constants : (lines : List (List ℕ)) → All (λ line. IsOk (line_of line)) lines → fold with_line none lines ≡ none
no_constants [] each = refl
no_constants (line ∷ lines) each =
    let here : with_line none line ≡ none = rw (no_constant line (each 0 line (omega arith))) refl in
    ap (λ cs. fold with_line cs lines) here ∙ no_constants lines (λ k d lt. each (suc k) d (omega (arith, lt)))

-- ---- texts

joined_again : (x : List ℕ) (xs : List (List ℕ)) → x ++ flat_map after_feed xs ≡ join_with_byte 10 (x ∷ xs)
joined_again x [] = append-nil x
joined_again x (y ∷ ys) = ap (λ (bs : List ℕ). x ++ 10 ∷ bs) (joined_again y ys)

whole : (xs : List (List ℕ)) → drop 1 (flat_map after_feed xs) ≡ join_with_byte 10 xs
whole [] = refl
whole (x ∷ xs) = joined_again x xs

-- A text each line of which is read is its own plain text.
pub text_stays : (text : List ℕ) → All (λ line. IsOk (line_of line)) (parts_at 10 text) → plain_text text ≡ text
unfolding plain_text
text_stays text each =
    let lines = parts_at 10 text in
    ap (λ cs. drop 1 (flat_map after_feed (plain_from cs start lines))) (no_constants lines each)
    ∙ ap (λ ts. drop 1 (flat_map after_feed ts)) (lines_stay start lines each) ∙ whole lines ∙ join_with_byte-slice_split 10 text
