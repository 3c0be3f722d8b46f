-- The first line of a text, and the lines after it.
use Rattle.std.proofs.Common.{◌≡◌, ℕ, zero, suc, ◌+◌, ◌-◌, ◌<◌, Bool, true, false, cond, eqb, List, [], ◌∷◌, ◌++◌}
use Rattle.std.proofs.Common.{length, take, drop, get_or, Some, None, Result, Ok, Err, refl, sym, ap, arith}
use Rattle.std.proofs.Common.{append_assoc}
use Rattle.std.specs.Prelude.{position, nat_lt, not}
use Rattle.std.specs.List.{position_or_len}
use Rattle.std.proofs.lemmas.Bool.{eq-eqb, ltb-false, ne_eqb, not-true}
use Rattle.std.proofs.lemmas.Grind.{common_steps}
use Rattle.std.proofs.lemmas.List.Sums.{prefix_len_passes}
use Rattle.std.proofs.lemmas.List.Quantifiers.{position-Some}
use Rattle.words_command.specs.HexText.{lines_of, before_lines, word_of_line, words_of_lines, in_front}

abbrev pub is_lf : ℕ → Bool
is_lf byte = eqb byte 10

-- If the first line feed of a text is at place i, the first line ends there, and the others are those of the rest.
pub lines_cut : (text : List ℕ) (i : ℕ) → i < length text → is_lf (get_or text i 0) ≡ true → ((k : ℕ) → k < i → is_lf (get_or text k 0) ≡ false) →
    lines_of text ≡ take i text ∷ lines_of (drop (suc i) text)
lines_cut [] i inside at before = absurd (omega arith)
lines_cut (byte ∷ text) zero inside at before = rw at refl
lines_cut (byte ∷ text) (suc i) inside at before =
    let here : is_lf byte ≡ false = before 0 (omega arith) in
    let rest = lines_cut text i (omega arith) at (λ k h. before (suc k) (omega arith)) in
    rw (here, rest) refl

-- If a search finds a line feed at place i, the first line ends there, and the others are those of the rest.
pub line_found : (text : List ℕ) (i : ℕ) → position is_lf text ≡ Some i → lines_of text ≡ take i text ∷ lines_of (drop (suc i) text)
line_found text i e = let at = position-Some is_lf text i 0 e in lines_cut text i at.0 at.1 at.2

lines_whole : (text : List ℕ) → ((k : ℕ) → k < length text → is_lf (get_or text k 0) ≡ false) → 0 < length text → lines_of text ≡ text ∷ []
lines_whole [] none some = absurd (omega arith)
lines_whole (byte ∷ []) none some = let here : is_lf byte ≡ false = none 0 (omega arith) in rw here refl
lines_whole (byte ∷ next ∷ text) none some =
    let here : is_lf byte ≡ false = none 0 (omega arith) in
    let rest = lines_whole (next ∷ text) (λ k h. none (suc k) (omega arith)) (omega arith) in
    rw here (ap (before_lines byte) rest)

-- If a search finds no line feed, no byte of the text is one.
pub no_lf : (text : List ℕ) → position is_lf text ≡ None → (k : ℕ) → k < length text → is_lf (get_or text k 0) ≡ false
no_lf text e = by_place (nat_lt place (length text)) refl e
  where
    place : ℕ
    place = position_or_len is_lf text

    by_place : (b : Bool) → nat_lt place (length text) ≡ b → cond b (Some place) None ≡ None → (k : ℕ) → k < length text → is_lf (get_or text k 0) ≡ false
    by_place true inside none k h = absurd (cc)
    by_place false outside none k h =
        not-true (is_lf (get_or text k 0)) (prefix_len_passes (λ byte. not (is_lf byte)) text k 0 (omega (arith, ltb-false place (length text) outside)))

-- A text that is not empty and in which a search finds no line feed is one line.
pub line_last : (text : List ℕ) → position is_lf text ≡ None → 0 < length text → lines_of text ≡ text ∷ []
line_last text e some = lines_whole text (no_lf text e) some

-- The rest of a text after a line, as slicing gives it.
pub rest_of : (text : List ℕ) (i : ℕ) → drop (suc i) text ≡ take (length text - (i + 1)) (drop (i + 1) text)
rest_of text i = grind (arith, common_steps)

-- After the whole text, nothing is left.
pub nothing_left : (text : List ℕ) → take (length text - length text) (drop (length text) text) ≡ []
nothing_left text = grind (arith, common_steps)

-- ---- words

-- words that were read, before the words of the rest
abbrev pub prepended : List ℕ → Result (List ℕ) ℕ → Result (List ℕ) ℕ
prepended front (Ok words) = Ok (front ++ words)
prepended front (Err bad) = Err bad

pub past_the_last : (front line : List ℕ) (lines : List (List ℕ)) (n : ℕ) → n ≡ 16384 → prepended front (words_of_lines n (line ∷ lines)) ≡ Err (n + 1)
past_the_last front line lines n full = let test : eqb n 16384 ≡ true = eq-eqb n 16384 full in let number : 16385 ≡ n + 1 =
    omega arith in rw test (ap Err number)

pub bad_line : (front line : List ℕ) (lines : List (List ℕ)) (n : ℕ) → (n ≡ 16384 → ⊥) → word_of_line line ≡ None →
    prepended front (words_of_lines n (line ∷ lines)) ≡ Err (n + 1)
bad_line front line lines n room bad = let test : eqb n 16384 ≡ false = ne_eqb n 16384 room in rw (test, bad) refl

pub next_word : (front line : List ℕ) (lines : List (List ℕ)) (n word : ℕ) → (n ≡ 16384 → ⊥) → word_of_line line ≡ Some word →
    prepended front (words_of_lines n (line ∷ lines)) ≡ prepended (front ++ word ∷ []) (words_of_lines (n + 1) lines)
next_word front line lines n word room is = let test : eqb n 16384 ≡ false = ne_eqb n 16384 room in rw (test, is) (by_rest (words_of_lines (n + 1) lines))
  where
    by_rest : (rest : Result (List ℕ) ℕ) → prepended front (in_front (Some word) (n + 1) rest) ≡ prepended (front ++ word ∷ []) rest
    by_rest (Ok words) = ap Ok (sym (append_assoc front (word ∷ []) words))
    by_rest (Err bad) = refl
