-- The words of a line that is made of words.
use Rattle.std.proofs.Common.{◌≡◌, ℕ, ◌<◌, Bool, true, false, not, eqb, List, [], ◌∷◌, ◌++◌, length}
use Rattle.std.proofs.Common.{refl, sym, ap, ◌∙◌, append_assoc, arith}
use Rattle.std.specs.Prelude.{◌==◌, ◌||◌, filter}
use Rattle.std.specs.List.{list_all, position_or_len, before_first, slice_split}
use Rattle.std.proofs.lemmas.Bool.{and_parts, and_from, or_parts, not_from_false, not-true, ne_eqb}
use Rattle.std.proofs.lemmas.List.{take_all}
use Rattle.std.proofs.lemmas.List.Folds.{list_all-append}
use Rattle.std.proofs.lemmas.List.Splits.{slice_split-cons_yes, slice_split-cons_no}
use Rattle.asm_lines.specs.Text.{is_blank, parts_at}
use Rattle.trace_text.specs.Words.{is_word, words_of}

-- whether a byte is not a blank, the mark of a comment or a line feed
abbrev pub is_plain : ℕ → Bool
is_plain b = not ((is_blank b || (b == 35)) || (b == 10))

pub record Word (w : List ℕ) : Type 0 where
  -- each byte is plain
  pub plain : list_all is_plain w ≡ true
  -- there is a byte
  pub nonempty : 0 < length w

pub data Words : List (List ℕ) → Type 0 where
  none : Words []
  more : {w : List ℕ} {ws : List (List ℕ)} → Word w → Words ws → Words (w ∷ ws)

-- ---- tests of each byte

-- If each byte of a text passes a test, each passes a weaker test.
pub weaker : (p q : ℕ → Bool) → ((b : ℕ) → p b ≡ true → q b ≡ true) → (xs : List ℕ) → list_all p xs ≡ true → list_all q xs ≡ true
weaker p q h [] e = refl
weaker p q h (x ∷ xs) e = let a = and_parts (p x) (list_all p xs) e in and_from (q x) (list_all q xs) (h x a.0) (weaker p q h xs a.1)

-- If each byte of two texts passes a test, so does each byte of their concatenation.
pub joined_all : (q : ℕ → Bool) (xs ys : List ℕ) → list_all q xs ≡ true → list_all q ys ≡ true → list_all q (xs ++ ys) ≡ true
joined_all q xs ys a b = list_all-append q xs ys ∙ and_from (list_all q xs) (list_all q ys) a b

plain_parts : (b : ℕ) → is_plain b ≡ true → (is_blank b ≡ false) × (eqb b 35 ≡ false) × (eqb b 10 ≡ false)
plain_parts b h =
    let v = or_parts (is_blank b || eqb b 35) (eqb b 10) (not-true _ h) in
    let x = or_parts (is_blank b) (eqb b 35) v.0 in
    (x.0, x.1, v.1)

module _ (w : List ℕ) (is : Word w) where
  -- A word has no blank.
  pub no_blank : list_all (λ b. not (is_blank b)) w ≡ true
  no_blank = weaker is_plain _ (λ b p. not_from_false _ (plain_parts b p).0) w is.plain

  -- A word has no mark of a comment.
  pub no_comment : list_all (λ b. not (eqb b 35)) w ≡ true
  no_comment = weaker is_plain _ (λ b p. not_from_false _ (plain_parts b p).1) w is.plain

  -- A word has no line feed.
  pub no_line_feed : list_all (λ b. not (eqb b 10)) w ≡ true
  no_line_feed = weaker is_plain _ (λ b p. not_from_false _ (plain_parts b p).2) w is.plain

-- ---- cuts

-- A text is split at its first byte that passes: the part before it, and the parts of the text after it.
pub split_mid : (p : ℕ → Bool) (xs : List ℕ) (c : ℕ) (ys : List ℕ) → list_all (λ b. not (p b)) xs ≡ true → p c ≡ true →
    slice_split p (xs ++ c ∷ ys) ≡ xs ∷ slice_split p ys
split_mid p [] c ys h e = slice_split-cons_yes p c ys e
split_mid p (x ∷ xs) c ys h e = let a =
    and_parts (not (p x)) (list_all (λ b. not (p b)) xs) h in slice_split-cons_no p x (xs ++ c ∷ ys) (not-true _ a.0) ∙ rw (split_mid p xs c ys a.1 e) refl

-- A text in which no byte passes is its own only part.
pub split_none : (p : ℕ → Bool) (xs : List ℕ) → list_all (λ b. not (p b)) xs ≡ true → slice_split p xs ≡ xs ∷ []
split_none p [] h = refl
split_none p (x ∷ xs) h = let a =
    and_parts (not (p x)) (list_all (λ b. not (p b)) xs) h in slice_split-cons_no p x xs (not-true _ a.0) ∙ rw (split_none p xs a.1) refl

cut_none : (p : ℕ → Bool) (xs : List ℕ) → list_all (λ b. not (p b)) xs ≡ true → position_or_len p xs ≡ length xs
cut_none p [] h = refl
cut_none p (x ∷ xs) h = let a = and_parts (not (p x)) (list_all (λ b. not (p b)) xs) h in rw (a.0, cut_none p xs a.1) (omega arith)

-- What stands before the first byte that passes is the whole text, if none does.
pub before_none : (p : ℕ → Bool) (xs : List ℕ) → list_all (λ b. not (p b)) xs ≡ true → before_first p xs ≡ xs
before_none p xs h = rw (cut_none p xs h) (take_all (length xs) xs (omega arith))

-- ---- lines

-- words with a space between them
abbrev pub spaced : List ℕ → List (List ℕ) → List ℕ
spaced w [] = w
spaced w (v ∷ vs) = w ++ 32 ∷ spaced v vs

-- words with a space between them, a line feed, and the rest of a text
abbrev pub ended : List ℕ → List (List ℕ) → (rest : List ℕ) → List ℕ
ended w [] rest = w ++ 10 ∷ rest
ended w (v ∷ vs) rest = w ++ 32 ∷ ended v vs rest

-- If the words and the space pass a test, each byte of the line does.
spaced_all : (q : ℕ → Bool) → q 32 ≡ true → ((w : List ℕ) → Word w → list_all q w ≡ true) → (w : List ℕ) (ws : List (List ℕ)) → Word w → Words ws
    → list_all q (spaced w ws) ≡ true
spaced_all q space each w [] is none = each w is
spaced_all q space each w (v ∷ vs) is (more i is') =
    joined_all q w (32 ∷ spaced v vs) (each w is) (and_from (q 32) _ space (spaced_all q space each v vs i is'))

-- A line of words is split into these.
split_words : (w : List ℕ) (ws : List (List ℕ)) → Word w → Words ws → slice_split is_blank (spaced w ws) ≡ w ∷ ws
split_words w [] is none = split_none is_blank w (no_blank w is)
split_words w (v ∷ vs) is (more i is') =
    split_mid is_blank w 32 (spaced v vs) (no_blank w is) refl ∙ ap (λ (l : List (List ℕ)). w ∷ l) (split_words v vs i is')

some_word : (w : List ℕ) → Word w → is_word w ≡ true
some_word w is = not_from_false _ (ne_eqb (length w) 0 (λ e. omega (arith, e, is.nonempty)))

-- No word is left out.
all_kept : (ws : List (List ℕ)) → Words ws → filter is_word ws ≡ ws
all_kept [] none = refl
all_kept (w ∷ ws) (more is is') = rw (some_word w is, all_kept ws is') refl

-- The words of a line of words are these.
pub words_again : (w : List ℕ) (ws : List (List ℕ)) → Word w → Words ws → words_of (spaced w ws) ≡ w ∷ ws
unfolding words_of
words_again w ws is is' =
    let quiet = spaced_all (λ b. not (eqb b 35)) refl no_comment w ws is is' in
    rw (before_none (λ b. eqb b 35) (spaced w ws) quiet, split_words w ws is is') (all_kept (w ∷ ws) (more is is'))

-- A line of words that goes on to a line feed and a rest is the line, followed by these.
pub ended_spaced : (w : List ℕ) (ws : List (List ℕ)) (rest : List ℕ) → ended w ws rest ≡ spaced w ws ++ 10 ∷ rest
ended_spaced w [] rest = refl
ended_spaced w (v ∷ vs) rest = ap (λ l. w ++ 32 ∷ l) (ended_spaced v vs rest) ∙ sym (append_assoc w (32 ∷ spaced v vs) (10 ∷ rest))

-- The first line of a text that begins with a line of words is that line.
pub first_line : (w : List ℕ) (ws : List (List ℕ)) (rest : List ℕ) → Word w → Words ws
    → parts_at 10 ((spaced w ws ++ 10 ∷ []) ++ rest) ≡ spaced w ws ∷ parts_at 10 rest
first_line w ws rest is is' =
    let quiet = spaced_all (λ b. not (eqb b 10)) refl no_line_feed w ws is is' in
    ap (parts_at 10) (append_assoc (spaced w ws) (10 ∷ []) rest) ∙ split_mid (λ b. eqb b 10) (spaced w ws) 10 rest quiet refl
