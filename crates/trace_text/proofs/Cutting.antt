-- How texts are cut into parts one after another.
use Rattle.std.proofs.Common.{◌≡◌, ℕ, suc, ◌+◌, ◌<◌, Bool, true, false, cond, not, List, [], ◌∷◌, ◌++◌, length}
use Rattle.std.proofs.Common.{Some, None, refl, ap, arith, sym, ◌∙◌, append_assoc, inl, inr}
use Rattle.std.specs.Prelude.{filter}
use Rattle.std.specs.List.{position, position_or_len, before_first, after_first, slice_split}
use Rattle.std.proofs.lemmas.Bool.{cases_lt, lt-ltb}
use Rattle.std.proofs.lemmas.List.{length-append}
use Rattle.std.proofs.lemmas.List.Splits.{slice_split_first, slice_split-cons_no}
use Rattle.std.proofs.lemmas.List.Sums.{prefix_len-le-length}
use Rattle.std.proofs.lemmas.Option.{none-some}
use Rattle.asm_lines.specs.Text.{is_blank}
use Rattle.trace_text.specs.Words.{is_word}

-- If no byte is found, none passes.
pub position-none : (p : ℕ → Bool) (xs : List ℕ) → position p xs ≡ None → position_or_len p xs ≡ length xs
position-none p xs e =
    elim (cases_lt (position_or_len p xs) (length xs)) [
      | inl lt ↦ let t : position p xs ≡ Some (position_or_len p xs) = rw (lt-ltb _ _ lt) refl in absurd (none-some _ (sym e ∙ t))
      | inr le ↦ omega (arith, prefix_len-le-length (λ x. not (p x)) xs)
    ]

-- A text in which no byte passes is its own only part.
pub uncut : (p : ℕ → Bool) (xs : List ℕ) → position_or_len p xs ≡ length xs → slice_split p xs ≡ xs ∷ []
uncut p [] e = refl
uncut p (b ∷ bs) e = go (p b) refl e (uncut p bs)
  where
    go : (t : Bool) → p b ≡ t → cond (not t) (1 + position_or_len p bs) 0 ≡ suc (length bs) →
        (position_or_len p bs ≡ length bs → slice_split p bs ≡ bs ∷ []) → slice_split p (b ∷ bs) ≡ (b ∷ bs) ∷ []
    go true is e more = absurd (omega arith)
    go false is e more = slice_split-cons_no p b bs is ∙ rw (more (omega arith)) refl

-- The first part of a text that is cut, and those of the rest.
pub cut_first : (p : ℕ → Bool) (text part after : List ℕ) → position_or_len p text < length text → part ≡ before_first p text → after ≡ after_first p text
    → slice_split p text ≡ part ∷ slice_split p after
cut_first p text part after lt is is' = slice_split_first p text 0 lt ∙ rw (is, is') refl

-- The words of parts are that of the first, if it is one, and those of the others.
pub first_part : (part : List ℕ) (parts : List (List ℕ)) → filter is_word (part ∷ parts) ≡ filter is_word (part ∷ []) ++ filter is_word parts
first_part part parts = go (is_word part)
  where
    go : (b : Bool) → cond b (part ∷ filter is_word parts) (filter is_word parts) ≡ cond b (part ∷ []) [] ++ filter is_word parts
    go true = refl
    go false = refl

-- Words that were found, and those of a part and of what follows it.
pub words_more : (found words : List (List ℕ)) (text part after : List ℕ) (all : List (List ℕ)) → slice_split is_blank text ≡ part ∷ slice_split is_blank after
    → words ≡ found ++ filter is_word (part ∷ [])
    → found ++ filter is_word (slice_split is_blank text) ≡ all → words ++ filter is_word (slice_split is_blank after) ≡ all
words_more found words text part after all cut is so_far =
    let parts = ap (filter is_word) cut ∙ first_part part (slice_split is_blank after) in
    rw is (append_assoc found (filter is_word (part ∷ [])) _ ∙ sym (ap (λ l. found ++ l) parts) ∙ so_far)

-- Words that were found, and those of the last part.
pub words_all : (found words : List (List ℕ)) (text : List ℕ) (all : List (List ℕ)) → slice_split is_blank text ≡ text ∷ []
    → words ≡ found ++ filter is_word (text ∷ [])
    → found ++ filter is_word (slice_split is_blank text) ≡ all → words ≡ all
words_all found words text all cut is so_far = is ∙ sym (ap (λ l. found ++ filter is_word l) cut) ∙ so_far

-- If nine words were found, and the next part is one, there are more than nine.
pub too_many : (found : List (List ℕ)) (text part : List ℕ) (parts : List (List ℕ)) (all : List (List ℕ)) → slice_split is_blank text ≡ part ∷ parts
    → length found ≡ 9 → is_word part ≡ true
    → found ++ filter is_word (slice_split is_blank text) ≡ all → 9 < length all
too_many found text part parts all cut nine is so_far =
    let rest : filter is_word (slice_split is_blank text) ≡ part ∷ filter is_word parts = ap (filter is_word) cut ∙ rw is refl in
    let whole : all ≡ found ++ (part ∷ filter is_word parts) = sym so_far ∙ ap (λ l. found ++ l) rest in
    rw (whole, length-append) (omega (arith, nine))
