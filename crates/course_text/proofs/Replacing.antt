-- Words of a text, a byte further.
use Rattle.std.proofs.Common.{◌≡◌, ℕ, ◌+◌, ◌-◌, ◌<◌, ◌≤◌, true, false, List, [], ◌∷◌, ◌++◌, length, get_or, take, drop, sym, ap, ◌∙◌, refl, arith}
use Rattle.std.proofs.Common.{append_assoc, add-one, drop-cons, length-drop}
use Rattle.std.specs.List.{slice_range}
use Rattle.std.proofs.lemmas.List.{take_more, get_or-drop}
use Rattle.std.proofs.Math.ListN.{drop_of_length-le}
use Rattle.asm_lines.specs.Statements.{is_name_byte}
use Rattle.course_text.specs.Constants.{Constants, number_for, replaced_after}

-- One more byte of a range.
range_more : (xs : List ℕ) (a i : ℕ) → a ≤ i → i < length xs → slice_range xs a (i + 1) ≡ slice_range xs a i ++ get_or xs i 0 ∷ []
range_more xs a i le lt =
    let ys = drop a xs in
    let one : (i + 1) - a ≡ (i - a) + 1 = omega (arith, le) in
    let inside : i - a < length ys = omega (arith, le, lt, length-drop a xs) in
    let there : a + (i - a) ≡ i = omega (arith, le) in
    ap (λ n. take n ys) one ∙ take_more ys (i - a) 0 inside
    ∙ ap (λ (b : ℕ). take (i - a) ys ++ b ∷ []) (get_or-drop a xs (i - a) 0 ∙ ap (λ k. get_or xs k 0) there)

-- After a byte of a name, its word is longer.
pub within_word : (cs : Constants) (text : List ℕ) (begin at : ℕ) (out all : List ℕ) → begin ≤ at → at < length text →
    is_name_byte (get_or text at 0) ≡ true
    → out ++ replaced_after cs (slice_range text begin at) (drop at text) ≡ all
    → out ++ replaced_after cs (slice_range text begin (at + 1)) (drop (at + 1) text) ≡ all
within_word cs text begin at out all le lt is so_far =
    let here : drop at text ≡ get_or text at 0 ∷ drop (at + 1) text = rw (add-one) (drop-cons text at 0 lt) in
    let step : replaced_after cs (slice_range text begin at) (get_or text at 0 ∷ drop (at + 1) text)
    ≡ replaced_after cs (slice_range text begin at ++ get_or text at 0 ∷ []) (drop (at + 1) text) = rw is refl in
    ap (λ bs. out ++ bs) (
    ap (λ w. replaced_after cs w (drop (at + 1) text)) (range_more text begin at le lt) ∙ sym step
    ∙ ap (replaced_after cs (slice_range text begin at)) (sym here)
    )
    ∙ so_far

-- Any other byte ends the word.
pub after_word : (cs : Constants) (text : List ℕ) (begin at : ℕ) (out mid new all : List ℕ) → at < length text →
    is_name_byte (get_or text at 0) ≡ false
    → mid ≡ out ++ number_for cs (slice_range text begin at) → new ≡ mid ++ get_or text at 0 ∷ []
    → out ++ replaced_after cs (slice_range text begin at) (drop at text) ≡ all
    → new ++ replaced_after cs (slice_range text (at + 1) (at + 1)) (drop (at + 1) text) ≡ all
after_word cs text begin at out mid new all lt is is_mid is_new so_far =
    let b = get_or text at 0 in
    let word = number_for cs (slice_range text begin at) in
    let rest = replaced_after cs [] (drop (at + 1) text) in
    let here : drop at text ≡ b ∷ drop (at + 1) text = rw (add-one) (drop-cons text at 0 lt) in
    let step : replaced_after cs (slice_range text begin at) (b ∷ drop (at + 1) text) ≡ word ++ b ∷ rest = rw is refl in
    let none : slice_range text (at + 1) (at + 1) ≡ [] = let zero : (at + 1) - (at + 1) ≡ 0 = omega arith in rw zero refl in
    rw (none, is_new, is_mid) (
    append_assoc (out ++ word) (b ∷ []) rest ∙ append_assoc out word (b ∷ rest)
    ∙ ap (λ bs. out ++ bs) (sym step ∙ ap (replaced_after cs (slice_range text begin at)) (sym here)) ∙ so_far
    )

-- At the end the last word is left.
pub last_word : (cs : Constants) (text : List ℕ) (begin at : ℕ) (out new all : List ℕ) → length text ≤ at → at ≤ length text →
    new ≡ out ++ number_for cs (slice_range text begin (length text))
    → out ++ replaced_after cs (slice_range text begin at) (drop at text) ≡ all → new ≡ all
last_word cs text begin at out new all le ge is_new so_far =
    is_new ∙ ap (λ w. out ++ number_for cs w) (sym whole) ∙ sym (ap (λ bs. out ++ replaced_after cs (slice_range text begin at) bs) (drop_of_length-le text le))
    ∙ so_far
  where
    whole : slice_range text begin at ≡ slice_range text begin (length text)
    whole = let all : at ≡ length text = omega (arith, le, ge) in ap (slice_range text begin) all
