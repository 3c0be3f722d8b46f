-- Where a text is cut.
use Rattle.std.proofs.Common.{◌≡◌, ◌≢◌, ◌∙◌, ◌==◌, ◌<◌, ◌≤◌, ◌+◌, ℕ, zero, suc, Bool, cond, true, false, not, refl, sym, ap, arith}
use Rattle.std.proofs.Common.{List, [], ◌∷◌, ◌++◌, length, take, drop, Option, Some, None, option_map, Bor, length-drop}
use Rattle.std.specs.Prelude.{IfSome, MatchOption}
use Rattle.std.specs.List.{after_first, before_first, position_or_len, slice_range}
use Rattle.std.specs.Str.Pattern.{FindsText, FindsTextPrefix, LacksTextAt, MatchBeginsAt, StripsPrefix}
use Rattle.std.proofs.lemmas.Bool.{eq-eqb, eqb-true}
use Rattle.std.proofs.lemmas.Str.Pattern.{IsSplitOnceResult, split_once_first}
use Rattle.line_shapes.specs.Cuts.{after, is_nil, upto, with_first, words_of}

-- ---- a beginning

after_begin : (begin rest : List ℕ) → after begin (begin ++ rest) ≡ Some rest
unfolding after
after_begin [] rest = refl
after_begin (x ∷ begin) rest = rw (eq-eqb x x refl) (after_begin begin rest)

after_none : (begin text : List ℕ) → ((rest : List ℕ) → text ≢ begin ++ rest) → after begin text ≡ None
unfolding after
after_none [] text lacks = absurd (lacks text refl)
after_none (x ∷ begin) [] lacks = refl
after_none (x ∷ begin) (y ∷ text) lacks = go (x == y) refl (after_none begin text)
  where
    go : (b : Bool) → (x == y) ≡ b → (((rest : List ℕ) → text ≢ begin ++ rest) → after begin text ≡ None)
        → cond b (after begin text) None ≡ None
    go true e more = more (λ rest is. lacks rest (rw (eqb-true x y e, is) refl))
    go false e more = refl

-- What `strip_prefix` leaves is what follows the beginning.
pub stripped_is : (begin text : List ℕ) (r : Option (Bor (List ℕ)))
    → MatchOption r (FindsTextPrefix begin text None) (λ x. StripsPrefix (FindsTextPrefix begin) text x.now)
    → option_map (λ rest. rest.now) r ≡ after begin text
stripped_is begin text None lacks = sym (after_none begin text lacks)
stripped_is begin text (Some x) strips =
    let rest = drop strips.0 text in
    let begins : text ≡ begin ++ rest = strips.1.1 in
    ap (λ t. Some t) strips.2 ∙ sym (ap (after begin) begins ∙ after_begin begin rest)

-- ---- a word

-- A text in which the word stands nowhere is not cut.
pub upto_none : (word text : List ℕ) → ((i : ℕ) → i ≤ length text → LacksTextAt word text i) → None ≡ upto word text
unfolding upto
upto_none word [] lacks = rw (after_none word [] (lacks 0 (omega arith))) refl
upto_none word (b ∷ text) lacks =
    let here : after word (b ∷ text) ≡ None = after_none word (b ∷ text) (lacks 0 (omega arith)) in
    let more : None ≡ upto word text = upto_none word text (λ i le. lacks (suc i) (omega arith)) in
    rw (here, ← more) refl

pub upto_some : (word text : List ℕ) (i : ℕ) (rest : List ℕ) → ((k : ℕ) → k < i → LacksTextAt word text k) → drop i text ≡ word ++ rest
    → Some (take i text, drop i text) ≡ upto word text
unfolding upto
upto_some word [] zero rest lacks has =
    let here : after word [] ≡ Some rest = ap (after word) has ∙ after_begin word rest in
    rw here refl
upto_some word [] (suc i) rest lacks has =
    let here : after word [] ≡ Some rest = ap (after word) has ∙ after_begin word rest in
    rw here refl
upto_some word (b ∷ text) zero rest lacks has =
    let here : after word (b ∷ text) ≡ Some rest = ap (after word) has ∙ after_begin word rest in
    rw here refl
upto_some word (b ∷ text) (suc i) rest lacks has =
    let here : after word (b ∷ text) ≡ None = after_none word (b ∷ text) (lacks 0 (omega arith)) in
    let more : Some (take i text, drop i text) ≡ upto word text = upto_some word text i rest (λ k lt. lacks (suc k) (omega arith)) has in
    rw (here, ← more) refl

-- Where `find` finds a word, the text is cut in two.
pub upto_found : (word text front rest : List ℕ) (at : ℕ) → MatchBeginsAt (FindsText word) text at → front ≡ slice_range text 0 at → rest ≡ drop at text
    → Some (front, rest) ≡ upto word text
upto_found word text front rest at found begins ends =
    let all : slice_range text 0 at ≡ take at text = grind arith in
    rw (begins, ends, all) (upto_some word text at (drop found.0 text) found.1.0 found.1.1.split)

-- ---- words

-- A text without a blank is one word.
pub one_word : (text : List ℕ) → position_or_len (λ b. b == 32) text ≡ length text → words_of text ≡ text ∷ []
unfolding words_of
one_word [] e = refl
one_word (b ∷ text) e = go (b == 32) e (one_word text)
  where
    go : (is : Bool) → cond (not is) (1 + position_or_len (λ c. c == 32) text) 0 ≡ suc (length text)
        → (position_or_len (λ c. c == 32) text ≡ length text → words_of text ≡ text ∷ [])
        → cond is ([] ∷ words_of text) (with_first b (words_of text)) ≡ (b ∷ text) ∷ []
    go true e more = absurd (omega arith)
    go false e more = rw (more (omega arith)) refl

-- The first word of a text with a blank, and the words after that.
pub more_words : (text : List ℕ) → position_or_len (λ b. b == 32) text < length text
    → words_of text ≡ before_first (λ b. b == 32) text ∷ words_of (after_first (λ b. b == 32) text)
unfolding words_of
more_words [] lt = absurd (omega arith)
more_words (b ∷ text) lt = go (b == 32) lt (more_words text)
  where
    go : (is : Bool) → cond (not is) (1 + position_or_len (λ c. c == 32) text) 0 < suc (length text)
        → (position_or_len (λ c. c == 32) text < length text
        → words_of text ≡ before_first (λ c. c == 32) text ∷ words_of (after_first (λ c. c == 32) text))
        → cond is ([] ∷ words_of text) (with_first b (words_of text)) ≡ take (cond (not is) (1 + position_or_len (λ c. c == 32) text) 0) (b ∷ text)
        ∷ words_of (drop (cond (not is) (1 + position_or_len (λ c. c == 32) text) 0 + 1) (b ∷ text))
    go true lt more = refl
    go false lt more = rw (more (omega arith)) (grind arith)

-- `split_once` gives the first word and the words after it.
pub first_of : (text : List ℕ) (r : Option (Bor (List ℕ) × Bor (List ℕ))) → IsSplitOnceResult 32 text r
    → MatchOption r (words_of text ≡ text ∷ []) (λ x. words_of text ≡ x.0.now ∷ words_of x.1.now)
first_of text r split = go r (split_once_first 32 text r split (omega arith))
  where
    go : (r : Option (Bor (List ℕ) × Bor (List ℕ)))
        → MatchOption r (position_or_len (λ b. b == 32) text ≡ length text) (λ x. (position_or_len (λ b. b == 32) text < length text)
        × (x.0.now ≡ before_first (λ b. b == 32) text) × (x.1.now ≡ after_first (λ b. b == 32) text))
        → MatchOption r (words_of text ≡ text ∷ []) (λ x. words_of text ≡ x.0.now ∷ words_of x.1.now)
    go None none = one_word text none
    go (Some x) some = rw (some.1, some.2) (more_words text some.0)

-- What follows the first word is shorter than the text.
pub rest_shorter : (text : List ℕ) (r : Option (Bor (List ℕ) × Bor (List ℕ))) → IsSplitOnceResult 32 text r → IfSome r (λ x. length x.1.now < length text)
rest_shorter text r split = go r (split_once_first 32 text r split (omega arith))
  where
    go : (r : Option (Bor (List ℕ) × Bor (List ℕ)))
        → MatchOption r (position_or_len (λ b. b == 32) text ≡ length text) (λ x. (position_or_len (λ b. b == 32) text < length text)
        × (x.0.now ≡ before_first (λ b. b == 32) text) × (x.1.now ≡ after_first (λ b. b == 32) text))
        → IfSome r (λ x. length x.1.now < length text)
    go None none = tt
    go (Some x) some = rw some.2 (omega (arith, length-drop (position_or_len (λ b. b == 32) text + 1) text, some.0))

first_is_a_word : (b : ℕ) (words : List (List ℕ)) → is_nil (with_first b words) ≡ false
first_is_a_word b [] = refl
first_is_a_word b (word ∷ words) = refl

-- Each text has a word.
pub has_words : (text : List ℕ) → is_nil (words_of text) ≡ false
unfolding words_of
has_words [] = refl
has_words (b ∷ text) = go (b == 32)
  where
    go : (is : Bool) → is_nil (cond is ([] ∷ words_of text) (with_first b (words_of text))) ≡ false
    go true = refl
    go false = first_is_a_word b (words_of text)

-- So has what follows the first word.
pub rest_has_words : (r : Option (Bor (List ℕ) × Bor (List ℕ))) → IfSome r (λ x. is_nil (words_of x.1.now) ≡ false)
rest_has_words None = tt
rest_has_words (Some x) = has_words x.1.now
