-- How a text is cut at a word that stands in it.
use Rattle.std.specs.Prelude.{ℕ, ◌==◌, Bool, true, false, List, [], ◌∷◌, Option, Some, None, option_map, is_some}
use Rattle.std.specs.Prelude.{if◌then◌else◌}

-- what follows a beginning of the text; none, if the text does not begin so
unfoldable pub after : (begin text : List ℕ) → Option (List ℕ)
after [] text = Some text
after (x ∷ begin) [] = None
after (x ∷ begin) (y ∷ text) = if x == y then after begin text else None

-- the text before the first place where the word stands, and the text from there on
unfoldable pub upto : (word text : List ℕ) → Option (List ℕ × List ℕ)
upto word [] = if is_some (after word []) then Some ([], []) else None
upto word (b ∷ text) =
    if is_some (after word (b ∷ text)) then Some ([], b ∷ text)
    else option_map (λ x. (b ∷ x.0, x.1)) (upto word text)

-- the same words, with a byte before the first of them
abbrev pub with_first : ℕ → List (List ℕ) → List (List ℕ)
with_first b [] = (b ∷ []) ∷ []
with_first b (word ∷ words) = (b ∷ word) ∷ words

-- the words of a text, one more than it has blanks
unfoldable pub words_of : (text : List ℕ) → List (List ℕ)
words_of [] = [] ∷ []
words_of (b ∷ text) = if b == 32 then [] ∷ words_of text else with_first b (words_of text)

-- whether there are no words
abbrev pub is_nil : List (List ℕ) → Bool
is_nil [] = true
is_nil (word ∷ words) = false
