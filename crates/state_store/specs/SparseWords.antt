-- Lists of words, and what is stored of them: the words that are not zero, each with its place.
use Rattle.std.specs.Prelude.{◌≡◌, ℕ, zero, suc, ◌+◌, ◌<◌, ◌≤◌, ◌==◌, if◌then◌else◌, List, [], ◌∷◌, ◌++◌, map}
use Rattle.std.specs.List.{range_with_len}
use Rattle.state_store.specs.declared.sparse_words.NonzeroWord.{NonzeroWord}

-- the word at a place: 0 if none is stored there
abbrev pub word_at : List NonzeroWord → (place : ℕ) → ℕ
word_at [] place = 0
word_at (word ∷ words) place = if word.place == place then word.value else word_at words place

-- the list of `len` words of which these are stored
abbrev pub listed_words : (len : ℕ) → List NonzeroWord → List ℕ
listed_words len nonzero = map (word_at nonzero) (range_with_len 0 len)

-- what is stored of a word
abbrev pub stored : (place value : ℕ) → List NonzeroWord
stored place zero = []
stored place (suc less) = record { place = place; value = suc less } ∷ []

-- what is stored of words from this place on
abbrev pub stored_from : (place : ℕ) → (words : List ℕ) → List NonzeroWord
stored_from place [] = []
stored_from place (word ∷ words) = stored place word ++ stored_from (place + 1) words

-- the words of a list that are not zero, with their places
abbrev pub nonzero_words : (words : List ℕ) → List NonzeroWord
nonzero_words = stored_from 0

-- No word is zero. Their places increase, and lie in the range from `from` to below `to`.
abbrev pub AreWithin : (from to : ℕ) → List NonzeroWord → Type 0
AreWithin from to [] = from ≤ to
AreWithin from to (word ∷ words) = (from ≤ word.place) × (0 < word.value) × AreWithin (word.place + 1) to words

-- A place cuts the words into those before it, the one at it, and those after it.
pub record IsCut (place to : ℕ) (words before after : List NonzeroWord) : Type 0 where
  pub whole : words ≡ before ++ stored place (word_at words place) ++ after
  pub below : AreWithin 0 place before
  pub above : AreWithin (place + 1) to after
