-- What a transition cache holds, and when its answers are right.
use Rattle.std.specs.Prelude.{◌≡◌, ◌⊎◌, Bool, ℕ, ◌<◌, List, [], ◌∷◌, Option, Some, length, nat_eq, slice_set}
use Rattle.std.specs.Cmp.Lexicographic.{pointwise}
use Rattle.std.specs.Map.{lookup}
use Rattle.state_store.specs.StateTables.{TableLists, placed_at, words_at, IsAfterReference}

-- questions, each a list of numbers, with their answers
pub record Remembered : Type 0 where
  pub entries : List (List ℕ × ℕ)

abbrev pub nothing : Remembered
nothing = record { entries = [] }

-- the answer to a question
abbrev pub answer_to : Remembered → (question : List ℕ) → Option ℕ
answer_to m question = lookup (pointwise nat_eq question) m.entries

-- Every answer of the new cache was in the old one, or is this answer to this question.
abbrev pub IsNoted : (old : Remembered) → (question : List ℕ) → (answer : ℕ) → (new : Remembered) → Type 0
IsNoted old question answer new =
    (q : List ℕ) (a : ℕ) → answer_to new q ≡ Some a → (answer_to old q ≡ Some a) ⊎ ((q ≡ question) × (a ≡ answer))

-- Every answer of the new cache was in the old one.
abbrev pub IsForgotten : (old new : Remembered) → Type 0
IsForgotten old new = (q : List ℕ) (a : ℕ) → answer_to new q ≡ Some a → answer_to old q ≡ Some a

-- Each answer is right: a reference of local state `number` to a word with the old value `before` leads to the local
-- state of the answer.
abbrev pub KnowsLocalStates : (quietly : Bool) → (code : List ℕ) → TableLists → Remembered → Type 0
KnowsLocalStates quietly code t m =
    (number word before behind : ℕ) → answer_to m (number ∷ word ∷ before ∷ []) ≡ Some behind →
    (number < length t.local_states) × IsAfterReference quietly code before (placed_at t number) t behind

-- Each answer is right: a write of `value` to a word of the list `number` gives the list of the answer.
abbrev pub KnowsLists : TableLists → Remembered → Type 0
KnowsLists t m =
    (number word value written : ℕ) → answer_to m (number ∷ word ∷ value ∷ []) ≡ Some written →
    (number < length t.words) × (written < length t.words)
    × (words_at t written ≡ slice_set (words_at t number) word value)
