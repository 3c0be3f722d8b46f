-- Why hashing lists of words agrees with comparing them.
use Rattle.std.specs.Prelude.{◌≡◌, true, List, ◌++◌, ℕ, nat_eq}
use Rattle.std.specs.Cmp.Lexicographic.{bytes_decides, pointwise}
use Rattle.std.specs.Hash.{HashWrites, slice, u32}
use Rattle.std.proofs.Common.{ap}
use Rattle.state_store.specs.SparseWords.{nonzero_words}

-- what is hashed of a list: the words that are not zero, with their places
abbrev pub hashed : List ℕ → HashWrites
hashed words = slice (λ word. u32 word.place ++ u32 word.value) (nonzero_words words)

pub hashed_alike : (a b : List ℕ) → pointwise nat_eq a b ≡ true → hashed a ≡ hashed b
hashed_alike a b h = ap hashed ((bytes_decides a b).0 h)
