-- Lists that are kept one after another, with the end of each.
use Rattle.std.specs.Prelude.{◌≡◌, ℕ, ◌≤◌, List, [], ◌∷◌, slice_range}

-- the lists, each of which begins where the one before it ends
abbrev pub cut : (start : ℕ) → (ends all : List ℕ) → List (List ℕ)
cut start [] all = []
cut start (end ∷ ends) all = slice_range all start end ∷ cut end ends all

-- No list ends before it begins, and the last ends where all of them end.
abbrev pub AreEnds : (start : ℕ) → (ends : List ℕ) → (last : ℕ) → Type 0
AreEnds start [] last = start ≡ last
AreEnds start (end ∷ ends) last = (start ≤ end) × AreEnds end ends last
