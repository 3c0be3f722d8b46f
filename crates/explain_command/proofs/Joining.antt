-- Words with a blank between them.
use Rattle.std.proofs.Common.{◌≡◌, ◌<◌, ◌++◌, ap, arith, refl, codes, map, length, List, [], ◌∷◌, Some, ℕ}
use Rattle.std.specs.Borrow.{Bor}
use Rattle.std.specs.List.{flat_map, join_by}
use Rattle.explain_command.specs.Explaining.{text_asked}

behind_blanks : (words : List (Bor (List ℕ))) → flat_map (λ (w : Bor (List ℕ)). codes " " ++ w.now) words
    ≡ flat_map (λ (w : List ℕ). codes " " ++ w) (map (λ w. w.now) words)
behind_blanks [] = refl
behind_blanks (word ∷ words) = ap (λ others. (codes " " ++ word.now) ++ others) (behind_blanks words)

-- If there are words, the words joined by blanks are the text that they ask for.
pub joined_asked : (words : List (Bor (List ℕ))) → 0 < length words →
    Some (join_by (λ (w : Bor (List ℕ)). w.now) (codes " ") words) ≡ text_asked (map (λ w. w.now) words)
joined_asked [] some = absurd (omega (arith, some))
joined_asked (word ∷ words) some = ap (λ others. Some (word.now ++ others)) (behind_blanks words)
