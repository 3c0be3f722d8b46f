-- Lists with the same elements at all places are equal.
use Rattle.std.proofs.Common.{◌≡◌, ℕ, ◌<◌, suc, List, [], ◌∷◌, Some, length, refl, arith}
use Rattle.std.specs.Prelude.{slice_get}

-- Two lists of one length with the same elements at all places are equal.
pub same_lists : {X : Type 0} (xs ys : List X) → length xs ≡ length ys → ((i : ℕ) → i < length xs → slice_get xs i ≡ slice_get ys i) → xs ≡ ys
same_lists [] [] as_long each = refl
same_lists [] (y ∷ ys) as_long each = absurd (omega (arith, as_long))
same_lists (x ∷ xs) [] as_long each = absurd (omega (arith, as_long))
same_lists (x ∷ xs) (y ∷ ys) as_long each =
    let first : Some x ≡ Some y = each 0 (omega arith) in
    let here : x ≡ y = cc in
    let rest : xs ≡ ys = same_lists xs ys (omega (arith, as_long)) (λ i l. each (suc i) (omega (arith, l))) in
    λ i. here i ∷ rest i
