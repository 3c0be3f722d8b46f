-- The first part of a text that is none of a condition.
use Rattle.std.proofs.Common.{◌≡◌, ℕ, Bool, true, false, List, ◌∷◌, Option, Some, None, refl, ap}
use Rattle.std.specs.Prelude.{find, if◌then◌else◌}
use Rattle.std.specs.Option.{option_or}

-- The first part is found if it is wrong.
pub find_here : (is_wrong : List ℕ → Bool) (x : List ℕ) (xs : List (List ℕ)) → is_wrong x ≡ true → find is_wrong (x ∷ xs) ≡ Some x
find_here is_wrong x xs is = ap (λ b. if b then Some x else find is_wrong xs) is

-- If it is not, the search goes on after it.
pub find_past : (is_wrong : List ℕ → Bool) (x : List ℕ) (xs : List (List ℕ)) → is_wrong x ≡ false → find is_wrong (x ∷ xs) ≡ find is_wrong xs
find_past is_wrong x xs is = ap (λ b. if b then Some x else find is_wrong xs) is

-- If there is no second choice, the first is all.
pub or_none : (found : Option (List ℕ)) → option_or found None ≡ found
or_none (Some x) = refl
or_none None = refl
