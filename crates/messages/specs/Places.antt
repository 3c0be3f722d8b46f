-- Functions of places, and elements of lists.
use Rattle.std.specs.Prelude.{◌≡◌, ℕ, cond, eqb, List, [], ◌∷◌, ◌⊎◌, map}

-- f with x at p
unfoldable pub put : {X : Type 0} → (ℕ → X) → ℕ → X → ℕ → X
put f p x q = cond (eqb q p) x (f q)

-- f with x at depth d and wire w
unfoldable pub put2 : {X : Type 0} → (ℕ → ℕ → X) → ℕ → ℕ → X → ℕ → ℕ → X
put2 f d w x d' w' = cond (eqb d' d) (cond (eqb w' w) x (f d' w')) (f d' w')

-- The list has x.
abbrev pub In : {X : Type 0} → X → List X → Type 0
In x [] = ⊥
In x (y ∷ ys) = (x ≡ y) ⊎ In x ys

abbrev pub Distinct : List ℕ → Type 0
Distinct [] = Unit {0}
Distinct (j ∷ js) = (In j js → ⊥) × Distinct js

-- No two elements have the same f.
abbrev pub ApartBy : {X : Type 0} → (X → ℕ) → List X → Type 0
ApartBy f xs = Distinct (map f xs)
