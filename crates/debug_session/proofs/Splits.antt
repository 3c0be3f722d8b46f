-- A list with one more step at its end, split at a place.
use Rattle.std.proofs.Common.{◌≡◌, ◌⊎◌, inl, inr, List, [], ◌∷◌, ◌++◌, length, refl, ap, arith}
use Rattle.std.proofs.lemmas.List.{length-append}
use Rattle.steps.specs.declared.step.Step.{Step}

-- The place is the last, or it is in the list.
pub split_last : (done before rest : List Step) (s x : Step) → done ++ s ∷ [] ≡ before ++ x ∷ rest →
    ((rest ≡ []) × (done ≡ before) × (s ≡ x)) ⊎ ((rest' : List Step) × (done ≡ before ++ x ∷ rest'))
split_last [] [] rest s x e =
    let same : s ≡ x = cc in
    let none : rest ≡ [] = cc in inl (none, refl, same)
split_last [] (b ∷ before) rest s x e =
    absurd (let count = ap length e in let more = length-append before (x ∷ rest) in omega (arith, count, more))
split_last (d ∷ done) [] rest s x e =
    let same : d ≡ x = cc in inr (done, ap (λ y. y ∷ done) same)
split_last (d ∷ done) (b ∷ before) rest s x e =
    let same : d ≡ b = cc in
    let later : done ++ s ∷ [] ≡ before ++ x ∷ rest = cc in by same (split_last done before rest s x later)
  where
    by : d ≡ b → ((rest ≡ []) × (done ≡ before) × (s ≡ x)) ⊎ ((rest' : List Step) × (done ≡ before ++ x ∷ rest')) →
        ((rest ≡ []) × (d ∷ done ≡ b ∷ before) × (s ≡ x)) ⊎ ((rest' : List Step) × (d ∷ done ≡ b ∷ (before ++ x ∷ rest')))
    by same (inl (none, alike, last)) = inl (none, (λ i. same i ∷ alike i), last)
    by same (inr (rest', is)) = inr (rest', (λ i. same i ∷ is i))
