-- What holds of each element at its place, if the elements of one place are replaced.
use Rattle.std.proofs.Common.{◌≡◌, ℕ, inl, inr, List, [], ◌∷◌, ◌++◌, sym, subst}
use Rattle.messages.specs.Places.{In, put2}
use Rattle.messages.proofs.Lemmas.{In-append, In-put2}

module _ {X : Type 0} (P : ℕ → ℕ → X → Type 0) (f : ℕ → ℕ → List X) (d w : ℕ) where
  -- The property holds of each element if it holds of the new ones at that place.
  pub each_put : (xs : List X) → ((x : X) → In x xs → P d w x) → ((d' w' : ℕ) (x : X) → (d' ≡ d → w' ≡ w → ⊥) → In x (f d' w') → P d' w' x)
      → (d' w' : ℕ) (x : X) → In x (put2 f d w xs d' w') → P d' w' x
  each_put xs here elsewhere d' w' x m = elim (In-put2 f d w xs d' w' x m) [
    | inl h ↦ rw (h.0, h.1) (here x h.2)
    | inr h ↦ elsewhere d' w' x h.0 h.1
  ]

  -- The property holds of each element if the place keeps only elements that it had.
  pub each_fewer : (xs : List X) → ((x : X) → In x xs → In x (f d w)) → ((d' w' : ℕ) (x : X) → In x (f d' w') → P d' w' x)
      → (d' w' : ℕ) (x : X) → In x (put2 f d w xs d' w') → P d' w' x
  each_fewer xs sub each = each_put xs (λ x m. each d w x (sub x m)) (λ d' w' x n m. each d' w' x m)

  -- The property holds of each element if the place gets one more, of which it holds.
  pub each_pushed : (x : X) → P d w x → ((d' w' : ℕ) (y : X) → In y (f d' w') → P d' w' y)
      → (d' w' : ℕ) (y : X) → In y (put2 f d w (f d w ++ x ∷ []) d' w') → P d' w' y
  each_pushed x here each = each_put (f d w ++ x ∷ [])
      (λ y m. elim (In-append y (f d w) (x ∷ []) m) [
        | inl o ↦ each d w y o
        | inr (inl e) ↦ subst (P d w) (sym e) here
        | inr (inr i) ↦ absurd i
      ])
      (λ d' w' y n m. each d' w' y m)
