-- Lists with 0 at some places: what is read and written in them.
use Rattle.std.proofs.Common.{◌≡◌, ◌≢◌, ℕ, zero, suc, Bool, true, false, cond, List, [], ◌∷◌, refl, sym, ap, ◌∙◌, arith, eqb, ne_eqb}
use Rattle.std.specs.Prelude.{slice_index, slice_set}
use Rattle.flat_machine.specs.Effects.{register_of, with_register}
use Rattle.local_reduction.specs.Forgetting.{only}

only_at : (set : ℕ → Bool) (xs : List ℕ) (r : ℕ) → set r ≡ true → slice_index (only set xs) r ≡ slice_index xs r
only_at set [] r e = refl
only_at set (x ∷ xs) zero e = ap (λ b. cond b x 0) e
only_at set (x ∷ xs) (suc r) e = only_at (λ i. set (suc i)) xs r e

-- A register of the set is read the same if the registers outside the set are 0.
pub read_same : (set : ℕ → Bool) (xs : List ℕ) (r : ℕ) → set r ≡ true → register_of (only set xs) r ≡ register_of xs r
unfolding register_of
read_same set xs r e = ap (λ v. cond (eqb r 0) 0 v) (only_at set xs r e)

inner : (g f : Bool) (x : ℕ) → (g ≡ true → f ≡ true) → cond g (cond f x 0) 0 ≡ cond g x 0
inner true f x h = ap (λ b. cond b x 0) (h refl)
inner false f x h = refl

-- If g has only places of f, clearing the places outside f first changes nothing.
pub only_only : (g f : ℕ → Bool) (xs : List ℕ) → ((r : ℕ) → g r ≡ true → f r ≡ true) → only g (only f xs) ≡ only g xs
only_only g f [] h = refl
only_only g f (x ∷ xs) h =
    let rest = only_only (λ r. g (suc r)) (λ r. f (suc r)) xs (λ r e. h (suc r) e) in
    λ i. inner (g 0) (f 0) x (h 0) i ∷ rest i

only_set : (g f : ℕ → Bool) (xs : List ℕ) (k v : ℕ) → ((r : ℕ) → r ≢ k → g r ≡ true → f r ≡ true) →
    only g (slice_set (only f xs) k v) ≡ only g (slice_set xs k v)
only_set g f [] k v h = refl
only_set g f (x ∷ xs) zero v h =
    let rest = only_only (λ r. g (suc r)) (λ r. f (suc r)) xs (λ r e. h (suc r) (λ same. absurd (omega (arith, same))) e) in
    λ i. cond (g 0) v 0 ∷ rest i
only_set g f (x ∷ xs) (suc k) v h =
    let rest = only_set (λ r. g (suc r)) (λ r. f (suc r)) xs k v (λ r ne e. h (suc r) (λ same. ne (omega (arith, same))) e) in
    λ i. inner (g 0) (f 0) x (h 0 (λ same. absurd (omega (arith, same)))) i ∷ rest i

with_is : (xs : List ℕ) (k v : ℕ) → with_register xs (suc k) v ≡ slice_set xs (suc k) v
unfolding with_register
with_is xs k v = ap (λ b. cond b xs (slice_set xs (suc k) v)) (ne_eqb (suc k) 0 (λ same. absurd (omega (arith, same))))

-- A register can be written before or after the places outside f are cleared, if g has only places of f and that
-- register.
pub only_written : (g f : ℕ → Bool) (xs : List ℕ) (rd v : ℕ) → f 0 ≡ true → ((r : ℕ) → r ≢ rd → g r ≡ true → f r ≡ true) →
    only g (with_register (only f xs) rd v) ≡ only g (with_register xs rd v)
unfolding with_register
only_written g f xs zero v first h = only_only g f xs all
  where
    all : (r : ℕ) → g r ≡ true → f r ≡ true
    all zero e = first
    all (suc r) e = h (suc r) (λ same. absurd (omega (arith, same))) e
only_written g f xs (suc k) v first h =
    ap (only g) (with_is (only f xs) k v) ∙ (only_set g f xs (suc k) v h ∙ sym (ap (only g) (with_is xs k v)))

-- What is written to a place that is cleared anyway changes nothing.
pub only_cleared : (set : ℕ → Bool) (xs : List ℕ) (k v : ℕ) → set k ≡ false → only set (slice_set xs k v) ≡ only set xs
only_cleared set [] k v e = refl
only_cleared set (x ∷ xs) zero v e =
    let head : cond (set 0) v 0 ≡ cond (set 0) x 0 = ap (λ b. cond b v 0) e ∙ sym (ap (λ b. cond b x 0) e) in
    λ i. head i ∷ only (λ r. set (suc r)) xs
only_cleared set (x ∷ xs) (suc k) v e =
    let rest = only_cleared (λ r. set (suc r)) xs k v e in
    λ i. cond (set 0) x 0 ∷ rest i
