-- Loops over a list, a step further.
use Rattle.std.proofs.Common.{◌≡◌, ℕ, ◌+◌, ◌<◌, ◌≤◌, List, [], ◌∷◌, ◌++◌, length, get_or, take, drop, Bor, sym, ap, ◌∙◌, refl}
use Rattle.std.proofs.Common.{append_assoc, append-nil, add-one, drop-cons}
use Rattle.std.specs.Prelude.{fold}
use Rattle.std.specs.List.{flat_map}
use Rattle.std.proofs.lemmas.List.{take_more}
use Rattle.std.proofs.lemmas.Grind.{flat_map-append}
use Rattle.std.proofs.Math.ListN.{drop_of_length-le}
use Rattle.course_text.specs.Views.{nows}

-- The bytes after those of the first i elements are those of the first i + 1.
pub appended_more : {X : Type 0} (f : X → List ℕ) (base : List ℕ) (xs : List X) (i : ℕ) (d : X) (old new : List ℕ) → i < length xs
    → old ≡ base ++ flat_map f (take i xs) → new ≡ old ++ f (get_or xs i d) → new ≡ base ++ flat_map f (take (i + 1) xs)
appended_more f base xs i d old new lt so_far is_new =
    let x = get_or xs i d in
    is_new ∙ ap (λ (bs : List ℕ). bs ++ f x) so_far ∙ append_assoc base (flat_map f (take i xs)) (f x)
    ∙ ap (λ (bs : List ℕ). base ++ bs) (
    sym (
    ap (flat_map f) (take_more xs i d lt) ∙ flat_map-append f (take i xs) (x ∷ []) ∙ ap (λ (bs : List ℕ). flat_map f (take i xs) ++ bs) (append-nil (f x))
    )
    )

-- The first of the elements that are left, and the others.
pub next_now : (lines : List (Bor (List ℕ))) (i : ℕ) (d : Bor (List ℕ)) → i < length lines →
    nows (drop i lines) ≡ (get_or lines i d).now ∷ nows (drop (i + 1) lines)
next_now lines i d lt = rw (add-one, drop-cons lines i d lt) refl

-- One more step of a fold over the elements that are left.
pub fold_more : {A : Type 0} (f : A → List ℕ → A) (lines : List (Bor (List ℕ))) (i : ℕ) (d : Bor (List ℕ)) (old new all : A) → i < length lines
    → fold f old (nows (drop i lines)) ≡ all → new ≡ f old (get_or lines i d).now → fold f new (nows (drop (i + 1) lines)) ≡ all
fold_more f lines i d old new all lt so_far is_new =
    ap (λ a. fold f a (nows (drop (i + 1) lines))) is_new ∙ sym (ap (fold f old) (next_now lines i d lt)) ∙ so_far

-- After the last step nothing is left.
pub fold_all : {A : Type 0} (f : A → List ℕ → A) (lines : List (Bor (List ℕ))) (i : ℕ) (last all : A) → length lines ≤ i
    → fold f last (nows (drop i lines)) ≡ all → last ≡ all
fold_all f lines i last all le so_far = sym (ap (λ ls. fold f last (nows ls)) (drop_of_length-le lines le)) ∙ so_far
