-- What the results of tests and first refusals imply.
use Rattle.std.proofs.Common.{◌≡◌, ℕ, zero, suc, Bool, true, false, not, cond, ◌&&◌, ◌||◌, List, []}
use Rattle.std.proofs.Common.{◌∷◌, map, Option, None, Some, Result, Ok, Err, refl, sym, subst}
use Rattle.std.specs.Prelude.{slice_get, IfErr, IsErrAnd, OnErr}
use Rattle.std.specs.List.{list_any}
use Rattle.elf_image.specs.declared.error.ImageError.{ImageError}
use Rattle.elf_image.specs.Refusals.{first_of}

-- If a conjunction is true, both of its parts are true.
pub and_true : (a b : Bool) → (a && b) ≡ true → (a ≡ true) × (b ≡ true)
and_true true b e = (refl, e)
and_true false b e = absurd (cc)

-- If a disjunction is false, both of its parts are false.
pub or_false : (a b : Bool) → (a || b) ≡ false → (a ≡ false) × (b ≡ false)
or_false true b e = absurd (cc)
or_false false b e = (refl, e)

-- If a negation is false, what it negates is true.
pub not_false : (a : Bool) → not a ≡ false → a ≡ true
not_false true e = refl
not_false false e = absurd (cc)

-- If a test and what follows it refuse nothing, the test is false.
pub passed : {E : Type 0} (b : Bool) (e : E) (rest : Option E) → cond b (Some e) rest ≡ None → (b ≡ false) × (rest ≡ None)
passed true e rest h = absurd (cc)
passed false e rest h = (refl, h)

-- If a list has no first refusal, its first element is no refusal, and the rest has none.
pub first_none : (o : Option ImageError) (os : List (Option ImageError)) → first_of (o ∷ os) ≡ None → (o ≡ None) × (first_of os ≡ None)
first_none None os h = (refl, h)
first_none (Some e) os h = absurd (cc)

-- If a list has no first refusal, none of its elements is refused.
pub each_none : {X : Type 0} (refusal : X → Option ImageError) (xs : List X) (k : ℕ) (x : X) → first_of (map refusal xs) ≡ None → slice_get xs k ≡ Some x →
    refusal x ≡ None
each_none refusal [] k x h at = absurd (cc)
each_none refusal (y ∷ ys) zero x h at = let same : y ≡ x = cc in rw same at (first_none (refusal y) (map refusal ys) h).0
each_none refusal (y ∷ ys) (suc k) x h at = each_none refusal ys k x (first_none (refusal y) (map refusal ys) h).1 at

-- If no element of a list passes a test, the element at a given place does not.
pub none_any : {X : Type 0} (test : X → Bool) (xs : List X) (k : ℕ) (x : X) → list_any test xs ≡ false → slice_get xs k ≡ Some x → test x ≡ false
none_any test [] k x h at = absurd (cc)
none_any test (y ∷ ys) zero x h at = let same : y ≡ x = cc in rw same at (or_false (test y) (list_any test ys) h).0
none_any test (y ∷ ys) (suc k) x h at = none_any test ys k x (or_false (test y) (list_any test ys) h).1 at

-- What holds of an error holds of a result that has this error.
pub if_err : {T : Type 0} (r : Result T ImageError) (e : ImageError) (P : ImageError → Type 0) → IsErrAnd r (λ x. x ≡ e) → P e → IfErr r P
if_err (Ok x) e P h p = tt
if_err (Err x) e P h p = subst P (sym h) p

-- What holds in any case holds if a result is an error.
pub on_err : {T E : Type 0} (r : Result T E) (P : Type 0) → P → OnErr r P
on_err (Ok x) P p = tt
on_err (Err e) P p = p
