-- The listed faults are those that are present.
use Rattle.std.proofs.Common.{◌≡◌, ◌<◌, ◌≤◌, ℕ, zero, suc, ◌+◌, ◌-◌, List, [], ◌∷◌, length, Option}
use Rattle.std.proofs.Common.{Some, Result, Ok, Err, refl, sym, ap, ◌∙◌, arith}
use Rattle.std.specs.Prelude.{All, Contains, slice_get, slice_index_or, IsOk}
use Rattle.std.proofs.lemmas.List.Elements.{All-nil, All-cons}
use Rattle.assembler.specs.declared.fault.AsmFault.{AsmFault}
use Rattle.assembler.specs.declared.fault.AsmError.{AsmError}
use Rattle.assembler.specs.Meaning.{Piece}
use Rattle.fault_lists.specs.Faults.{errors_from}

-- If the line at a place has a fault, the fault is listed.
pub present_listed : (n : ℕ) (pieces : List (Result Piece AsmFault)) (i : ℕ) (e : AsmError) → e.line ≡ n + i → slice_get pieces i ≡ Some (Err e.fault)
    → Contains (errors_from n pieces) e
present_listed n [] i e at bad = cc
present_listed n (Ok x ∷ ps) zero e at bad = cc
present_listed n (Ok x ∷ ps) (suc i) e at bad = present_listed (n + 1) ps i e (omega (arith, at)) bad
present_listed n (Err f ∷ ps) zero e at bad = (0, omega arith, same_error (record { line = n; fault = f }) e (omega (arith, at)) (cc))
  where
    same_error : (a b : AsmError) → b.line ≡ a.line → a.fault ≡ b.fault → a ≡ b
    same_error a b line fault =
        let make = λ (l : ℕ) (g : AsmFault). let made : AsmError = record { line = l; fault = g } in made in
        ap (λ (l : ℕ). make l a.fault) (sym line) ∙ ap (make b.line) fault
present_listed n (Err f ∷ ps) (suc i) e at bad =
    let behind = present_listed (n + 1) ps i e (omega (arith, at)) bad in (suc behind.0, omega (arith, behind.1), behind.2)

-- A listed fault is the fault of its line.
pub listed_present : (n : ℕ) (pieces : List (Result Piece AsmFault)) (e : AsmError) (k : ℕ) → k < length (errors_from n pieces)
    → slice_index_or (errors_from n pieces) k e ≡ e → (n ≤ e.line) × (slice_get pieces (e.line - n) ≡ Some (Err e.fault))
listed_present n [] e k lt is_e = absurd (omega (arith, lt))
listed_present n (Ok x ∷ ps) e k lt is_e = present_later n (Ok x) ps e (listed_present (n + 1) ps e k lt is_e)
  where
    present_later : (n : ℕ) (p : Result Piece AsmFault) (ps : List (Result Piece AsmFault)) (e : AsmError)
        → (n + 1 ≤ e.line) × (slice_get ps (e.line - (n + 1)) ≡ Some (Err e.fault)) → (n ≤ e.line) × (slice_get (p ∷ ps) (e.line - n) ≡ Some (Err e.fault))
    present_later n p ps e h = let one : e.line - n ≡ suc (e.line - (n + 1)) = omega (arith, h.0) in (omega (arith, h.0), rw one h.1)
listed_present n (Err f ∷ ps) e zero lt is_e =
    let line : e.line ≡ n = ap (λ (a : AsmError). a.line) (sym is_e) in
    let none : e.line - n ≡ 0 = omega (arith, line) in
    (omega (arith, line), rw none (ap (λ (a : AsmError). let piece : Option (Result Piece AsmFault) = Some (Err a.fault) in piece) is_e))
listed_present n (Err f ∷ ps) e (suc k) lt is_e =
    let h = listed_present (n + 1) ps e k (omega (arith, lt)) is_e in
    let one : e.line - n ≡ suc (e.line - (n + 1)) = omega (arith, h.0) in (omega (arith, h.0), rw one h.1)

-- If each line places something, no fault is listed.
pub none_listed : (n : ℕ) (pieces : List (Result Piece AsmFault)) → All IsOk pieces → errors_from n pieces ≡ []
none_listed n [] each = refl
none_listed n (Ok x ∷ ps) each = none_listed (n + 1) ps (λ k d lt. each (suc k) d (omega (arith, lt)))
none_listed n (Err f ∷ ps) each = cc (each 0 (Err f) (omega arith))

-- If no fault is listed, each line places something.
pub all_ok : (n : ℕ) (pieces : List (Result Piece AsmFault)) → errors_from n pieces ≡ [] → All IsOk pieces
all_ok n [] none = All-nil IsOk
all_ok n (Ok x ∷ ps) none = All-cons IsOk (Ok x) ps refl (all_ok (n + 1) ps none)
all_ok n (Err f ∷ ps) none = cc
