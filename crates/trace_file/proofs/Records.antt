-- Records in a row.
use Rattle.std.proofs.Common.{◌≡◌, ℕ, ◌*◌, List, [], ◌∷◌, ◌++◌, length, refl, ap, ◌∙◌, arith, append_assoc, append-nil, length-append}
use Rattle.std.proofs.lemmas.Grind.{flat_map-append}
use Rattle.std.proofs.lemmas.List.Elements.{All-append, All-nil, All-cons}
use Rattle.steps.specs.declared.step.Step.{Step}
use Rattle.trace_file.specs.declared.fields.Fields.{Fields}
use Rattle.trace_file.specs.Records.{fields_of, field_bytes, record_bytes, HasRecord}
use Rattle.trace_file.specs.Traces.{records_bytes, HaveRecords}

pub length-field_bytes : (f : Fields) → length (field_bytes f) ≡ 12
unfolding field_bytes
length-field_bytes f = refl

pub length-records_bytes : (steps : List Step) → length (records_bytes steps) ≡ 12 * length steps
length-records_bytes [] = refl
length-records_bytes (step ∷ steps) =
    let first = length-field_bytes (fields_of step) in
    let others = length-records_bytes steps in
    omega (arith, length-append (record_bytes step) (records_bytes steps))

pub records_bytes-append : (xs ys : List Step) → records_bytes (xs ++ ys) ≡ records_bytes xs ++ records_bytes ys
records_bytes-append xs ys = flat_map-append record_bytes xs ys

-- The bytes of records with one more are those of the records, followed by those of the one.
pub records_bytes-more : (xs : List Step) (step : Step) (rest : List ℕ) →
    records_bytes (xs ++ step ∷ []) ++ rest ≡ records_bytes xs ++ (record_bytes step ++ rest)
records_bytes-more xs step rest =
    ap (λ (z : List ℕ). z ++ rest) (records_bytes-append xs (step ∷ []))
    ∙ append_assoc (records_bytes xs) (record_bytes step ++ []) rest
    ∙ ap (λ (z : List ℕ). records_bytes xs ++ (z ++ rest)) (append-nil (record_bytes step))

-- If a step has a record, so has each step of the list that is this step alone.
pub one_record : (k : ℕ) (step : Step) → HasRecord k step → HaveRecords k (step ∷ [])
one_record k step has = All-cons (HasRecord k) step [] has (All-nil (HasRecord k))

-- If the steps of two lists have records, so have those of one list followed by the other.
pub records_join : (k : ℕ) (xs ys : List Step) → HaveRecords k xs → HaveRecords k ys → HaveRecords k (xs ++ ys)
records_join k xs ys = All-append (HasRecord k) xs ys
