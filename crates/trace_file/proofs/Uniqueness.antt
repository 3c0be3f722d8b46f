-- Bytes spell at most one trace.
use Rattle.std.proofs.Common.{◌≡◌, ℕ, List, [], ◌∷◌, ◌++◌, length, take, drop, Some, sym, ap, subst, refl, ◌∙◌, arith, append_assoc}
use Rattle.std.proofs.lemmas.List.{take_at, drop_at}
use Rattle.std.proofs.lemmas.List.Elements.{All-head, All-tail}
use Rattle.steps.specs.declared.step.Step.{Step}
use Rattle.trace_file.specs.declared.header.Header.{Header}
use Rattle.trace_file.specs.Records.{fields_of, record_bytes, named_step, HasRecord}
use Rattle.trace_file.specs.Traces.{TraceContents, header_of, header_bytes, header_length, records_bytes, trace_bytes, IsHeader, IsTrace, HaveRecords}
use Rattle.trace_file.specs.Faults.{header_size}
use Rattle.trace_file.specs.Reading.{fields_in, header_in}
use Rattle.trace_file.proofs.Numbers.{fields_in-field_bytes, header_in-header_bytes, length-header_bytes, size_is}
use Rattle.trace_file.proofs.Named.{named_step-fields_of, fields_fit}
use Rattle.trace_file.proofs.Records.{length-field_bytes}

-- If two lists are equal, so are their parts, if both are cut at the same place.
pub same_parts : (n : ℕ) (xs us ys vs : List ℕ) → length xs ≡ n → length ys ≡ n → xs ++ us ≡ ys ++ vs → (xs ≡ ys) × (us ≡ vs)
same_parts n xs us ys vs p q e =
    (sym (take_at xs us n p) ∙ ap (take n) e ∙ take_at ys vs n q, sym (drop_at xs us n p) ∙ ap (drop n) e ∙ drop_at ys vs n q)

-- Steps with the same record are the same.
pub same_step : (k : ℕ) (s t : Step) → HasRecord k s → HasRecord k t → record_bytes s ≡ record_bytes t → s ≡ t
same_step k s t p q e =
    let u = fields_fit k s p in
    let v = fields_fit k t q in
    let fields : fields_of s ≡ fields_of t = sym (fields_in-field_bytes (fields_of s) u.0 u.1) ∙ ap fields_in e ∙ fields_in-field_bytes (fields_of t) v.0 v.1 in
    let named : Some s ≡ Some t = sym (named_step-fields_of k s p) ∙ ap named_step fields ∙ named_step-fields_of k t q in
    cc

pub same_header : (h g : Header) → IsHeader h → IsHeader g → header_bytes h ≡ header_bytes g → h ≡ g
same_header h g p q e =
    let few = p.count in
    let fewer = q.count in
    sym (header_in-header_bytes h (omega arith)) ∙ ap header_in e ∙ header_in-header_bytes g (omega arith)

-- If two lists of steps begin the same bytes, their first steps are the same, and what follows these.
pub same_first : (k : ℕ) (s t : Step) (ss ts : List Step) (us vs : List ℕ) → HaveRecords k (s ∷ ss) → HaveRecords k (t ∷ ts) →
    records_bytes (s ∷ ss) ++ us ≡ records_bytes (t ∷ ts) ++ vs →
    (s ≡ t) × (records_bytes ss ++ us ≡ records_bytes ts ++ vs)
same_first k s t ss ts us vs p q e =
    let whole = sym (append_assoc (record_bytes s) (records_bytes ss) us) ∙ e ∙ append_assoc (record_bytes t) (records_bytes ts) vs in
    let parts = same_parts 12 (record_bytes s) (records_bytes ss ++ us) (record_bytes t) (records_bytes ts ++ vs) (length-field_bytes (fields_of s))
    (length-field_bytes (fields_of t)) whole in
    (same_step k s t (All-head (HasRecord k) s ss p) (All-head (HasRecord k) t ts q) parts.0, parts.1)

-- If two lists of equally many steps begin the same bytes, they are the same, and what follows them.
pub same_steps : (k : ℕ) (ss ts : List Step) (us vs : List ℕ) → HaveRecords k ss → HaveRecords k ts → length ss ≡ length ts →
    records_bytes ss ++ us ≡ records_bytes ts ++ vs → (ss ≡ ts) × (us ≡ vs)
same_steps k [] [] us vs p q n e = (refl, e)
same_steps k [] (t ∷ ts) us vs p q n e = absurd (omega arith)
same_steps k (s ∷ ss) [] us vs p q n e = absurd (omega arith)
same_steps k (s ∷ ss) (t ∷ ts) us vs p q n e =
    let first = same_first k s t ss ts us vs p q e in
    let others = same_steps k ss ts us vs (All-tail (HasRecord k) s ss p) (All-tail (HasRecord k) t ts q) (omega arith) first.1 in
    (ap (λ (x : Step). x ∷ ss) first.0 ∙ ap (λ (xs : List Step). t ∷ xs) others.0, others.1)

-- If two headers begin the same bytes, they are the same, and what follows them.
pub same_headers : (h g : Header) (us vs : List ℕ) → IsHeader h → IsHeader g → header_bytes h ++ us ≡ header_bytes g ++ vs → (h ≡ g) × (us ≡ vs)
same_headers h g us vs p q e =
    let lengths = sym (size_is h us) ∙ ap header_size e ∙ size_is g vs in
    let parts = same_parts (header_length h) (header_bytes h) us (header_bytes g) vs (length-header_bytes h) (length-header_bytes g ∙ sym lengths) e in
    (same_header h g p q parts.0, parts.1)

same_contents : (t u : TraceContents) → header_of t ≡ header_of u → t.steps ≡ u.steps → t ≡ u
same_contents t u same steps = λ i. record { k = (same i).k; c = (same i).c; b = (same i).b; r = (same i).r; steps = steps i }

-- Two traces with the same bytes are the same.
pub one_trace : (t u : TraceContents) → IsTrace t → IsTrace u → trace_bytes t ≡ trace_bytes u → t ≡ u
one_trace t u p q e =
    let parts = same_headers (header_of t) (header_of u) (records_bytes t.steps) (records_bytes u.steps) p.header q.header e in
    let header = parts.0 in
    let k : t.k ≡ u.k = ap (λ (h : Header). h.k) header in
    let records = subst (λ (n : ℕ). HaveRecords n u.steps) (sym k) q.records in
    let all : records_bytes t.steps ++ [] ≡ records_bytes u.steps ++ [] = ap (λ (x : List ℕ). x ++ []) parts.1 in
    let steps = same_steps t.k t.steps u.steps [] [] p.records records (ap (λ (h : Header). h.count) header) all in
    same_contents t u header steps.0
