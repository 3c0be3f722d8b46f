-- Bytes have at most one fault, and none if they spell a trace. Bytes that follow do not mend a fault.
use Rattle.std.proofs.Common.{◌≡◌, ◌≢◌, ◌⊎◌, ℕ, ◌+◌, ◌*◌, ◌<◌, ◌≤◌, List, [], ◌∷◌, ◌++◌, length, take, sym, ap}
use Rattle.std.proofs.Common.{subst, refl, ◌∙◌, arith, inl, inr, append_assoc, append-nil, length-append}
use Rattle.std.proofs.lemmas.List.{take_at, take-append-le}
use Rattle.std.proofs.lemmas.List.Elements.{All-head, All-tail}
use Rattle.steps.specs.declared.step.Step.{Step}
use Rattle.trace_file.specs.declared.header.Header.{Header}
use Rattle.trace_file.specs.declared.error.TraceError.{TraceError}
use Rattle.trace_file.specs.declared.error.TraceError.TheVariants as error
use Rattle.trace_file.specs.Records.{fields_of, record_bytes, HasRecord}
use Rattle.trace_file.specs.Traces.{TraceContents, header_of, header_bytes, header_length, records_bytes, HaveRecords}
use Rattle.trace_file.specs.Faults.{BeginsWith, HeaderFault, RecordFault, BodyFault, FaultAt, header_size}
use Rattle.trace_file.specs.Laws.{Spells}
use Rattle.trace_file.proofs.Numbers.{length-header_bytes, size_is, size_stays, size_within}
use Rattle.trace_file.proofs.Records.{length-field_bytes}
use Rattle.trace_file.proofs.Uniqueness.{same_headers, same_first, same_steps}

-- ---- each fault by itself

header_kind : (bytes : List ℕ) (f : TraceError) → HeaderFault bytes f →
    ((f ≡ error.Truncated) × (length bytes < header_size bytes)) ⊎ ((f ≡ error.Header) × (header_size bytes ≤ length bytes))
header_kind bytes error.Truncated h = inl (refl, h)
header_kind bytes error.Header h = inr (refl, h.0)
header_kind bytes error.Record h = absurd h
header_kind bytes error.Trailing h = absurd h
header_kind bytes error.Link h = absurd h
header_kind bytes error.Memory h = absurd h

header_once : (bytes : List ℕ) (f g : TraceError) → HeaderFault bytes f → HeaderFault bytes g → f ≡ g
header_once bytes f g p q = elim (header_kind bytes f p) [
  | inl a ↦ elim (header_kind bytes g q) [ inl b ↦ a.0 ∙ sym b.0 | inr b ↦ absurd (omega (arith, a.1, b.1)) ]
  | inr a ↦ elim (header_kind bytes g q) [ inl b ↦ absurd (omega (arith, a.1, b.1)) | inr b ↦ a.0 ∙ sym b.0 ]
]

record_kind : (k : ℕ) (rest : List ℕ) (f : TraceError) → RecordFault k rest f →
    ((f ≡ error.Truncated) × (length rest < 12)) ⊎ ((f ≡ error.Record) × (12 ≤ length rest))
record_kind k rest error.Truncated h = inl (refl, h)
record_kind k rest error.Record h = inr (refl, h.0)
record_kind k rest error.Header h = absurd h
record_kind k rest error.Trailing h = absurd h
record_kind k rest error.Link h = absurd h
record_kind k rest error.Memory h = absurd h

record_once : (k : ℕ) (rest : List ℕ) (f g : TraceError) → RecordFault k rest f → RecordFault k rest g → f ≡ g
record_once k rest f g p q = elim (record_kind k rest f p) [
  | inl a ↦ elim (record_kind k rest g q) [ inl b ↦ a.0 ∙ sym b.0 | inr b ↦ absurd (omega (arith, a.1, b.1)) ]
  | inr a ↦ elim (record_kind k rest g q) [ inl b ↦ absurd (omega (arith, a.1, b.1)) | inr b ↦ a.0 ∙ sym b.0 ]
]

-- If a record is wrong, the bytes begin with no record.
no_first : (k : ℕ) (rest behind : List ℕ) (step : Step) (f : TraceError) → HasRecord k step → rest ≡ record_bytes step ++ behind → RecordFault k rest f → ⊥
no_first k rest behind step error.Truncated has e h =
    let size = length-field_bytes (fields_of step) in
    omega (arith, ap length e, length-append (record_bytes step) behind)
no_first k rest behind step error.Record has e h = h.1 step has (ap (take 12) e ∙ take_at (record_bytes step) behind 12 (length-field_bytes (fields_of step)))
no_first k rest behind step error.Header has e h = h
no_first k rest behind step error.Trailing has e h = h
no_first k rest behind step error.Link has e h = h
no_first k rest behind step error.Memory has e h = h

-- The records of steps do not go past a record that is wrong.
no_more : (k : ℕ) (ss ts : List Step) (us vs : List ℕ) (f : TraceError) → HaveRecords k ss → HaveRecords k ts →
    records_bytes ss ++ us ≡ records_bytes ts ++ vs → RecordFault k us f → length ts ≤ length ss
no_more k [] [] us vs f p q e h = omega arith
no_more k [] (t ∷ ts) us vs f p q e h =
    absurd (no_first k us (records_bytes ts ++ vs) t f (All-head (HasRecord k) t ts q) (e ∙ append_assoc (record_bytes t) (records_bytes ts) vs) h)
no_more k (s ∷ ss) [] us vs f p q e h = omega arith
no_more k (s ∷ ss) (t ∷ ts) us vs f p q e h =
    let first = same_first k s t ss ts us vs p q e in
    let others = no_more k ss ts us vs f (All-tail (HasRecord k) s ss p) (All-tail (HasRecord k) t ts q) first.1 h in
    omega (arith, others)

-- ---- two faults

begins_header : (h : Header) (steps : List Step) (rest bytes : List ℕ) → BeginsWith h steps rest bytes →
    (header_size bytes ≤ length bytes) × (take (header_size bytes) bytes ≡ header_bytes h)
begins_header h steps rest bytes b =
    let length_is = length-header_bytes h in
    let size : header_size bytes ≡ header_length h = ap header_size b.spelled ∙ size_is h (records_bytes steps ++ rest) in (
      omega (arith, ap length b.spelled, length-append (header_bytes h) (records_bytes steps ++ rest)),
      ap (λ n. take n bytes) size ∙ ap (take (header_length h)) b.spelled
          ∙ take_at (header_bytes h) (records_bytes steps ++ rest) (header_length h) length_is,
    )

no_header_fault : (h : Header) (steps : List Step) (rest bytes : List ℕ) (f : TraceError) → BeginsWith h steps rest bytes → HeaderFault bytes f → ⊥
no_header_fault h steps rest bytes error.Truncated b fault = omega (arith, (begins_header h steps rest bytes b).0)
no_header_fault h steps rest bytes error.Header b fault = fault.1 h b.header (begins_header h steps rest bytes b).1
no_header_fault h steps rest bytes error.Record b fault = fault
no_header_fault h steps rest bytes error.Trailing b fault = fault
no_header_fault h steps rest bytes error.Link b fault = fault
no_header_fault h steps rest bytes error.Memory b fault = fault

same_beginning : (h g : Header) (ss ts : List Step) (us vs bytes : List ℕ) → BeginsWith h ss us bytes → BeginsWith g ts vs bytes →
    (h ≡ g) × (records_bytes ss ++ us ≡ records_bytes ts ++ vs)
same_beginning h g ss ts us vs bytes a b =
    same_headers h g (records_bytes ss ++ us) (records_bytes ts ++ vs) a.header b.header (sym a.spelled ∙ b.spelled)

body_once : (h : Header) (ss ts : List Step) (us vs : List ℕ) (f g : TraceError) → HaveRecords h.k ss → HaveRecords h.k ts →
    records_bytes ss ++ us ≡ records_bytes ts ++ vs → BodyFault h ss us f → BodyFault h ts vs g →
    (length ss ≡ length ts) × (f ≡ g)
body_once h ss ts us vs f g p q e a b = elim a [
  | inl x ↦ elim b [
    | inl y ↦
        let below = no_more h.k ss ts us vs f p q e x.1 in
        let above = no_more h.k ts ss vs us g q p (sym e) y.1 in
        let size : length ss ≡ length ts = omega arith in
        let rest = (same_steps h.k ss ts us vs p q size e).1 in
        (size, record_once h.k us f g x.1 (subst (λ (z : List ℕ). RecordFault h.k z g) (sym rest) y.1))
    | inr y ↦ absurd (omega (arith, no_more h.k ss ts us vs f p q e x.1, x.0, y.0))
  ]
  | inr x ↦ elim b [
    | inl y ↦ absurd (omega (arith, no_more h.k ts ss vs us g q p (sym e) y.1, x.0, y.0))
    | inr y ↦ (x.0 ∙ sym y.0, x.2 ∙ sym y.2)
  ]
]

-- Two faults of the same bytes are the same, at the same place.
pub one_fault : (bytes : List ℕ) (m n : ℕ) (f g : TraceError) → FaultAt m bytes f → FaultAt n bytes g → (m ≡ n) × (f ≡ g)
one_fault bytes m n f g p q = elim p [
  | inl a ↦ elim q [
    | inl b ↦ (a.0 ∙ sym b.0, header_once bytes f g a.1 b.1)
    | inr b ↦ absurd (no_header_fault b.0 b.1 b.2 bytes f b.3 a.1)
  ]
  | inr a ↦ elim q [
    | inl b ↦ absurd (no_header_fault a.0 a.1 a.2 bytes g a.3 b.1)
    | inr b ↦
        let same = same_beginning a.0 b.0 a.1 b.1 a.2 b.2 bytes a.3 b.3 in
        let records = subst (λ (h : Header). HaveRecords h.k b.1) (sym same.0) b.3.records in
        let body = subst (λ (h : Header). BodyFault h b.1 b.2 g) (sym same.0) b.5 in
        let once = body_once a.0 a.1 b.1 a.2 b.2 f g a.3.records records same.1 a.5 body in
        let size = once.0 in
        (a.4 ∙ (λ i. header_length (same.0 i) + 12 * size i) ∙ sym b.4, once.1)
  ]
]

-- ---- a fault, and a trace

trace_begins : (bytes : List ℕ) (t : TraceContents) → Spells bytes t → BeginsWith (header_of t) t.steps [] bytes
trace_begins bytes t s = record {
  header = s.0.header;
  records = s.0.records;
  few = omega arith;
  spelled = sym s.1 ∙ ap (λ (x : List ℕ). header_bytes (header_of t) ++ x) (sym (append-nil (records_bytes t.steps)));
}

no_body_fault : (h : Header) (ss ts : List Step) (us : List ℕ) (f : TraceError) → HaveRecords h.k ss → HaveRecords h.k ts → length ts ≡ h.count →
    records_bytes ss ++ us ≡ records_bytes ts ++ [] → BodyFault h ss us f → ⊥
no_body_fault h ss ts us f p q whole e fault = elim fault [
  | inl x ↦ omega (arith, no_more h.k ss ts us [] f p q e x.1, x.0)
  | inr x ↦ omega (arith, ap length (same_steps h.k ss ts us [] p q (x.0 ∙ sym whole) e).1, x.1)
]

-- Bytes that spell a trace have no fault.
pub no_fault : (bytes : List ℕ) (t : TraceContents) (n : ℕ) (f : TraceError) → Spells bytes t → FaultAt n bytes f → ⊥
no_fault bytes t n f s p =
    let begins = trace_begins bytes t s in
    elim p [
      | inl a ↦ no_header_fault (header_of t) t.steps [] bytes f begins a.1
      | inr a ↦
          let same = same_beginning a.0 (header_of t) a.1 t.steps a.2 [] bytes a.3 begins in
          let records = subst (λ (h : Header). HaveRecords h.k t.steps) (sym same.0) begins.records in
          no_body_fault a.0 a.1 t.steps a.2 f a.3.records records (ap (λ (h : Header). h.count) (sym same.0)) same.1 a.5
    ]

-- ---- what follows a fault

header_stays : (bytes more : List ℕ) (f : TraceError) → f ≢ error.Truncated → HeaderFault bytes f → HeaderFault (bytes ++ more) f
header_stays bytes more error.Truncated other h = absurd (other refl)
header_stays bytes more error.Header other h =
    let long = h.0 in
    let size = size_stays bytes more (omega (arith, (size_within bytes).0)) in
    let front = ap (λ n. take n (bytes ++ more)) size ∙ take-append-le (header_size bytes) bytes more h.0 in
    (omega (arith, length-append bytes more), λ g is same. h.1 g is (sym front ∙ same))
header_stays bytes more error.Record other h = absurd h
header_stays bytes more error.Trailing other h = absurd h
header_stays bytes more error.Link other h = absurd h
header_stays bytes more error.Memory other h = absurd h

record_stays : (k : ℕ) (rest more : List ℕ) (f : TraceError) → f ≢ error.Truncated → RecordFault k rest f → RecordFault k (rest ++ more) f
record_stays k rest more error.Truncated other h = absurd (other refl)
record_stays k rest more error.Record other h =
    let front = take-append-le 12 rest more h.0 in
    let long = h.0 in
    (omega (arith, length-append rest more), λ step has same. h.1 step has (sym front ∙ same))
record_stays k rest more error.Header other h = absurd h
record_stays k rest more error.Trailing other h = absurd h
record_stays k rest more error.Link other h = absurd h
record_stays k rest more error.Memory other h = absurd h

begins_stays : (h : Header) (steps : List Step) (rest bytes more : List ℕ) → BeginsWith h steps rest bytes → BeginsWith h steps (rest ++ more) (bytes ++ more)
begins_stays h steps rest bytes more b = record {
  header = b.header;
  records = b.records;
  few = b.few;
  spelled =
      ap (λ (x : List ℕ). x ++ more) b.spelled
      ∙ append_assoc (header_bytes h) (records_bytes steps ++ rest) more
      ∙ ap (λ (x : List ℕ). header_bytes h ++ x) (append_assoc (records_bytes steps) rest more);
}

body_stays : (h : Header) (steps : List Step) (rest more : List ℕ) (f : TraceError) → f ≢ error.Truncated → BodyFault h steps rest f →
    BodyFault h steps (rest ++ more) f
body_stays h steps rest more f other body = elim body [
  | inl x ↦ inl (x.0, record_stays h.k rest more f other x.1)
  | inr x ↦ inr (x.0, omega (arith, length-append rest more, x.1), x.2)
]

-- A fault stays at its place if more bytes follow, unless it is that the bytes are cut short.
pub fault_stays : (bytes more : List ℕ) (n : ℕ) (f : TraceError) → f ≢ error.Truncated → FaultAt n bytes f → FaultAt n (bytes ++ more) f
fault_stays bytes more n f other p = elim p [
  | inl a ↦ inl (a.0, header_stays bytes more f other a.1)
  | inr a ↦ inr (a.0, a.1, a.2 ++ more, begins_stays a.0 a.1 a.2 bytes more a.3, a.4, body_stays a.0 a.1 a.2 more f other a.5)
]
