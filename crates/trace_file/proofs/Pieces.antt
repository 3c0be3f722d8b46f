-- What reading a piece adds, and why it stops.
use Rattle.std.proofs.Common.{◌≡◌, ◌≢◌, ℕ, ◌+◌, ◌*◌, ◌/◌, ◌%◌, ◌<◌, ◌≤◌, List, [], ◌∷◌, ◌++◌, length, take}
use Rattle.std.proofs.Common.{Option, sym, ap, subst, ◌∙◌, arith, append_assoc, append-nil, length-append}
use Rattle.std.proofs.lemmas.List.{nil_from_length, length-take-le}
use Rattle.std.specs.Io.KnownBytes.{Consumes, IsAtEnd}
use Rattle.std.proofs.KnownBytes.{Consumes-trans}
use Rattle.link.specs.Transfer.{ConsumesAtMost}
use Rattle.steps.specs.declared.step.Step.{Step}
use Rattle.trace_file.specs.declared.error.TraceError.{TraceError}
use Rattle.trace_file.specs.declared.error.TraceError.TheVariants as error
use Rattle.trace_file.specs.Records.{fields_of, record_bytes, HasRecord}
use Rattle.trace_file.specs.Traces.{records_bytes}
use Rattle.trace_file.specs.Reading.{fields_in, Adds, AddsRead, IsNotAdded, IsStopped, StopsAfter}
use Rattle.trace_file.proofs.Numbers.{fields_in-field_bytes}
use Rattle.trace_file.proofs.Named.{fields_fit}
use Rattle.trace_file.proofs.Records.{length-records_bytes, records_bytes-append, records_bytes-more, one_record, records_join}

-- ---- the records of a piece, one by one

-- If the rest of a piece begins with the record of a step, and this step is appended, it is added too.
pub adds_more : (k : ℕ) (old new more : List Step) (piece rest bytes behind : List ℕ) (step : Step) → Adds k old new piece rest → rest ≡ bytes ++ behind →
    record_bytes step ≡ bytes → HasRecord k step →
    more ≡ new ++ step ∷ [] → Adds k old more piece behind
adds_more k old new more piece rest bytes behind step before parts same has grown = record {
  added = before.added ++ step ∷ [];
  grown = grown ∙ ap (λ (x : List Step). x ++ step ∷ []) before.grown ∙ append_assoc old before.added (step ∷ []);
  records = records_join k before.added (step ∷ []) before.records (one_record k step has);
  spelled = before.spelled ∙ ap (λ (x : List ℕ). records_bytes before.added ++ x) (parts ∙ ap (λ (x : List ℕ). x ++ behind) (sym same))
      ∙ sym (records_bytes-more before.added step behind);
}

-- Bytes that are the fields of no step are the record of no step.
pub no_record : (k : ℕ) (bytes : List ℕ) → ((step : Step) → HasRecord k step → fields_of step ≢ fields_in bytes) → (step : Step) → HasRecord k step →
    bytes ≢ record_bytes step
no_record k bytes none step has same =
    let fit = fields_fit k step has in
    none step has (sym (ap fields_in same ∙ fields_in-field_bytes (fields_of step) fit.0 fit.1))

-- ---- a piece

-- If a piece of n bytes was read whole, and all its whole records were added, n / 12 records were read.
pub piece_whole : (k : ℕ) (old new : List Step) (a b : Option (List ℕ)) (bytes rest : List ℕ) (n : ℕ) → length bytes ≡ n → n % 12 ≡ 0 → length rest < 12 →
    Adds k old new bytes rest → Consumes a b bytes →
    AddsRead k (n / 12) old new a b
piece_whole k old new a b bytes rest n size whole short adds consumed =
    let count = length-records_bytes adds.added in
    let lengths : length bytes ≡ 12 * length adds.added + length rest = ap length adds.spelled ∙ omega (arith, length-append (records_bytes adds.added) rest) in
    let none : length rest ≡ 0 = omega arith in
    let spelled : bytes ≡ records_bytes adds.added =
    adds.spelled ∙ ap (λ (x : List ℕ). records_bytes adds.added ++ x) (nil_from_length rest none) ∙ append-nil (records_bytes adds.added) in
    record { added = adds.added; grown = adds.grown; records = adds.records; whole = omega arith; consumed = subst (Consumes a b) spelled consumed }

-- If the bytes end before a piece of n bytes is full, reading n / 12 records stops: they are cut short.
pub piece_short : (k : ℕ) (old new : List Step) (a b : Option (List ℕ)) (bytes rest : List ℕ) (n : ℕ) → length bytes < n → n % 12 ≡ 0 → length rest < 12 →
    Adds k old new bytes rest → Consumes a b bytes → IsAtEnd b →
    IsStopped 4092 k (n / 12) a b error.Truncated
piece_short k old new a b bytes rest n size whole short adds consumed end =
    let count = length-records_bytes adds.added in
    let lengths : length bytes ≡ 12 * length adds.added + length rest = ap length adds.spelled ∙ omega (arith, length-append (records_bytes adds.added) rest) in
    (adds.added, rest, (subst (Consumes a b) adds.spelled consumed, end), record { records = adds.records; few = omega arith; wrong = short })

-- If the records of a piece of at most n bytes were not all added, reading n / 12 records stops with that fault.
pub piece_wrong : (k : ℕ) (a b : Option (List ℕ)) (bytes : List ℕ) (n : ℕ) (fault : TraceError) → length bytes ≤ n → n % 12 ≡ 0 → n ≤ 4092 →
    IsNotAdded k bytes fault → Consumes a b bytes →
    IsStopped 4092 k (n / 12) a b fault
piece_wrong k a b bytes n error.Memory size whole fits wrong consumed = (bytes, omega arith, consumed)
piece_wrong k a b bytes n error.Record size whole fits (steps, rest, records, spelled, wrong) consumed =
    let count = length-records_bytes steps in
    let lengths : length bytes ≡ 12 * length steps + length rest = ap length spelled ∙ omega (arith, length-append (records_bytes steps) rest) in
    let long = wrong.0 in
    (steps, rest, subst (Consumes a b) spelled consumed, record { records = records; few = omega arith; wrong = wrong }, omega arith)
piece_wrong k a b bytes n error.Truncated size whole fits wrong consumed = absurd wrong
piece_wrong k a b bytes n error.Header size whole fits wrong consumed = absurd wrong
piece_wrong k a b bytes n error.Trailing size whole fits wrong consumed = absurd wrong
piece_wrong k a b bytes n error.Link size whole fits wrong consumed = absurd wrong

-- ---- pieces in a row

-- The number of records for which a piece has room.
pub piece_count : (piece : List ℕ) (count : ℕ) → length piece ≡ 4092 → count ≤ 341 → length (take (12 * count) piece) / 12 ≡ count
piece_count piece count size few =
    let long : length (take (12 * count) piece) ≡ 12 * count = length-take-le (12 * count) piece (omega arith) in
    omega arith

-- If m records were read and then n more, m + n records were read.
pub read_more : (k m n count : ℕ) (old mid new : List Step) (a b c : Option (List ℕ)) → m + n ≡ count → AddsRead k m old mid a b → AddsRead k n mid new b c →
    AddsRead k count old new a c
read_more k m n count old mid new a b c sum p q = record {
  added = p.added ++ q.added;
  grown = q.grown ∙ ap (λ (x : List Step). x ++ q.added) p.grown ∙ append_assoc old p.added q.added;
  records = records_join k p.added q.added p.records q.records;
  whole = omega (arith, length-append p.added q.added, p.whole, q.whole);
  consumed = subst (Consumes a c) (sym (records_bytes-append p.added q.added)) (Consumes-trans a b c _ _ p.consumed q.consumed);
}

-- Records that were read, and then more records with a rest, are all of them with that rest.
joined : (k m : ℕ) (old mid : List Step) (a b c : Option (List ℕ)) (steps : List Step) (rest : List ℕ) → (p : AddsRead k m old mid a b) →
    Consumes b c (records_bytes steps ++ rest) → Consumes a c (records_bytes (p.added ++ steps) ++ rest)
joined k m old mid a b c steps rest p consumed =
    subst (Consumes a c)
    (sym (ap (λ (x : List ℕ). x ++ rest) (records_bytes-append p.added steps) ∙ append_assoc (records_bytes p.added) (records_bytes steps) rest))
    (Consumes-trans a b c _ _ p.consumed consumed)

stops_later : (k m n count : ℕ) (old mid : List Step) (a b : Option (List ℕ)) (steps : List Step) (rest : List ℕ) (fault : TraceError) → m + n ≤ count →
    (p : AddsRead k m old mid a b) → StopsAfter k n steps rest fault →
    StopsAfter k count (p.added ++ steps) rest fault
stops_later k m n count old mid a b steps rest fault sum p stops = record {
  records = records_join k p.added steps p.records stops.records;
  few = omega (arith, length-append p.added steps, p.whole, stops.few);
  wrong = stops.wrong;
}

-- After m records, reading at most the bytes of n more reads at most the bytes of all of them.
further : (k m n count : ℕ) (old mid : List Step) (a b c : Option (List ℕ)) → m + n ≤ count → AddsRead k m old mid a b → ConsumesAtMost (12 * n) b c →
    ConsumesAtMost (12 * count) a c
further k m n count old mid a b c sum p (bytes, few, consumed) =
    let whole = p.whole in
    let records = length-records_bytes p.added in
    (records_bytes p.added ++ bytes, omega (arith, length-append (records_bytes p.added) bytes, few), Consumes-trans a b c _ _ p.consumed consumed)

-- If m records were read, and reading n more stops with a fault, so does reading m + n records or more.
pub stopped_later : (k m n count : ℕ) (old mid : List Step) (a b c : Option (List ℕ)) (fault : TraceError) → m + n ≤ count → AddsRead k m old mid a b →
    IsStopped 4092 k n b c fault → IsStopped 4092 k count a c fault
stopped_later k m n count old mid a b c error.Link sum p q = further k m n count old mid a b c sum p q
stopped_later k m n count old mid a b c error.Memory sum p q = further k m n count old mid a b c sum p q
stopped_later k m n count old mid a b c error.Header sum p q = absurd q
stopped_later k m n count old mid a b c error.Trailing sum p q = absurd q
stopped_later k m n count old mid a b c error.Truncated sum p (steps, rest, consumed, stops) = (
  p.added ++ steps,
  rest,
  (joined k m old mid a b c steps rest p consumed.0, consumed.1),
  stops_later k m n count old mid a b steps rest error.Truncated sum p stops,
)
stopped_later k m n count old mid a b c error.Record sum p (steps, rest, consumed, stops, bound) =
    (p.added ++ steps, rest, joined k m old mid a b c steps rest p consumed, stops_later k m n count old mid a b steps rest error.Record sum p stops, bound)
