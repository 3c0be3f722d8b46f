-- From the parts of reading to the whole.
use Rattle.std.proofs.Common.{◌≡◌, ◌≢◌, ℕ, ◌+◌, ◌-◌, ◌*◌, ◌<◌, ◌≤◌, List, [], ◌∷◌, ◌++◌, length}
use Rattle.std.proofs.Common.{take, Option, refl, sym, ap, ◌∙◌, arith, inl, inr, length-append}
use Rattle.std.specs.Prelude.{◌==◌, if◌then◌else◌, slice_index}
use borrow.Rule.Slice.PartMut.{put_mid}
use Rattle.std.proofs.lemmas.List.{get_or_append_left, take_all, take_at}
use Rattle.std.proofs.lemmas.Slice.{take-put_mid}
use Rattle.std.specs.Io.KnownBytes.{Consumes, IsAtEnd}
use Rattle.std.proofs.KnownBytes.{Consumes-trans}
use Rattle.link.specs.Transfer.{ConsumesAtMost, ConsumesLess}
use Rattle.steps.specs.declared.step.Step.{Step}
use Rattle.trace_file.specs.declared.header.Header.{Header}
use Rattle.trace_file.specs.declared.error.TraceError.{TraceError}
use Rattle.trace_file.specs.declared.error.TraceError.TheVariants as error
use Rattle.trace_file.specs.Traces.{header_bytes, header_length, records_bytes, IsHeader}
use Rattle.trace_file.specs.Faults.{BeginsWith, IsRefused, header_size, most_trace_bytes}
use Rattle.trace_file.specs.Reading.{AddsRead, IsStopped, IsNoEnd, StopsAfter}
use Rattle.trace_file.proofs.Numbers.{length-header_bytes, length_within, size_stays, size_within}
use Rattle.trace_file.proofs.Records.{length-records_bytes}

-- If as many bytes were read as a header has, and they are no header's, the trace is refused for its header.
pub header_wrong : (a b : Option (List ℕ)) (bytes : List ℕ) → length bytes ≡ header_size bytes → Consumes a b bytes →
    ((h : Header) → IsHeader h → bytes ≢ header_bytes h) →
    IsRefused a b error.Header
header_wrong a b bytes size consumed none =
    let all : take (header_size bytes) bytes ≡ bytes = take_all (header_size bytes) bytes (omega arith) in
    let wrong : (h : Header) → IsHeader h → take (header_size bytes) bytes ≢ header_bytes h = λ h is same. none h is (sym all ∙ same) in
    (bytes, 0, consumed, inl (refl, (omega arith, wrong)), omega (arith, (size_within bytes).1))

-- If the bytes end before the number of the format, the trace is refused because they are cut short.
pub header_cut : (a b : Option (List ℕ)) (bytes : List ℕ) → length bytes < 5 → Consumes a b bytes → IsAtEnd b → IsRefused a b error.Truncated
header_cut a b bytes short consumed end = (bytes, 0, (consumed, end), inl (refl, omega (arith, (size_within bytes).0)))

-- If the bytes end after the number of the format but within the header, the trace is refused because they are cut
-- short.
pub header_cut_later : (a b c : Option (List ℕ)) (front rest : List ℕ) (size : ℕ) → length front ≡ 5 → length rest < size - 5 → size ≡ header_size front →
    Consumes a b front → Consumes b c rest → IsAtEnd c → IsRefused a c error.Truncated
header_cut_later a b c front rest size five short is first second end = (
  front ++ rest,
  0,
  (Consumes-trans a b c front rest first second, end),
  inl (refl, omega (arith, length-append front rest, size_stays front rest (omega arith))),
)

-- The number of the format is read from the start of the buffer.
pub format_read : (front behind : List ℕ) (size : ℕ) → length front ≡ 5 → size ≡ (if slice_index (front ++ behind) 4 == 2 then 16 else 12) →
    size ≡ header_size front
unfolding header_size
format_read front behind size five is = is ∙ ap (λ (x : ℕ). if x == 2 then 16 else 12) (get_or_append_left front behind 0 4 (omega arith))

-- After both parts are read, the buffer begins with both.
pub header_filled : (front behind rest : List ℕ) (size : ℕ) → length front ≡ 5 → length rest ≡ size - 5 → 5 ≤ size →
    take size (put_mid 5 (size - 5) (front ++ behind) rest) ≡ front ++ rest
header_filled front behind rest size five lengths least =
    take-put_mid 5 (size - 5) (front ++ behind) rest size (omega arith) (omega (arith, length-append front behind))
    ∙ ap (λ (x : List ℕ). x ++ rest) (take_at front behind 5 five)

-- If the link fails after the number of the format, the trace is refused for that.
pub header_failed : (a b c : Option (List ℕ)) (front : List ℕ) (size : ℕ) → length front ≤ 16 → Consumes a b front → size ≤ 16 → ConsumesLess size b c →
    IsRefused a c error.Link
header_failed a b c front size few first most (rest, less, second) =
    (front ++ rest, omega (arith, length-append front rest), Consumes-trans a b c front rest first second)

module _ (h : Header) (header : IsHeader h) where
  begins : (steps : List Step) (rest : List ℕ) (fault : TraceError) → StopsAfter h.k h.count steps rest fault →
      BeginsWith h steps rest (header_bytes h ++ (records_bytes steps ++ rest))
  begins steps rest fault stops = record { header = header; records = stops.records; few = omega (arith, stops.few); spelled = refl }

  length-spelled : (steps : List Step) (rest : List ℕ) →
      length (header_bytes h ++ (records_bytes steps ++ rest)) ≡ header_length h + 12 * length steps + length rest
  length-spelled steps rest =
      omega (
        arith,
        length-append (header_bytes h) (records_bytes steps ++ rest),
        length-append (records_bytes steps) rest,
        length-header_bytes h,
        length-records_bytes steps,
      )

  -- If a header was read, and then at most the bytes of its records, then at most the bytes of the longest trace were
  -- read.
  body_stopped : (a b c : Option (List ℕ)) → Consumes a b (header_bytes h) → ConsumesAtMost (12 * h.count) b c → ConsumesAtMost most_trace_bytes a c
  body_stopped a b c before (bytes, few, consumed) = (
    header_bytes h ++ bytes,
    omega (arith, length-append (header_bytes h) bytes, length-header_bytes h, (length_within h).1, few, header.count),
    Consumes-trans a b c _ _ before consumed,
  )

  -- If a header was read, and reading its records stops with a fault, the trace is refused with that fault.
  pub body_refused : (a b c : Option (List ℕ)) (fault : TraceError) → Consumes a b (header_bytes h) → IsStopped 4092 h.k h.count b c fault → IsRefused a c fault
  body_refused a b c error.Link before stopped = body_stopped a b c before stopped
  body_refused a b c error.Memory before stopped = body_stopped a b c before stopped
  body_refused a b c error.Header before stopped = absurd stopped
  body_refused a b c error.Trailing before stopped = absurd stopped
  body_refused a b c error.Truncated before (steps, rest, consumed, stops) = (
    header_bytes h ++ (records_bytes steps ++ rest),
    header_length h + 12 * length steps,
    (Consumes-trans a b c _ _ before consumed.0, consumed.1),
    inr (h, steps, rest, begins steps rest error.Truncated stops, refl, inl (stops.few, stops.wrong)),
  )
  body_refused a b c error.Record before (steps, rest, consumed, stops, bound) = (
    header_bytes h ++ (records_bytes steps ++ rest),
    header_length h + 12 * length steps,
    Consumes-trans a b c _ _ before consumed,
    inr (h, steps, rest, begins steps rest error.Record stops, refl, inl (stops.few, stops.wrong)),
    omega (arith, length-spelled steps rest),
  )

  -- If a header and all its records were read, and there is no end after them, the trace is refused with that fault.
  pub end_refused : (steps : List Step) (a b c d : Option (List ℕ)) (fault : TraceError) → Consumes a b (header_bytes h) → AddsRead h.k h.count [] steps b c →
      IsNoEnd c d fault → IsRefused a d fault
  end_refused steps a b c d error.Link before adds (bytes, none, consumed) =
      let whole = adds.whole in
      let records = length-records_bytes adds.added in
      body_stopped a b d before
      (records_bytes adds.added ++ bytes, omega (arith, length-append (records_bytes adds.added) bytes), Consumes-trans b c d _ _ adds.consumed consumed)
  end_refused steps a b c d error.Memory before adds behind = absurd behind
  end_refused steps a b c d error.Header before adds behind = absurd behind
  end_refused steps a b c d error.Record before adds behind = absurd behind
  end_refused steps a b c d error.Truncated before adds behind = absurd behind
  end_refused steps a b c d error.Trailing before adds (byte, consumed) =
      let whole = adds.whole in
      let all : BeginsWith h adds.added (byte ∷ []) (header_bytes h ++ (records_bytes adds.added ++ byte ∷ [])) =
      record { header = header; records = adds.records; few = omega arith; spelled = refl } in (
        header_bytes h ++ (records_bytes adds.added ++ byte ∷ []),
        header_length h + 12 * length adds.added,
        Consumes-trans a b d _ _ before (Consumes-trans b c d _ _ adds.consumed consumed),
        inr (h, adds.added, byte ∷ [], all, refl, inr (whole, omega arith, refl)),
        omega (arith, length-spelled adds.added (byte ∷ [])),
      )
