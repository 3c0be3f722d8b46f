use Rattle.std.proofs.Common.{◌≡◌, ◌≤◌, ℕ, List, length, nat_eq, true, sym, ap, subst, ◌∙◌, arith}
use Rattle.std.specs.Cmp.Lexicographic.{pointwise}
use Rattle.std.proofs.lemmas.Cmp.{nat_list_eq_equiv}
use Rattle.trace_file.specs.Traces.{header_bytes, IsHeader}
use Rattle.trace_file.specs.Reading.{header_in}
use Rattle.trace_file.proofs.Numbers.{header_in-header_bytes, long_format, size_within}
use Rattle.trace_file.proofs.header.Header.of.Goals as goal
use Rattle.trace_file.proofs.header.Header.of.Goals.{else-is_in_range-via-then-is_in_range+else-eq, else-is_in_range-via-else-is_in_range}

pub in_bytes-header-requires-clause-short : goal.in_bytes-header-requires-clause-short
in_bytes-header-requires-clause-short c = omega (arith, c.requires, (size_within c.args.bytes.now).0)

pub in_bytes-header-requires-clause-long : goal.in_bytes-header-requires-clause-long
in_bytes-header-requires-clause-long c = λ two. omega (arith, c.requires, long_format c.args.bytes.now two)

pub returns-else-is_in_range-clause-none : goal.returns-else-is_in_range-clause-none
returns-else-is_in_range-clause-none c = λ h is same.
    let few = is.count in
    let bytes = c.args.bytes.now in
    let one : c.in_bytes-header.result ≡ h = c.in_bytes-header.ensures ∙ ap header_in same ∙ header_in-header_bytes h (omega arith) in
    elim c.else-is_in_range.branch [
      | else-is_in_range-via-then-is_in_range+else-eq w ↦
          let equal : w.as_slice.result.now ≡ bytes = w.as_slice.ensures.value ∙ w.bytes.ensures ∙ ap header_bytes one ∙ sym same in
          let passes : w.eq.result ≡ true = w.eq.ensures ∙ ap (λ (x : List ℕ). pointwise nat_eq x bytes) equal ∙ nat_list_eq_equiv.refl bytes in
          let test = w.if-eq.false in
          cc
      | else-is_in_range-via-else-is_in_range w ↦
          let test = w.if-is_in_range.false in
          let holds = c.is_in_range.ensures.1 (subst IsHeader (sym one) is) in
          cc
    ]
