use Rattle.std.proofs.Common.{◌≡◌, ◌≤◌, ◌-◌, List, ◌++◌, take, length, sym, ap, subst, ◌∙◌, arith, length-take}
use Rattle.std.proofs.lemmas.List.{take_all}
use Rattle.std.specs.Io.KnownBytes.{Consumes}
use Rattle.std.proofs.KnownBytes.{Consumes-trans}
use Rattle.trace_file.specs.declared.error.TraceError.TheVariants as error
use Rattle.trace_file.specs.Faults.{header_size}
use Rattle.trace_file.proofs.Numbers.{size_stays}
use Rattle.trace_file.proofs.Written.{if_err}
use Rattle.trace_file.proofs.Refused.{format_read, header_cut, header_cut_later, header_failed, header_filled}
use Rattle.trace_file.proofs.read.fill_header.Goals as goal

pub returns-then-branch-lt-FORMAT_BYTES-clause-refused : goal.returns-then-branch-lt-FORMAT_BYTES-clause-refused
returns-then-branch-lt-FORMAT_BYTES-clause-refused g c =
    let count = c.in_ok-fill.field-0 in
    let front = c.fill.new.buf in
    let auto = c.fill.auto.buf in
    header_cut _ _ (take count front) (omega (arith, length-take count front)) c.in_ok-fill.ensures.bytes (c.in_ok-fill.ensures.short (omega arith))

pub returns-in_err-fill-2-clause-refused : goal.returns-in_err-fill-2-clause-refused
returns-in_err-fill-2-clause-refused g c =
    let count = c.in_ok-fill.field-0 in
    let front = c.fill.new.buf in
    let auto = c.fill.auto.buf in
    let later = c.fill-2.auto.buf in
    if_err c.from_residual-in_err-fill-2.result error.Link _ c.from_residual-in_err-fill-2.ensures.1
    (header_failed _ _ _ (take count front) _ (omega (arith, length-take count front)) c.in_ok-fill.ensures.bytes (omega arith) c.in_err-fill-2.ensures.err)

pub returns-then-branch-size-clause-refused : goal.returns-then-branch-size-clause-refused
returns-then-branch-size-clause-refused g c =
    let count = c.in_ok-fill.field-0 in
    let front = c.fill.new.buf in
    let auto = c.fill.auto.buf in
    let later = c.fill-2.auto.buf in
    let all : take count front ≡ front = take_all count front (omega arith) in
    let more = c.in_ok-fill-2.field-0 in
    let size = c.header_size-size.result in
    let five : length front ≡ 5 = omega arith in
    header_cut_later _ _ _ front (take more c.fill-2.new.buf) size five (omega (arith, length-take more c.fill-2.new.buf))
    (format_read front _ size five c.header_size-size.ensures.exact) (rw all at c.in_ok-fill.ensures.bytes) c.in_ok-fill-2.ensures.bytes
    (c.in_ok-fill-2.ensures.short (omega arith))

pub returns-clause-ok : goal.returns-clause-ok
returns-clause-ok g c =
    let count = c.in_ok-fill.field-0 in
    let front = c.fill.new.buf in
    let rest = c.fill-2.new.buf in
    let auto = c.fill.auto.buf in
    let later = c.fill-2.auto.buf in
    let all : take count front ≡ front = take_all count front (omega arith) in
    let more = c.in_ok-fill-2.field-0 in
    let all_more : take more rest ≡ rest = take_all more rest (omega arith) in
    let size = c.header_size-size.result in
    let least = c.header_size-size.ensures.least in
    let five : length front ≡ 5 = omega arith in
    let filled = header_filled front _ rest size five (omega arith) (omega arith) in (
      c.header_size-size.ensures.most,
      format_read front _ size five c.header_size-size.ensures.exact ∙ sym (size_stays front rest (omega arith)) ∙ ap header_size (sym filled),
      subst (Consumes _ _) (sym filled) (Consumes-trans _ _ _ front rest (rw all at c.in_ok-fill.ensures.bytes) (rw all_more at c.in_ok-fill-2.ensures.bytes)),
    )
