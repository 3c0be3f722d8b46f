use Rattle.std.proofs.Common.{subst, ap, ◌∙◌}
use Rattle.std.specs.Io.KnownBytes.{Appends}
use Rattle.link.specs.Transfer.{AppendsPart}
use Rattle.trace_file.specs.Traces.{header_bytes, records_bytes}
use Rattle.trace_file.proofs.Written.{on_err}
use Rattle.trace_file.proofs.write.write_trace.Goals as goal

pub returns-in_err-write_whole-clause-err : goal.returns-in_err-write_whole-clause-err
returns-in_err-write_whole-clause-err g c =
    let part_front = c.parts_make_a_beginning.ensures.first in
    let a = g.W.Write.contents c.args.writer.now in
    let b = g.W.Write.contents c.write_whole.new.writer in
    let header = c.as_slice.ensures.value ∙ c.bytes.ensures ∙ ap header_bytes c.new.ensures in
    on_err c.from_residual.result _ (part_front a b _ (records_bytes c.args.steps.now) (subst (AppendsPart a b) header c.in_err-write_whole.ensures.err))

pub returns-in_err-write_records-clause-err : goal.returns-in_err-write_records-clause-err
returns-in_err-write_records-clause-err g c =
    let part_after = c.parts_make_a_beginning.ensures.rest in
    let a = g.W.Write.contents c.args.writer.now in
    let b = g.W.Write.contents c.write_whole.new.writer in
    let d = g.W.Write.contents c.write_records.new.writer in
    let header = subst (Appends a b) (c.as_slice.ensures.value ∙ c.bytes.ensures ∙ ap header_bytes c.new.ensures) c.in_ok-write_whole.ensures.ok in
    on_err c.from_residual-in_err-write_records.result _ (part_after a b d _ (records_bytes c.args.steps.now) header c.in_err-write_records.ensures.err)
