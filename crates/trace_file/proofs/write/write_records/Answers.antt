use Rattle.std.proofs.Common.{◌++◌, take, drop, sym, subst, ap, ◌∙◌}
use Rattle.std.specs.Io.KnownBytes.{Appends}
use Rattle.std.proofs.KnownBytes.{Appends-trans}
use Rattle.link.specs.Transfer.{AppendsPart}
use Rattle.trace_file.specs.Traces.{records_bytes}
use Rattle.trace_file.proofs.Records.{records_bytes-append}
use Rattle.trace_file.proofs.Written.{on_err, written_parts, steps_parts}
use Rattle.trace_file.proofs.write.write_records.Goals as goal

pub returns-in_err-write_whole-clause-err : goal.returns-in_err-write_whole-clause-err
returns-in_err-write_whole-clause-err g c =
    let part_front = c.parts_make_a_beginning.ensures.first in
    let part_after = c.parts_make_a_beginning.ensures.rest in
    let a = g.W.Write.contents c.args.writer.now in
    let b = g.W.Write.contents c.loop-rest.writer in
    let d = g.W.Write.contents c.write_whole.new.writer in
    let inv = c.loop-rest.invariant.1 in
    let rest = c.loop-rest.rest.now in
    let piece = c.as_slice.ensures.value ∙ c.records_of.ensures ∙ ap records_bytes c.split_at.ensures.front in
    let part = part_after a b d (records_bytes inv.0) _ inv.2 (subst (AppendsPart b d) piece c.in_err-write_whole.ensures.err) in
    on_err c.from_residual.result _ (subst (AppendsPart a d) (written_parts c.args.steps.now inv.0 rest c.min.result inv.1)
    (part_front a d _ (records_bytes (drop c.min.result rest)) part))

pub loop-rest-preserved : goal.loop-rest-preserved
loop-rest-preserved g c =
    let a = g.W.Write.contents c.args.writer.now in
    let b = g.W.Write.contents c.loop-rest.writer in
    let d = g.W.Write.contents c.write_whole.new.writer in
    let inv = c.loop-rest.invariant.1 in
    let rest = c.loop-rest.rest.now in
    let piece = c.as_slice.ensures.value ∙ c.records_of.ensures ∙ ap records_bytes c.split_at.ensures.front in
    let wrote = Appends-trans a b d (records_bytes inv.0) _ inv.2 (subst (Appends b d) piece c.in_ok-write_whole.ensures.ok) in (
      c.in_ok-write_whole.ensures.failed,
      (
        inv.0 ++ take c.min.result rest,
        rw c.split_at.ensures.back (steps_parts c.args.steps.now inv.0 rest c.min.result inv.1),
        subst (Appends a d) (sym (records_bytes-append inv.0 (take c.min.result rest))) wrote,
      ),
    )
