use Rattle.std.proofs.Common.{◌++◌, subst, ◌∙◌}
use Rattle.std.specs.Io.KnownBytes.{Appends}
use Rattle.std.proofs.KnownBytes.{Appends-trans}
use Rattle.link.specs.Transfer.{AppendsPart}
use Rattle.elf_image.specs.Spellings.{head_bytes, spelling}
use Rattle.elf_image.proofs.Conditions.{on_err}
use Rattle.elf_image.proofs.write.write_image.Goals as goal

pub returns-in_err-write_whole-clause-err : goal.returns-in_err-write_whole-clause-err
unfolding spelling
returns-in_err-write_whole-clause-err g c =
    let part_front = c.parts_make_a_beginning.ensures.first in
    let a = g.W.Write.contents c.args.writer.now in
    let b = g.W.Write.contents c.write_whole.new.writer in
    let l = c.args.layout.now in
    let head = c.as_slice.ensures.value ∙ c.head_of-head.ensures in
    on_err c.from_residual.result _ (part_front a b _ l.shared
    (part_front a b _ l.local (part_front a b _ l.code (subst (AppendsPart a b) head c.in_err-write_whole.ensures.err))))

pub returns-in_err-write_whole-2-clause-err : goal.returns-in_err-write_whole-2-clause-err
unfolding spelling
returns-in_err-write_whole-2-clause-err g c =
    let part_front = c.parts_make_a_beginning.ensures.first in
    let part_after = c.parts_make_a_beginning.ensures.rest in
    let a = g.W.Write.contents c.args.writer.now in
    let b = g.W.Write.contents c.write_whole.new.writer in
    let d = g.W.Write.contents c.write_whole-2.new.writer in
    let l = c.args.layout.now in
    let head = subst (Appends a b) (c.as_slice.ensures.value ∙ c.head_of-head.ensures) c.in_ok-write_whole.ensures.ok in
    let code = subst (AppendsPart b d) c.as_slice-2.ensures c.in_err-write_whole-2.ensures.err in
    on_err c.from_residual-in_err-write_whole-2.result
    _ (part_front a d _ l.shared (part_front a d _ l.local (part_after a b d (head_bytes l) l.code head code)))

pub returns-in_err-write_whole-3-clause-err : goal.returns-in_err-write_whole-3-clause-err
unfolding spelling
returns-in_err-write_whole-3-clause-err g c =
    let part_front = c.parts_make_a_beginning.ensures.first in
    let part_after = c.parts_make_a_beginning.ensures.rest in
    let a = g.W.Write.contents c.args.writer.now in
    let b = g.W.Write.contents c.write_whole.new.writer in
    let d = g.W.Write.contents c.write_whole-2.new.writer in
    let e = g.W.Write.contents c.write_whole-3.new.writer in
    let l = c.args.layout.now in
    let head = subst (Appends a b) (c.as_slice.ensures.value ∙ c.head_of-head.ensures) c.in_ok-write_whole.ensures.ok in
    let code = subst (Appends b d) c.as_slice-2.ensures c.in_ok-write_whole-2.ensures.ok in
    let local = subst (AppendsPart d e) c.as_slice-3.ensures c.in_err-write_whole-3.ensures.err in
    on_err c.from_residual-in_err-write_whole-3.result
    _ (part_front a e _ l.shared (part_after a d e (head_bytes l ++ l.code) l.local (Appends-trans a b d _ _ head code) local))

pub returns-in_err-write_whole-4-clause-err : goal.returns-in_err-write_whole-4-clause-err
unfolding spelling
returns-in_err-write_whole-4-clause-err g c =
    let part_after = c.parts_make_a_beginning.ensures.rest in
    let a = g.W.Write.contents c.args.writer.now in
    let b = g.W.Write.contents c.write_whole.new.writer in
    let d = g.W.Write.contents c.write_whole-2.new.writer in
    let e = g.W.Write.contents c.write_whole-3.new.writer in
    let f = g.W.Write.contents c.write_whole-4.new.writer in
    let l = c.args.layout.now in
    let head = subst (Appends a b) (c.as_slice.ensures.value ∙ c.head_of-head.ensures) c.in_ok-write_whole.ensures.ok in
    let code = subst (Appends b d) c.as_slice-2.ensures c.in_ok-write_whole-2.ensures.ok in
    let local = subst (Appends d e) c.as_slice-3.ensures c.in_ok-write_whole-3.ensures.ok in
    let shared = subst (AppendsPart e f) c.as_slice-4.ensures c.in_err-write_whole-4.ensures.err in
    on_err c.from_residual-in_err-write_whole-4.result
    _ (part_after a e f ((head_bytes l ++ l.code) ++ l.local) l.shared (Appends-trans a d e _ _ (Appends-trans a b d _ _ head code) local) shared)

pub returns-clause-ok : goal.returns-clause-ok
unfolding spelling
returns-clause-ok g c =
    let a = g.W.Write.contents c.args.writer.now in
    let b = g.W.Write.contents c.write_whole.new.writer in
    let d = g.W.Write.contents c.write_whole-2.new.writer in
    let e = g.W.Write.contents c.write_whole-3.new.writer in
    let f = g.W.Write.contents c.write_whole-4.new.writer in
    let head = subst (Appends a b) (c.as_slice.ensures.value ∙ c.head_of-head.ensures) c.in_ok-write_whole.ensures.ok in
    let code = subst (Appends b d) c.as_slice-2.ensures c.in_ok-write_whole-2.ensures.ok in
    let local = subst (Appends d e) c.as_slice-3.ensures c.in_ok-write_whole-3.ensures.ok in
    let shared = subst (Appends e f) c.as_slice-4.ensures c.in_ok-write_whole-4.ensures.ok in
    Appends-trans a e f _ _ (Appends-trans a d e _ _ (Appends-trans a b d _ _ head code) local) shared
