use Rattle.std.proofs.Common.{arith, Bor, List, [], ℕ, refl}
use Rattle.command_io.specs.FaultTexts.{joined}
use Rattle.command_io.proofs.Writing.{begun_none, parts_all, parts_more, parts_stop}
use Rattle.command_io.proofs.printing.write_error_parts.Goals as goal

nothing : Bor (List ℕ)
nothing = record { ref_ptr = (0, 0); now = [] }

pub loop-part-init : goal.loop-part-init
loop-part-init g c = begun_none (g.E.Write.contents c.args.err.now) (joined c.args.parts.now)

pub loop-part-preserved : goal.loop-part-preserved
unfolding nothing
loop-part-preserved g c =
    parts_more c.args.parts.now c.loop-part.part-index nothing (g.E.Write.contents c.args.err.now) (g.E.Write.contents c.loop-part.err)
    (g.E.Write.contents c.is_written.new.err) (omega arith) c.loop-part.invariant (c.if-not-is_written.ensures.whole refl)

pub returns-then-not-is_written : goal.returns-then-not-is_written
unfolding nothing
returns-then-not-is_written g c =
    parts_stop c.args.parts.now c.loop-part.part-index nothing (g.E.Write.contents c.args.err.now) (g.E.Write.contents c.loop-part.err)
    (g.E.Write.contents c.is_written.new.err) (omega arith) c.loop-part.invariant c.is_written.ensures.part

pub returns : goal.returns
returns g c =
    parts_all c.args.parts.now c.loop-part.part-index (g.E.Write.contents c.args.err.now) (g.E.Write.contents c.loop-part.err) (omega arith)
    c.loop-part.invariant
