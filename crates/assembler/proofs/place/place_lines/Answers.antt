use Rattle.std.proofs.Common.{rules, arith, [], Bor, List, ℕ}
use Rattle.assembler.proofs.LineByLine.{scanned_more, scanned_fault, scanned_all}
use Rattle.assembler.proofs.place.place_lines.Goals as goal

nothing : Bor (List ℕ)
nothing = record { ref_ptr = (0, 0); now = [] }

pub returns-in-Err-clause-err : goal.returns-in-Err-clause-err
unfolding nothing
returns-in-Err-clause-err c = λ not_memory. scanned_fault c.args.lines.now c.loop-at.at nothing c.loop-at.placed.items c.loop-at.cursor c.in-Err.fault
    (omega arith) c.loop-at.invariant (c.in-Err.ensures.err not_memory)

pub loop-at-preserved : goal.loop-at-preserved
unfolding nothing
loop-at-preserved c = scanned_more c.args.lines.now c.loop-at.at nothing c.loop-at.placed.items c.push.new.self.items c.loop-at.cursor c.place_line.new.self
    c.in-Ok.next (omega arith) c.loop-at.invariant c.in-Ok.ensures.ok c.in-Ok.ensures.after (search rules)

pub returns-clause-ok : goal.returns-clause-ok
returns-clause-ok c = (scanned_all c.args.lines.now c.loop-at.at c.loop-at.placed.items c.loop-at.cursor (omega arith) c.loop-at.invariant).0

pub returns-clause-after : goal.returns-clause-after
returns-clause-after c = (scanned_all c.args.lines.now c.loop-at.at c.loop-at.placed.items c.loop-at.cursor (omega arith) c.loop-at.invariant).1
