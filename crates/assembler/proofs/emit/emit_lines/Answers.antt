use Rattle.std.proofs.Common.{arith, []}
use Rattle.assembler.proofs.LineByLine.{emitted_next, emitted_fault, emitted_all}
use Rattle.asm_lines.specs.declared.statement.Section.TheVariants.{Code}
use Rattle.assembler.specs.declared.cursor.LineAt.{LineAt}
use Rattle.assembler.proofs.emit.emit_lines.Goals as goal

nothing : LineAt
nothing = record { section = Code; address = 0; line = record { ref_ptr = (0, 0); now = [] } }

pub returns-in-Err-clause-err : goal.returns-in-Err-clause-err
unfolding nothing
returns-in-Err-clause-err c =
    λ not_memory. (omega arith, emitted_fault _ c.args.placed.now c.loop-at.at nothing _ (omega arith) (c.in-Err.ensures.err not_memory))

pub loop-at-preserved : goal.loop-at-preserved
unfolding nothing
loop-at-preserved c = let h = c.in_default.ensures in
    emitted_next _ c.args.placed.now c.loop-at.at nothing c.args.entry c.loop-at.layout _ (omega arith) c.loop-at.invariant h.ok h.code h.local h.shared
    h.entry

pub returns-clause-faultless : goal.returns-clause-faultless
returns-clause-faultless c = (emitted_all _ c.args.placed.now c.loop-at.at c.args.entry c.loop-at.layout (omega arith) c.loop-at.invariant).0

pub returns-clause-code : goal.returns-clause-code
returns-clause-code c = (emitted_all _ c.args.placed.now c.loop-at.at c.args.entry c.loop-at.layout (omega arith) c.loop-at.invariant).1

pub returns-clause-local : goal.returns-clause-local
returns-clause-local c = (emitted_all _ c.args.placed.now c.loop-at.at c.args.entry c.loop-at.layout (omega arith) c.loop-at.invariant).2

pub returns-clause-shared : goal.returns-clause-shared
returns-clause-shared c = (emitted_all _ c.args.placed.now c.loop-at.at c.args.entry c.loop-at.layout (omega arith) c.loop-at.invariant).3

pub returns-clause-entry : goal.returns-clause-entry
returns-clause-entry c = c.loop-at.invariant.entry_is
