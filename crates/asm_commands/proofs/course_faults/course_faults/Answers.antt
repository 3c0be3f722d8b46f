use Rattle.std.proofs.Common.{[], arith, rules}
use Rattle.assembler.specs.declared.fault.AsmFault.TheVariants.{UnknownWord}
use Rattle.line_faults.specs.word_faults.declared.hint.Hint.TheVariants.{NoWord}
use Rattle.fault_lists.specs.declared.text_fault.TextFault.{TextFault}
use Rattle.asm_commands.specs.CourseViews.{lines_view}
use Rattle.asm_commands.proofs.Courses.{skipped, listed_more, listed_all}
use Rattle.asm_commands.proofs.course_faults.course_faults.Goals as goal

nothing : TextFault
nothing = record { line = 0; column = 0; word = record { ref_ptr = (0, 0); now = [] }; fault = UnknownWord; hint = NoWord }

pub loop-fault-preserved-then-number-last : goal.loop-fault-preserved-then-number-last
unfolding nothing
loop-fault-preserved-then-number-last c =
    skipped (lines_view c.args.lines.now) c.args.faults.now c.loop-fault.fault-index nothing c.origin-number.result c.loop-fault.last c.loop-fault.listed.items
    (omega arith) c.origin-number.ensures c.if-number-last.true c.loop-fault.invariant

pub loop-fault-preserved : goal.loop-fault-preserved
unfolding nothing
loop-fault-preserved c =
    listed_more (lines_view c.args.lines.now) c.args.faults.now c.loop-fault.fault-index nothing c.origin-number.result c.loop-fault.last c.course_fault.result
    c.loop-fault.listed.items c.push.new.self.items (omega arith) c.origin-number.ensures c.if-number-last.false c.course_fault.ensures (search rules)
    c.loop-fault.invariant

pub returns : goal.returns
returns c =
    listed_all (lines_view c.args.lines.now) c.args.faults.now c.loop-fault.fault-index c.loop-fault.last c.loop-fault.listed.items (omega arith)
    c.loop-fault.invariant
