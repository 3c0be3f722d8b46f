use Rattle.std.proofs.Common.{[], arith}
use Rattle.std.specs.Prelude.{string_bytes}
use Rattle.assembler.specs.declared.fault.AsmFault.TheVariants.{UnknownWord}
use Rattle.line_faults.specs.word_faults.declared.hint.Hint.TheVariants.{NoWord}
use Rattle.fault_lists.specs.declared.text_fault.TextFault.{TextFault}
use Rattle.fault_lists.proofs.FaultLines.{more_printed, all_printed}
use Rattle.fault_lists.proofs.fault_lines.list_of.Goals as goal

nothing : TextFault
nothing = record { line = 0; column = 0; word = record { ref_ptr = (0, 0); now = [] }; fault = UnknownWord; hint = NoWord }

pub loop-fault-preserved : goal.loop-fault-preserved
unfolding nothing
loop-fault-preserved c = more_printed c.args.faults.now c.loop-fault.fault-index nothing (string_bytes c.loop-fault.text) (string_bytes c.push_line.new.text)
    (omega arith) c.loop-fault.invariant c.in_ok-push_line.ensures

pub returns : goal.returns
returns c = all_printed c.args.faults.now c.loop-fault.fault-index (string_bytes c.loop-fault.text) (string_bytes c.push_count.new.text) (omega arith)
    c.loop-fault.invariant c.in_ok-push_count.ensures
