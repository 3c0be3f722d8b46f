use Rattle.std.specs.Prelude.{string_bytes}
use Rattle.machine_views.specs.Subjects.{processors_of}
use Rattle.page_command.specs.Views.{view_at}
use Rattle.page_command.proofs.Registers.{next_set_of_array, no_register_set_yet}
use Rattle.page_command.proofs.opening.push_registers.Goals as goal

pub loop-register-init : goal.loop-register-init
loop-register-init c =
    no_register_set_yet (view_at c.args.machine.now) c.args.processor (processors_of c.args.machine.now c.args.processor).registers
    (string_bytes c.args.text.now)

pub loop-register-preserved : goal.loop-register-preserved
loop-register-preserved c =
    next_set_of_array c.args.machine.now c.args.processor c.registers_of-registers.result c.registers_of-registers.ensures c.loop-register.register
    c.from.result c.from.ensures
    (string_bytes c.args.text.now) (string_bytes c.loop-register.text) (string_bytes c.push_register.new.text) c.loop-register.invariant
    c.in_ok-push_register.ensures
