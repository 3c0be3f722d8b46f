use Rattle.std.proofs.Common.{◌∙◌, ap}
use Rattle.std.specs.Result.{result_ok}
use Rattle.flat_machine.specs.Memory.{in_local}
use Rattle.machine_theory.specs.Processors.{port_at}
use Rattle.machine_steps.specs.Machines.{is_there}
use Rattle.machine_steps.proofs.LocalBytes.{byte_of_core}
use Rattle.machine_steps.proofs.machine.Machine.byte.Goals as goal

pub returns : goal.returns
returns c =
    c.ok.ensures.value ∙ ap result_ok c.byte.ensures
    ∙ byte_of_core (is_there c.args.self.now c.args.processor) (in_local c.args.address)
    (port_at c.args.self.now.ports c.args.processor).core c.in_ok-core.field-0.now c.args.address c.in_ok-core.ensures.value
