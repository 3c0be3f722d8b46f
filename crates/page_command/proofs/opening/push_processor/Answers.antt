use Rattle.std.specs.Prelude.{string_bytes}
use Rattle.machine_views.specs.Subjects.{processors_of}
use Rattle.page_command.specs.Openings.{registers_set}
use Rattle.page_command.specs.Views.{Core, view_at}
use Rattle.page_command.proofs.Lists.{first_then}
use Rattle.page_command.proofs.opening.push_processor.Goals as goal

pub returns : goal.returns
returns c =
    let p = c.args.processor in
    let m = c.args.machine.now in
    first_then (view_at m) (Core p) (registers_set p (processors_of m p).registers 32) (string_bytes c.args.text.now)
    (string_bytes c.push_core.new.text) (string_bytes c.push_registers.new.text) c.in_ok-push_core.ensures c.in_ok-push_registers.ensures
