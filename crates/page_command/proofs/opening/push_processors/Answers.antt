use Rattle.std.specs.Prelude.{string_bytes}
use Rattle.machine_views.specs.Subjects.{processors_of}
use Rattle.page_command.specs.Views.{view_at}
use Rattle.page_command.proofs.Registers.{no_processor_yet, processor_next}
use Rattle.page_command.proofs.opening.push_processors.Goals as goal

pub loop-processor-init : goal.loop-processor-init
loop-processor-init c = no_processor_yet (view_at c.args.machine.now) (processors_of c.args.machine.now) (string_bytes c.args.text.now)

pub loop-processor-preserved : goal.loop-processor-preserved
loop-processor-preserved c =
    processor_next (view_at c.args.machine.now) (processors_of c.args.machine.now) c.loop-processor.processor (string_bytes c.args.text.now)
    (string_bytes c.loop-processor.text) (string_bytes c.push_processor.new.text) c.loop-processor.invariant c.in_ok-push_processor.ensures
