use Rattle.std.proofs.Common.{◌≡◌, sym, ap, ◌∙◌, subst, IfNone}
use Rattle.std.specs.Prelude.{slice_index}
use Rattle.flat_machine.specs.State.{Processor}
use Rattle.machine_steps.specs.machine_theory.Processors.{no_processor}
use Rattle.machine_views.specs.Subjects.{processors_of}
use Rattle.page_command.proofs.Registers.{zeros_at}
use Rattle.page_command.proofs.step_changes.registers_of.Goals as goal

pub returns-in-None : goal.returns-in-None
returns-in-None c =
    let away = subst (λ core. IfNone core (processors_of c.args.machine.now c.args.processor ≡ no_processor)) c.in-None.is c.core.ensures.none in
    λ r. zeros_at 32 r ∙ sym (ap (λ (p : Processor). slice_index p.registers r) away)
