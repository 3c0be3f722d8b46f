use Rattle.std.proofs.Common.{◌++◌, ◌||◌, ap, ◌∙◌}
use Rattle.std.specs.Prelude.{string_bytes}
use Rattle.machine_steps.specs.machine_theory.Processors.{open_at}
use Rattle.machine_views.specs.Subjects.{processors_of}
use Rattle.page_command.specs.Steps.{registers_changed, slot_if, slot_of}
use Rattle.page_command.specs.Views.{Core, view_at}
use Rattle.page_command.proofs.Lists.{first_then, joined, text_to}
use Rattle.page_command.proofs.Registers.{changed_alike}
use Rattle.page_command.proofs.step_changes.push_turn.Goals as goal

pub returns-clause-shown : goal.returns-clause-shown
returns-clause-shown c =
    let p = c.args.processor in
    let m = c.args.machine.now in
    let n = c.apply.new.self in
    let V = view_at n in
    let one = string_bytes c.push_core.new.text in
    let two = string_bytes c.push_registers.new.text in
    let three = string_bytes c.push_slot.new.text in
    let after = (processors_of n p).registers in
    let changed = registers_changed p (processors_of m p).registers after 32 in
    let slot = slot_of p (open_at m.ports p) (open_at n.ports p) in
    first_then V (Core p) (changed ++ slot) (string_bytes c.args.text.now) one three c.in_ok-push_core.ensures
    (joined V changed slot one two three
    (c.in_ok-push_registers.ensures ∙ ap (λ parts. one ++ text_to V parts)
    (changed_alike p c.registers_of-before.result (processors_of m p).registers after 32 c.registers_of-before.ensures))
    (c.in_ok-push_slot.ensures ∙ ap (λ wanted. two ++ text_to V (slot_if p wanted)) (c.was_or_is_open-wanted.ensures
    ∙ ap (λ was. was || open_at n.ports p) c.is_open-was_open.ensures)))
