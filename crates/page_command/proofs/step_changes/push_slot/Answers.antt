use Rattle.std.proofs.Common.{◌++◌, sym, ap, ◌∙◌}
use Rattle.std.specs.Prelude.{string_bytes}
use Rattle.page_command.specs.Steps.{slot_if}
use Rattle.page_command.specs.Views.{Place, view_at}
use Rattle.page_command.proofs.Lists.{no_text, only_one, text_to}
use Rattle.page_command.proofs.step_changes.push_slot.Goals as goal

pub returns-in_ok-push_place : goal.returns-in_ok-push_place
returns-in_ok-push_place c =
    let V = view_at c.args.machine.now in
    let old = string_bytes c.args.text.now in
    only_one V (Place 0 c.args.processor) old (string_bytes c.push_place.new.text) c.in_ok-push_place.ensures
    ∙ ap (λ wanted. old ++ text_to V (slot_if c.args.processor wanted)) (sym c.if-wanted.true)

pub returns-else-wanted : goal.returns-else-wanted
returns-else-wanted c =
    let V = view_at c.args.machine.now in
    let old = string_bytes c.args.text.now in
    no_text V old ∙ ap (λ wanted. old ++ text_to V (slot_if c.args.processor wanted)) (sym c.if-wanted.false)
