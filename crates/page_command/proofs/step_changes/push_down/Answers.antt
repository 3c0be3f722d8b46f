use Rattle.std.proofs.Common.{◌++◌, ◌∷◌, sym, ap, ◌∙◌}
use Rattle.std.specs.Prelude.{string_bytes, suc}
use Rattle.flat_machine.specs.declared.config.Config.{Config}
use Rattle.page_command.specs.Steps.{inputs_of, parts_of_down}
use Rattle.page_command.specs.Views.{Place, view_at}
use Rattle.page_command.proofs.Lists.{first_then, no_text, text_to}
use Rattle.page_command.proofs.step_changes.push_down.Goals as goal

pub returns-in_default-clause-shown : goal.returns-in_default-clause-shown
returns-in_default-clause-shown c =
    let V = view_at c.apply.new.self in
    let old = string_bytes c.args.text.now in
    no_text V old ∙ ap (λ reply. old ++ text_to V (parts_of_down c.args.machine.now.config.k c.args.stage c.args.wire reply))
    (sym c.in_default.is ∙ c.first_reply-reply.ensures)

pub returns-clause-shown : goal.returns-clause-shown
returns-clause-shown c =
    let n = c.apply.new.self in
    let V = view_at n in
    let s = c.args.stage in
    let w = c.args.wire in
    let old = string_bytes c.args.text.now in
    let one = string_bytes c.push_behind.new.text in
    let two = string_bytes c.push_inputs.new.text in
    first_then V (Place (suc s) w) (inputs_of n.config.k s w) old one two c.in_ok-push_behind.ensures c.in_ok-push_inputs.ensures
    ∙ ap (λ (d : Config). old ++ text_to V (Place (suc s) w ∷ inputs_of d.k s w)) c.apply.ensures.step.config
    ∙ ap (λ reply. old ++ text_to V (parts_of_down c.args.machine.now.config.k s w reply)) (sym c.in-Some.is ∙ c.first_reply-reply.ensures)
