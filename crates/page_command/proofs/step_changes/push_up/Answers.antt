use Rattle.std.proofs.Common.{◌++◌, ◌%◌, ◌^◌, [], ◌∷◌, sym, ap, ◌∙◌}
use Rattle.std.specs.Prelude.{string_bytes, suc}
use Rattle.flat_machine.specs.declared.config.Config.{Config}
use Rattle.omega_wires.specs.Wires.{wire_after}
use Rattle.page_command.specs.Steps.{parts_of_up}
use Rattle.page_command.specs.Views.{Place, view_at}
use Rattle.page_command.proofs.Lists.{first_then, no_text, only_one, text_to}
use Rattle.page_command.proofs.step_changes.push_up.Goals as goal

pub returns-in_default-clause-shown : goal.returns-in_default-clause-shown
returns-in_default-clause-shown c =
    let V = view_at c.apply.new.self in
    let old = string_bytes c.args.text.now in
    no_text V old ∙ ap (λ request. old ++ text_to V (parts_of_up c.args.machine.now.config.k c.args.stage c.args.wire request))
    (sym c.in_default.is ∙ c.first_request-request.ensures)

pub returns-clause-shown : goal.returns-clause-shown
returns-clause-shown c =
    let n = c.apply.new.self in
    let V = view_at n in
    let s = c.args.stage in
    let w = c.args.wire in
    let word = c.in-Some.request.word in
    let out = Place (suc s) (wire_after n.config.k s w (word % 2 ^ n.config.k)) in
    let old = string_bytes c.args.text.now in
    let one = string_bytes c.push_place.new.text in
    let two = string_bytes c.push_output.new.text in
    first_then V (Place s w) (out ∷ []) old one two c.in_ok-push_place.ensures (only_one V out one two c.in_ok-push_output.ensures)
    ∙ ap (λ (d : Config). old ++ text_to V (Place s w ∷ Place (suc s) (wire_after d.k s w (word % 2 ^ d.k)) ∷ [])) c.apply.ensures.step.config
    ∙ ap (λ request. old ++ text_to V (parts_of_up c.args.machine.now.config.k s w request)) (sym c.in-Some.is ∙ c.first_request-request.ensures)
