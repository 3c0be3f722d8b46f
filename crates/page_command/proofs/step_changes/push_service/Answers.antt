use Rattle.std.proofs.Common.{◌++◌, [], ◌∷◌, sym, ap, ◌∙◌}
use Rattle.std.specs.Prelude.{string_bytes}
use Rattle.flat_machine.specs.declared.config.Config.{Config}
use Rattle.page_command.specs.Steps.{parts_of_serve}
use Rattle.page_command.specs.Views.{Place, Word, view_at}
use Rattle.page_command.proofs.Lists.{first_then, no_text, only_one, text_to}
use Rattle.page_command.proofs.step_changes.push_service.Goals as goal

pub returns-in_default-clause-shown : goal.returns-in_default-clause-shown
returns-in_default-clause-shown c =
    let V = view_at c.apply.new.self in
    let old = string_bytes c.args.text.now in
    no_text V old ∙ ap (λ request. old ++ text_to V (parts_of_serve c.args.machine.now.config.k c.args.number request))
    (sym c.in_default.is ∙ c.first_request_at-request.ensures)

pub returns-clause-shown : goal.returns-clause-shown
returns-clause-shown c =
    let n = c.apply.new.self in
    let V = view_at n in
    let m = c.args.number in
    let word = c.in-Some.request.word in
    let old = string_bytes c.args.text.now in
    let one = string_bytes c.push_module.new.text in
    let two = string_bytes c.push_shared_word.new.text in
    first_then V (Place n.config.k m) (Word word ∷ []) old one two c.in_ok-push_module.ensures
    (only_one V (Word word) one two c.in_ok-push_shared_word.ensures)
    ∙ ap (λ (d : Config). old ++ text_to V (Place d.k m ∷ Word word ∷ [])) c.apply.ensures.step.config
    ∙ ap (λ request. old ++ text_to V (parts_of_serve c.args.machine.now.config.k m request)) (sym c.in-Some.is ∙ c.first_request_at-request.ensures)
