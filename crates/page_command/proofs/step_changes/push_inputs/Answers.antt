use Rattle.std.proofs.Common.{◌≡◌, ◌++◌, ◌^◌, [], ◌∷◌, ap, ◌∙◌}
use Rattle.std.specs.Prelude.{string_bytes}
use Rattle.flat_machine.specs.declared.config.Config.{Config}
use Rattle.omega_wires.specs.Wires.{bit_of_stage, wire_before}
use Rattle.page_command.specs.Changes.{change_text, change_to}
use Rattle.page_command.specs.Views.{Place, view_at}
use Rattle.page_command.proofs.Lists.{first_then, only_one}
use Rattle.page_command.proofs.step_changes.push_inputs.Goals as goal

pub returns : goal.returns
returns c =
    let m = c.args.machine.now in
    let V = view_at m in
    let s = c.args.stage in
    let w = c.args.wire in
    let k = m.config.k in
    let old = string_bytes c.args.text.now in
    let one = string_bytes c.push_place.new.text in
    let two = string_bytes c.push_place-2.new.text in
    let first : c.wire_before-one.result ≡ wire_before k s w 0 =
    c.wire_before-one.ensures.exact ∙ ap (λ (d : Config). wire_before d.k s w 0) c.config-k.ensures.config in
    let second : c.wire_before-other.result ≡ wire_before k s w (2 ^ bit_of_stage k s) =
    c.wire_before-other.ensures.exact ∙ ap (wire_before c.config-k.result.k s w) c.stage_bit.ensures
    ∙ ap (λ (d : Config). wire_before d.k s w (2 ^ bit_of_stage d.k s)) c.config-k.ensures.config in
    first_then V (Place s (wire_before k s w 0)) (Place s (wire_before k s w (2 ^ bit_of_stage k s)) ∷ []) old one two
    (c.in_ok-push_place.ensures ∙ ap (λ v. old ++ change_text (change_to V (Place s v))) first)
    (only_one V (Place s (wire_before k s w (2 ^ bit_of_stage k s))) one two
    (c.in_ok-push_place-2.ensures ∙ ap (λ v. one ++ change_text (change_to V (Place s v))) second))
