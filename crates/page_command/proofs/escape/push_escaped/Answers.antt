use Rattle.std.proofs.Common.{◌≡◌, ◌++◌, false, sym, ap, ◌∙◌}
use Rattle.std.specs.Prelude.{string_bytes}
use Rattle.std.specs.List.{list_any}
use Rattle.page_command.specs.Pages.{is_special}
use Rattle.page_command.proofs.Escapes.{none_special}
use Rattle.page_command.proofs.escape.push_escaped.Goals as goal

pub returns-in_ok-push_str : goal.returns-in_ok-push_str
returns-in_ok-push_str c =
    let shown = c.args.shown.now in
    let none : list_any is_special shown ≡ false =
    ap (list_any is_special) (sym c.as_bytes.ensures.value) ∙ sym c.has_special.ensures ∙ c.if-has_special.false in
    c.in_ok-push_str.ensures.bytes ∙ ap (λ bytes. string_bytes c.args.text.now ++ bytes) (sym (none_special shown c.utf8.shown none))
