use Rattle.std.proofs.Common.{◌++◌, sym, ap, ◌∙◌, map-id}
use Rattle.std.specs.Prelude.{string_bytes}
use Rattle.std.specs.List.{flat_map}
use Rattle.std.proofs.lemmas.Iterator.{YieldsList-from_chars}
use Rattle.std.proofs.lemmas.Iterator.Consumers.{YieldsList-end}
use Rattle.page_command.specs.Pages.{escaped, escaped_char}
use Rattle.page_command.proofs.escape.push_each.Goals as goal

pub returns : goal.returns
unfolding escaped
returns c =
    let gives = YieldsList-from_chars c.args.shown.now c.utf8.shown cc in
    let end = YieldsList-end gives c.loop-letter.yielded _ c.loop-letter.yielded_by _ _ c.in-None.is c.next.ensures.steps in
    c.loop-letter.invariant ∙ ap (λ cs. string_bytes c.args.text.now ++ flat_map escaped_char cs) (sym (map-id c.loop-letter.yielded) ∙ end.0)
