use Rattle.std.proofs.Common.{◌++◌, append_assoc, ap, length, ◌∙◌}
use Rattle.std.specs.Prelude.{codes, string_bytes}
use Rattle.observed_results.specs.Lines.{members_text}
use Rattle.observed_results.proofs.classes.push_class_text.Goals as goal

pub returns : goal.returns
returns c =
    let old = string_bytes c.args.text.now in
    let head = codes "processors " in
    let members = members_text c.args.classes.now c.args.class (length c.args.classes.now) in
    let end = codes " can be exchanged\n" in
    c.in_ok-push_str-2.ensures.bytes
    ∙ (ap (λ bytes. bytes ++ end) (c.in_ok-push_members.ensures ∙ ap (λ bytes. bytes ++ members) c.in_ok-push_str.ensures.bytes)
    ∙ (append_assoc (old ++ head) members end ∙ append_assoc old head (members ++ end)))
