use Rattle.std.proofs.Common.{◌≡◌, ◌++◌, OnOk, string_bytes, append_assoc, ap, ◌∙◌, subst}
use Rattle.std.specs.Fmt.{decimal}
use Rattle.std.specs.Prelude.{codes}
use Rattle.run_counts.specs.QueueLengths.{numbers_text, waited_text}
use Rattle.run_counts.proofs.queue_lengths.push_waited.Goals as goal

pub returns : goal.returns
unfolding waited_text
returns c =
    let old = string_bytes c.args.text.now in
    let first = codes "waited stage " in
    let stage = decimal c.args.stage in
    let rest = numbers_text c.args.requests c.args.records c.args.replies in
    subst (λ bytes. OnOk c.push_three.result (string_bytes c.push_three.new.text ≡ bytes))
    (ap (λ bytes. bytes ++ rest) c.in_ok-write.ensures.bytes
    ∙ append_assoc old (first ++ stage) rest
    ∙ ap (λ bytes. old ++ bytes) (append_assoc first stage rest)) c.push_three.ensures
