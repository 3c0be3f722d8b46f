use Rattle.std.proofs.Common.{◌≡◌, ◌++◌, OnOk, string_bytes, ap, ap₂, ◌∙◌, subst}
use Rattle.run_counts.specs.QueueLengths.{rounds_waited, waited_text}
use Rattle.run_counts.specs.declared.longest.Held.TheVariants.{Requests, Records}
use Rattle.run_counts.proofs.queue_lengths.push_wait.Goals as goal

pub returns : goal.returns
returns c =
    let lengths = c.args.lengths.now in
    let s = c.args.stage in
    let a = c.rounds_waited-requests in
    let b = c.rounds_waited-records in
    let d = c.rounds_waited-replies in
    subst (λ line. OnOk c.push_waited.result (string_bytes c.push_waited.new.text ≡ string_bytes c.args.text.now ++ line))
    (ap₂ (λ x y. waited_text s x y d.result) a.ensures b.ensures
    ∙ ap (λ z. waited_text s (rounds_waited Requests s lengths) (rounds_waited Records s lengths) z) d.ensures) c.push_waited.ensures
