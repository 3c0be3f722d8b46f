use Rattle.std.proofs.Common.{List, ℕ, ◌++◌, ◌∙◌, ap, append_assoc, codes, string_bytes}
use Rattle.command_io.specs.Digits.{line_feed}
use Rattle.observed_results.specs.Lines.{counted, end_text}
use Rattle.observed_results.proofs.lines.push_closing.Goals as goal

pub returns : goal.returns
returns c =
    let before = string_bytes c.push_classes.new.text in
    let results = counted c.args.results (codes "result") in
    let comma = codes ", " in
    let states = counted c.args.states (codes "state") in
    let counts = results ++ comma ++ states ++ line_feed in
    let first = append_assoc before results comma in
    let second = ap (λ (x : List ℕ). x ++ states) first ∙ append_assoc before (results ++ comma) states in
    let third = ap (λ (x : List ℕ). x ++ line_feed) second ∙ append_assoc before (results ++ comma ++ states) line_feed in
    c.in_ok-push_str.ensures.bytes
    ∙ ap (λ (x : List ℕ). x ++ line_feed)
    (c.in_ok-push_end.ensures
    ∙ ap (λ (x : List ℕ). x ++ end_text c.args.termination)
    (c.in_ok-push_counts.ensures ∙ (third ∙ ap (λ (x : List ℕ). x ++ counts) c.in_ok-push_classes.ensures)))
