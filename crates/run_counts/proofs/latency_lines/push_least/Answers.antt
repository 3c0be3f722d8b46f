use Rattle.std.proofs.Common.{◌≡◌, ◌++◌, append_assoc, sym, ◌∙◌, subst}
use Rattle.std.specs.Fmt.{decimal}
use Rattle.std.specs.Prelude.{OnOk, codes, string_bytes}
use Rattle.run_counts.specs.LatencyLines.{least_text}
use Rattle.run_counts.proofs.latency_lines.push_least.Goals as goal

pub returns : goal.returns
unfolding least_text
returns c =
    subst (λ bytes. OnOk c.write.result (string_bytes c.write.new.self ≡ string_bytes c.args.text.now ++ bytes))
    (sym (append_assoc (codes " references " ++ decimal c.args.count) (codes " least ") (decimal c.args.low)
    ∙ append_assoc (codes " references ") (decimal c.args.count) (codes " least " ++ decimal c.args.low))) c.write.ensures.bytes
