use Rattle.std.specs.Prelude.{string_bytes}
use Rattle.run_counts.proofs.Sizes.{powers_more}
use Rattle.run_counts.proofs.latency_lines.push_powers.Goals as goal

pub loop-power-preserved : goal.loop-power-preserved
loop-power-preserved c =
    let l = c.loop-power in
    powers_more (string_bytes c.args.text.now) c.args.sample.now l.power c.count_of_power-count.result (string_bytes l.text)
    (string_bytes c.push_power.new.text) l.invariant c.in_ok-push_power.ensures c.count_of_power-count.ensures
