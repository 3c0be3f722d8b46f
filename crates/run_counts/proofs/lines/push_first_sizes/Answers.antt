use Rattle.std.specs.Prelude.{string_bytes}
use Rattle.run_counts.proofs.Sizes.{sizes_more}
use Rattle.run_counts.proofs.lines.push_first_sizes.Goals as goal

pub loop-size-preserved : goal.loop-size-preserved
loop-size-preserved c =
    let l = c.loop-size in
    sizes_more (string_bytes c.args.text.now) c.args.counts.now.groups c.args.at l.size c.count_of-count.result (string_bytes l.text)
    (string_bytes c.push_size.new.text) l.invariant c.in_ok-push_size.ensures c.count_of-count.ensures
