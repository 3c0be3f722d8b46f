use Rattle.std.proofs.Common.{List, ◌∙◌, ap}
use Rattle.flat_machine.specs.declared.config.Config.{Config}
use Rattle.steps.specs.declared.step.Step.{Step}
use Rattle.run_counts.specs.Latencies.{latencies_of}
use Rattle.run_counts.specs.LatencyLines.{latency_lines}
use Rattle.trace_counts.specs.Latencies.{on_words}
use Rattle.trace_counts.proofs.latency_stats.lines_of_latencies.Goals as goal

pub returns-clause-lines : goal.returns-clause-lines
returns-clause-lines c =
    let opening = c.in_ok-machine.machine in
    let opens = c.in_ok-machine.ensures.opening in
    record {
      all = c.in_ok-all.all.items;
      home = c.in_ok-all.ensures.home;
      opening = opening;
      opens = opens;
      are =
          c.in_ok-latencies_text.ensures
          ∙ ap latency_lines c.in_ok-latencies.ensures.latencies
          ∙ ap (λ (steps : List Step). latency_lines (latencies_of opening.config.shared_words (on_words opening steps))) c.as_slice.ensures.value
          ∙ ap (λ (d : Config). latency_lines (latencies_of d.shared_words (on_words opening c.in_ok-all.all.items))) opens.config;
    }
