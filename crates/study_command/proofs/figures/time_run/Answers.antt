use Rattle.std.proofs.Common.{◌∙◌, ap}
use Rattle.flat_machine.specs.declared.config.Config.{Config}
use Rattle.run_counts.specs.Latencies.{LatencyState, latencies_of}
use Rattle.trace_counts.specs.Latencies.{on_words}
use Rattle.study_command.proofs.figures.time_run.Goals as goal

pub returns-clause-timed : goal.returns-clause-timed
returns-clause-timed c =
    let opening = c.in_ok-machine.machine in
    let opens = c.in_ok-machine.ensures.opening in
    record {
      opening = opening;
      opens = opens;
      are = ap (λ (t : LatencyState). t.all)
          (c.in_ok-latencies.ensures.latencies
          ∙ ap (λ (d : Config). latencies_of d.shared_words (on_words opening c.args.steps.now)) opens.config);
    }
