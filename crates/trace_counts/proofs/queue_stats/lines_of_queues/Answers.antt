use Rattle.std.proofs.Common.{List, ◌∙◌, ap}
use Rattle.steps.specs.declared.step.Step.{Step}
use Rattle.run_counts.specs.declared.queue_lengths.StageLengths.{StageLengths}
use Rattle.run_counts.specs.QueueLengths.{lengths_text}
use Rattle.trace_counts.specs.QueueLengths.{queue_lengths}
use Rattle.trace_counts.proofs.queue_stats.lines_of_queues.Goals as goal

pub returns-clause-lines : goal.returns-clause-lines
returns-clause-lines c =
    let opening = c.in_ok-machine.machine in
    let text = lengths_text c.args.format c.args.config.k in
    record {
      all = c.in_ok-all.all.items;
      home = c.in_ok-all.ensures.home;
      opening = opening;
      opens = c.in_ok-machine.ensures.opening;
      are =
          c.in_ok-lengths_text.ensures
          ∙ ap (λ (lengths : List StageLengths). text lengths) (c.as_slice-2.ensures.value ∙ c.in_ok-lengths.ensures.lengths)
          ∙ ap (λ (steps : List Step). text (queue_lengths opening steps)) c.as_slice.ensures.value;
    }
