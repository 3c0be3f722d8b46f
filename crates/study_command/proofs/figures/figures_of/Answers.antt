use Rattle.std.proofs.Common.{◌∙◌, ap}
use Rattle.study_command.specs.Rows.{figures_of}
use Rattle.study_command.proofs.figures.figures_of.Goals as goal

pub returns-clause-figures : goal.returns-clause-figures
returns-clause-figures c = record {
  counts = c.in_ok-counts.counts;
  longest = c.in_ok-counts.longest;
  counted = c.in_ok-counts.ensures.counted;
  latencies = c.in_ok-latencies.latencies.all;
  timed = c.in_ok-latencies.ensures.timed;
  rounds = c.rounds_of-rounds.result;
  fewest = c.rounds_of-rounds.ensures;
  are =
      c.in_ok-figures_from.ensures
      ∙ ap (λ xs. figures_of c.args.config.k c.in_ok-counts.counts c.in_ok-counts.longest c.rounds_of-rounds.result xs) c.of_all.ensures;
}
