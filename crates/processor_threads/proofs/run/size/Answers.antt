use Rattle.std.proofs.Common.{ap, ◌∙◌}
use Rattle.processor_threads.proofs.run.size.Goals as goal

pub returns-clause-size : goal.returns-clause-size
returns-clause-size c = c.config.ensures.config ∙ ap (λ m. m.config) c.machine.ensures.machine ∙ c.machine.ensures.replay.run.config
