use Rattle.console_monitor.proofs.Moves.{gets}
use Rattle.console_monitor.proofs.queue.Inlet.take.Goals as goal

pub try_pop_as-requires-clause-rule : goal.try_pop_as-requires-clause-rule
try_pop_as-requires-clause-rule c = gets _ _ c.args.self.now.ties.2
