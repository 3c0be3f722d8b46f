use Rattle.console_monitor.proofs.Moves.{sends, left_over}
use Rattle.console_monitor.proofs.queue.Sender.put.Goals as goal

pub push_as-requires-clause-rule : goal.push_as-requires-clause-rule
push_as-requires-clause-rule g c = (sends _ _ _ _ c.args.self.now.ties.2, left_over _ _ c.args.self.now.ties.2)
