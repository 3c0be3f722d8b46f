use Rattle.std.proofs.Common.{rules}
use Rattle.console_monitor.proofs.Moves.{begins, forks}
use Rattle.console_monitor.proofs.ends.both_ends.Goals as goal

pub ruled-requires-clause-rule : goal.ruled-requires-clause-rule
ruled-requires-clause-rule c = begins

pub another-other-requires-clause-rule : goal.another-other-requires-clause-rule
another-other-requires-clause-rule c = forks _ _ (search rules) (search rules)
