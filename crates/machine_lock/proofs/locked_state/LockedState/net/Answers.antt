use Rattle.std.proofs.Common.{sym, ◌∙◌}
use Rattle.machine_lock.proofs.Returning.{net_others}
use Rattle.machine_lock.proofs.locked_state.LockedState.net.Goals as goal

pub answer-requires-clause-others : goal.answer-requires-clause-others
answer-requires-clause-others g c = net_others c.sync_row.new.self.lent c.args.step (sym c.is_network.ensures ∙ c.if-not-is_network.false)
