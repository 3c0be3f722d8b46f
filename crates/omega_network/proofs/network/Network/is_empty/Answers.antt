use Rattle.omega_network.proofs.Empty.{empty_is, not_empty}
use Rattle.omega_network.proofs.network.Network.is_empty.Goals as goal

pub returns-then-has_no_message : goal.returns-then-has_no_message
returns-then-has_no_message c = empty_is _ c.args.self.now c.self.view_is c.self.invariant c.has_no_message.result c.has_no_message.ensures
    c.if-has_no_message.true
    c.deref.result.now c.deref.ensures.value c.have_no_record.result c.have_no_record.ensures

pub returns-else-has_no_message : goal.returns-else-has_no_message
returns-else-has_no_message c = not_empty _ c.args.self.now c.self.view_is c.self.invariant c.has_no_message.result c.has_no_message.ensures
    c.if-has_no_message.false
