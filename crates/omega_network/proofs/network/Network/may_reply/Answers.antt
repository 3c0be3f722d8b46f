use Rattle.omega_network.proofs.Naming.{may_not_where_led, may_where_free}
use Rattle.omega_network.proofs.network.Network.may_reply.Goals as goal

pub returns-then-is_free : goal.returns-then-is_free
returns-then-is_free c = may_where_free _ c.args.self.now c.self.view_is c.self.invariant c.args.p c.is_free.result c.is_free.ensures
    c.deref.result.now c.deref.ensures.value c.are_second.result c.if-is_free.true c.are_second.ensures

pub returns-else-is_free : goal.returns-else-is_free
returns-else-is_free c = may_not_where_led _ c.args.self.now c.self.view_is c.self.invariant c.args.p c.is_free.result c.is_free.ensures c.if-is_free.false
