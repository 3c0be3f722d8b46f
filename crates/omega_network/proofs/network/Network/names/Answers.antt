use Rattle.omega_network.proofs.Naming.{names_where_free, names_where_led}
use Rattle.omega_network.proofs.network.Network.names.Goals as goal

pub returns-then-not-is_free : goal.returns-then-not-is_free
returns-then-not-is_free c = names_where_led _ c.args.self.now c.self.view_is c.self.invariant c.args.p c.is_free.result c.is_free.ensures c.if-not-is_free.true

pub returns-else-not-is_free : goal.returns-else-not-is_free
returns-else-not-is_free c = names_where_free _ c.args.self.now c.self.view_is c.self.invariant c.args.p c.is_free.result c.is_free.ensures
    c.deref.result.now c.deref.ensures.value c.are_named.result c.if-not-is_free.false c.are_named.ensures
