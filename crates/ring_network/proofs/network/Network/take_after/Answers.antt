use Rattle.std.proofs.Common.{◌%◌, ◌/◌, drop, arith}
use Rattle.ring_network.specs.Switches.{requests_at}
use Rattle.ring_network.proofs.Kept.{found_after, take_stays}
use Rattle.ring_network.proofs.Requests.{take_net}
use Rattle.ring_network.proofs.network.Network.take_after.Goals as goal

pub invariant_of-self : goal.invariant_of-self
invariant_of-self c =
    take_stays _ c.args.self.now c.args.stage (c.args.wire / 2) c.place_after-place.result c.index_mut.result.now
    (found_after c.self.view_is c.self.invariant c.requires.stage c.requires.wire c.place_after-place.ensures.exact c.index_mut.ensures.value)
    (c.args.wire % 2) (drop 1 (requests_at c.index_mut.result.now (c.args.wire % 2))) c.take.new.self (omega arith) c.take.ensures.after

pub returns-clause-taken : goal.returns-clause-taken
returns-clause-taken c =
    take_net c.rotations_are_inverse.ensures.inverse c.rotations_are_inverse.ensures.small _ c.args.self.now c.args.stage c.args.wire
    c.place_after-place.result c.index_mut.result.now
    (found_after c.self.view_is c.self.invariant c.requires.stage c.requires.wire c.place_after-place.ensures.exact c.index_mut.ensures.value)
    c.requires.wire c.take.new.self c.take.ensures.after
