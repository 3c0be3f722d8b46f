use Rattle.std.proofs.Common.{◌≤◌, sym, ap, subst}
use Rattle.messages.specs.Network.{Sizes}
use Rattle.omega_network.proofs.Indexing.{empty_indexed}
use Rattle.omega_network.proofs.indexed_network.IndexedNetwork.new.Goals as goal

pub invariant_of-result : goal.invariant_of-result
invariant_of-result c =
    empty_indexed c.no_bits_no_wires.ensures c.in_ok-new.field-0 c.new-2.result c.new-3.result c.in_ok-new.ensures.empty
    (subst (λ k. k ≤ 6) (sym (ap (λ (z : Sizes). z.k) c.in_ok-new.ensures.sizes)) c.requires.stages) c.new-2.ensures c.new-3.ensures
